-- A put that carries a pair along the ring.
use Rattle.std.proofs.Common.{◌≡◌, ℕ, ◌+◌, ◌-◌, ◌%◌, ◌<◌, ◌≤◌, List, length, get_or, set, refl, ap, subst, ⊎_elim, arith}
use Rattle.std.proofs.lemmas.Bool.{cases_lt, cases_eq}
use Rattle.slots.specs.declared.Slot.{Slot}
use Rattle.slots.specs.Slots.{blank, node_at, held, Apart, Absent}
use Rattle.slots.proofs.Rows.{node_same, node_other}
use Rattle.slots.proofs.Counts.{held_all}
use Rattle.slots.proofs.Carried.{Carried, carried_start, swapped}
use Rattle.robin_hood.specs.Homes.{home_of, rank_of}
use Rattle.robin_hood.specs.Layout.{rank_at, Spread}
use Rattle.robin_hood.proofs.Rings.{home_below, rank_step, rank_home, spread_set, rank_same, rank_zero}

-- the pair c is carried to the slot h + k, and the slots from h on are passed
pub record Carrying (xs₀ : List Slot) (new : Slot) (h : ℕ) (xs : List Slot) (c : Slot) (k : ℕ) : Type 0 where
  pub carried : Carried 1024 xs₀ new xs c
  pub spread : Spread xs
  pub passed : (j : ℕ) → j < k → 0 < node_at xs ((h + j) % 1024)
  pub fits : rank_of ((h + k) % 1024) c.node ≤ rank_at xs ((h + k + 1023) % 1024) + 1

pub carry_start : (xs : List Slot) (c : Slot) (h : ℕ) → h ≡ home_of c.node → length xs ≡ 1024 → Spread xs → Apart xs → 0 < c.node → Absent xs c.node → Carrying xs c h xs c 0
carry_start xs c h is long spread apart some absent =
    let e : (h + 0) % 1024 ≡ home_of c.node = omega (arith, home_below c.node) in
    record { carried = carried_start long apart some absent; spread = spread; passed = λ j l. absurd (omega arith); fits = rw e (omega (arith, rank_home c.node)) }

module _ {xs₀ : List Slot} {new : Slot} {h : ℕ} {xs : List Slot} {c : Slot} {k : ℕ} (s : Carrying xs₀ new h xs c k) where
  pub at_within : (h + k) % 1024 < length xs
  at_within = omega (arith, s.carried.long)

  -- the resident stays
  pub carry_pass : 0 < node_at xs ((h + k) % 1024) → rank_of ((h + k) % 1024) c.node ≤ rank_at xs ((h + k) % 1024) → Carrying xs₀ new h xs c (k + 1)
  carry_pass taken stays =
      let e : (h + (k + 1)) % 1024 ≡ (h + k + 1) % 1024 = omega arith in
      let f : (h + (k + 1) + 1023) % 1024 ≡ (h + k) % 1024 = omega arith in
      record {
        carried = s.carried;
        spread = s.spread;
        passed = λ j l. ⊎_elim (λ (b : j < k). s.passed j b) (λ (b : k ≤ j). let q : j ≡ k = omega arith in rw q taken) (cases_lt j k);
        fits = rw (e, f) (omega (arith, rank_step c.node (h + k)));
      }

  pub put_spread : rank_at xs ((h + k) % 1024) ≤ rank_of ((h + k) % 1024) c.node → Spread (set xs ((h + k) % 1024) c)
  put_spread up = spread_set xs (h + k) c s.carried.long s.spread s.fits up

  -- the pair carried goes into the empty slot
  pub end_spread : node_at xs ((h + k) % 1024) ≡ 0 → Spread (set xs ((h + k) % 1024) c)
  end_spread empty = put_spread (omega (arith, rank_zero ((h + k) % 1024) (node_at xs ((h + k) % 1024)) empty))

  -- the pair carried changes places with the resident
  pub carry_swap : 0 < node_at xs ((h + k) % 1024) → rank_at xs ((h + k) % 1024) ≤ rank_of ((h + k) % 1024) c.node → Carrying xs₀ new h (set xs ((h + k) % 1024) c) (get_or xs ((h + k) % 1024) blank) (k + 1)
  carry_swap taken less =
      let p : ℕ = (h + k) % 1024 in
      let e : (h + (k + 1)) % 1024 ≡ (h + k + 1) % 1024 = omega arith in
      let f : (h + (k + 1) + 1023) % 1024 ≡ (h + k) % 1024 = omega arith in
      record {
        carried = swapped s.carried p at_within taken;
        spread = put_spread (omega arith);
        passed = λ j l.
            ⊎_elim
            (λ (a : (h + j) % 1024 ≡ p). omega (arith, ap (node_at (set xs p c)) a, node_same xs p c at_within, s.carried.some))
            (λ (na : (h + j) % 1024 ≡ p → ⊥).
            let b : j < k = ⊎_elim (λ (b : j < k). b) (λ (b : k ≤ j). let q : j ≡ k = omega arith in absurd (na (ap (λ x. (h + x) % 1024) q))) (cases_lt j k) in
            omega (arith, node_other xs p c at_within ((h + j) % 1024) na, s.passed j b))
            (cases_eq ((h + j) % 1024) p);
        fits = rw (e, f) (omega (arith, rank_step (node_at xs p) (h + k), rank_same xs p c at_within p refl));
      }

  -- the walk does not pass all the slots, since one is empty
  pub carry_never : 1024 ≤ k → held xs₀ < 1024 → ⊥
  carry_never all room =
      let full : held xs ≡ length xs = held_all xs (λ i l.
      let j : ℕ = (i + 1024 - h % 1024) % 1024 in
      let e : (h + j) % 1024 ≡ i = omega (arith, s.carried.long) in
      let b : j < k = omega arith in
      subst (λ (x : ℕ). 0 < node_at xs x) e (s.passed j b)) in
      omega (arith, s.carried.long, s.carried.count)
