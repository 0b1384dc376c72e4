-- The walk for a node, from its home on.
use Rattle.std.proofs.Common.{rules, ◌≡◌, ℕ, ◌+◌, ◌-◌, ◌%◌, ◌<◌, ◌≤◌, List, length, refl, ⊎_elim, arith}
use Rattle.std.proofs.lemmas.Bool.{cases_lt, cases_eq}
use Rattle.slots.specs.declared.Slot.{Slot}
use Rattle.slots.specs.Slots.{node_at, held, Absent}
use Rattle.slots.proofs.Rows.{taken_within}
use Rattle.slots.proofs.Counts.{held_all}
use Rattle.robin_hood.specs.Homes.{home_of, away_of, rank_of}
use Rattle.robin_hood.specs.Layout.{rank_at, Spread, Passes, Stops, Reaches}
use Rattle.robin_hood.proofs.Rings.{home_below, around, away_at, rank_some, rank_zero, descent}

-- where n stands, every slot from its home to there has a rank above its step
high : (xs : List Slot) → Spread xs → (n i k : ℕ) → 0 < n → i < 1024 → node_at xs i ≡ n → k ≤ away_of i n → k < rank_at xs ((home_of n + k) % 1024)
high xs s n i k pos h is low =
    let q : (home_of n + k + (away_of i n - k)) % 1024 ≡ i = omega (arith, home_below n) in
    let d : rank_at xs i ≤ rank_at xs ((home_of n + k) % 1024) + (away_of i n - k) = rw q at (descent xs s (home_of n + k) (away_of i n - k)) in
    let r : rank_at xs i ≡ away_of i n + 1 = rw is (rank_some i n pos) in
    omega arith

-- the first k slots from the home h of n on are passed
pub record Walked (xs : List Slot) (n h k : ℕ) : Type 0 where
  pub home : h ≡ home_of n
  pub long : length xs ≡ 1024
  pub some : 0 < n
  pub passed : (j : ℕ) → j < k → Passes xs n ((home_of n + j) % 1024)

pub walk_start : (xs : List Slot) (n h : ℕ) → h ≡ home_of n → length xs ≡ 1024 → 0 < n → Walked xs n h 0
walk_start xs n h home long some = record { home = home; long = long; some = some; passed = λ j l. absurd (omega arith) }

module _ {xs : List Slot} {n h k : ℕ} (w : Walked xs n h k) where
  abbrev at : ℕ
  at = (h + k) % 1024

  at_is : at ≡ (home_of n + k) % 1024
  at_is = rw w.home refl

  rank_here : k < 1024 → rank_of at n ≡ k + 1
  rank_here l = rw at_is (omega (arith, rank_some ((home_of n + k) % 1024) n w.some, away_at n k l))

  -- another node of a rank above the step stands in the slot
  pub walk_on : k < 1024 → (node_at xs at ≡ n → ⊥) → k < rank_at xs at → Walked xs n h (k + 1)
  walk_on l other above =
      record {
        home = w.home;
        long = w.long;
        some = w.some;
        passed = λ j b. ⊎_elim (λ (c : j < k). w.passed j c)
            (λ (c : k ≤ j). let q : j ≡ k = omega arith in rw (q, ← at_is) (other, omega (arith, rank_here l)))
            (cases_lt j k);
      }

  pub walk_reaches : k < 1024 → Reaches xs n at
  walk_reaches l = search rules

  pub walk_stops : k < 1024 → rank_at xs at ≤ k → Stops xs n at
  walk_stops l low = omega (arith, rank_here l)

  pub walk_absent : Spread xs → k < 1024 → rank_at xs at ≤ k → Absent xs n
  walk_absent s l low i is =
      let within : i < 1024 = omega (arith, taken_within xs i (omega (arith, w.some)), w.long) in
      ⊎_elim (λ (a : away_of i n < k). (w.passed (away_of i n) a).0 (rw (around i n within) is))
      (λ (b : k ≤ away_of i n). omega (arith, rw (← at_is) at (high xs s n i k w.some within is b)))
      (cases_lt (away_of i n) k)

  -- the walk does not pass all the slots, since one is empty
  pub walk_never : 1024 ≤ k → held xs < 1024 → ⊥
  walk_never all room =
      let full : held xs ≡ length xs = held_all xs (λ i l.
      let within : i < 1024 = omega (arith, w.long) in
      let b : away_of i n < k = omega (arith, home_below n) in
      let r : rank_of i n ≤ rank_at xs i = rw (around i n within) at (w.passed (away_of i n) b).1 in
      ⊎_elim (λ (z : node_at xs i ≡ 0). absurd (omega (arith, rank_zero i (node_at xs i) z, rank_some i n w.some))) (λ (nz : node_at xs i ≡ 0 → ⊥). omega arith) (cases_eq (node_at xs i) 0)) in
      omega (arith, w.long)
