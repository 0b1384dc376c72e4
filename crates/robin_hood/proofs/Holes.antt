-- A drop that moves a hole along the ring.
use Rattle.std.proofs.Common.{rules, ◌≡◌, ℕ, ◌+◌, ◌-◌, ◌%◌, ◌<◌, ◌≤◌, ◌≢◌, List, length, get_or, set, sym, refl, ap, ◌∙◌, subst, ⊎_elim, arith, length-set}
use Rattle.std.proofs.lemmas.Bool.{cases_lt, cases_eq}
use Rattle.slots.specs.declared.Slot.{Slot}
use Rattle.slots.specs.Slots.{blank, node_at, pairs_of, held, Apart}
use Rattle.robin_hood.specs.Layout.{rank_at, Spread}
use Rattle.slots.proofs.Rows.{node_same, node_other, out_apart}
use Rattle.slots.proofs.Moves.{move_apart, move_held, move_pairs}
use Rattle.slots.proofs.Counts.{held_more, held_all}
use Rattle.robin_hood.proofs.Rings.{rank_back, rank_zero, rank_same, rank_other}

-- from a row with a hole at b to the row xs with the hole at b + k, whose followers are not yet moved
pub record Hole (xs₀ : List Slot) (b : ℕ) (xs : List Slot) (k : ℕ) : Type 0 where
  pub long : length xs ≡ 1024
  pub apart : Apart xs
  pub hole : node_at xs ((b + k) % 1024) ≡ 0
  pub count : held xs ≡ held xs₀
  pub pairs : (m : ℕ) → pairs_of xs m ≡ pairs_of xs₀ m
  pub passed : (j : ℕ) → j < k → 0 < node_at xs ((b + j) % 1024)
  pub spread : (j : ℕ) → j % 1024 ≢ (b + k) % 1024 → rank_at xs ((j + 1) % 1024) ≤ rank_at xs (j % 1024) + 1
  pub gap : rank_at xs ((b + k + 1) % 1024) ≤ rank_at xs ((b + k + 1023) % 1024) + 2

-- the pair in the slot b is taken out
module _ (xs : List Slot) (b : ℕ) (long : length xs ≡ 1024) (spread : Spread xs) (apart : Apart xs) (within : b < 1024) (taken : 0 < node_at xs b) where
  b_within : b < length xs
  b_within = omega arith

  pub hole_start : Hole (set xs b blank) b (set xs b blank) 0
  hole_start =
      let e : (b + 0) % 1024 ≡ b = omega arith in
      let nn : (b + 0 + 1) % 1024 ≢ b = omega arith in
      let nb : (b + 0 + 1023) % 1024 ≢ b = omega arith in
      let up : rank_at xs ((b + 0 + 1) % 1024) ≤ rank_at xs b + 1 =
      let e₁ : (b + 0) % 1024 ≡ b = omega arith in rw e₁ at (spread (b + 0)) in
      let down : rank_at xs b ≤ rank_at xs ((b + 0 + 1023) % 1024) + 1 =
      let e₂ : (b + 0 + 1023 + 1) % 1024 ≡ b = omega arith in rw e₂ at (spread (b + 0 + 1023)) in
      record {
        long = length-set xs b blank ∙ long;
        apart = out_apart xs b b_within apart;
        hole = rw e (node_same xs b blank b_within);
        count = refl;
        pairs = λ m. refl;
        passed = λ j l. absurd (omega arith);
        spread = λ j ne.
            let ne' : j % 1024 ≢ b = omega arith in
            ⊎_elim
            (λ (a : (j + 1) % 1024 ≡ b). omega (arith, rank_same xs b blank b_within ((j + 1) % 1024) a, rank_zero b 0 refl))
            (λ (na : (j + 1) % 1024 ≡ b → ⊥). omega (arith, spread j, rank_other xs b blank b_within ((j + 1) % 1024) na, rank_other xs b blank b_within (j % 1024) ne'))
            (cases_eq ((j + 1) % 1024) b);
        gap = omega (arith, rank_other xs b blank b_within ((b + 0 + 1) % 1024) nn, rank_other xs b blank b_within ((b + 0 + 1023) % 1024) nb);
      }

module _ {xs₀ : List Slot} {b : ℕ} {xs : List Slot} {k : ℕ} (s : Hole xs₀ b xs k) where
  -- the follower stays
  pub hole_end : rank_at xs ((b + k + 1) % 1024) ≤ 1 → Spread xs
  hole_end low j =
      ⊎_elim
      (λ (a : j % 1024 ≡ (b + k) % 1024).
      let e : (j + 1) % 1024 ≡ (b + k + 1) % 1024 = omega arith in
      omega (arith, ap (rank_at xs) e))
      (λ (na : j % 1024 ≡ (b + k) % 1024 → ⊥). s.spread j na)
      (cases_eq (j % 1024) ((b + k) % 1024))

  -- the follower moves back into the hole
  module _ (high : 1 < rank_at xs ((b + k + 1) % 1024)) (few : k < 1023) where
    abbrev n : ℕ
    n = (b + k + 1) % 1024

    abbrev p : ℕ
    p = (b + k) % 1024

    abbrev f : Slot
    f = get_or xs n blank

    abbrev ys : List Slot
    ys = set xs n blank

    n_within : n < length xs
    n_within = omega (arith, s.long)

    p_within : p < length ys
    p_within = rw length-set (omega (arith, s.long))

    f_some : 0 < f.node
    f_some = ⊎_elim (λ (z : f.node ≡ 0). omega (arith, rank_zero n f.node z)) (λ (nz : f.node ≡ 0 → ⊥). omega arith) (cases_eq f.node 0)

    p_n : p ≢ n
    p_n = omega arith

    rank_p : (i : ℕ) → i ≡ p → rank_at (set ys p f) i + 1 ≡ rank_at xs n
    rank_p i e = omega (arith, rank_same ys p f p_within i e, rank_back f.node (b + k) high)

    rank_n : (i : ℕ) → i ≡ n → rank_at (set ys p f) i ≡ 0
    rank_n i e =
        let ne : i ≢ p = omega arith in
        rank_other ys p f p_within i ne ∙ rank_same xs n blank n_within i e ∙ rank_zero n 0 refl

    rank_else : (i : ℕ) → i ≢ p → i ≢ n → rank_at (set ys p f) i ≡ rank_at xs i
    rank_else i np nn = search rules

    pub hole_move : Hole xs₀ b (set ys p f) (k + 1)
    hole_move =
        let e₀ : (b + (k + 1)) % 1024 ≡ n = omega arith in
        let e₁ : (b + (k + 1) + 1) % 1024 ≡ (b + k + 2) % 1024 = omega arith in
        let e₂ : (b + (k + 1) + 1023) % 1024 ≡ p = omega arith in
        record {
          long = length-set ys p f ∙ length-set xs n blank ∙ s.long;
          apart = move_apart xs n p n_within (omega (arith, s.long)) p_n s.hole f_some s.apart;
          hole = ap (node_at (set ys p f)) e₀ ∙ node_other ys p f p_within n (λ e. p_n (sym e)) ∙ node_same xs n blank n_within;
          count = move_held xs n p n_within (omega (arith, s.long)) p_n s.hole f_some s.apart ∙ s.count;
          pairs = λ m. move_pairs xs n p n_within (omega (arith, s.long)) p_n s.hole f_some s.apart m ∙ s.pairs m;
          passed = λ j l.
              let nn : (b + j) % 1024 ≢ n = omega arith in
              ⊎_elim
              (λ (a : (b + j) % 1024 ≡ p). omega (arith, ap (node_at (set ys p f)) a, node_same ys p f p_within, f_some))
              (λ (na : (b + j) % 1024 ≡ p → ⊥).
              let l' : j < k = ⊎_elim (λ (l' : j < k). l') (λ (g : k ≤ j). let q : j ≡ k = omega arith in absurd (na (ap (λ x. (b + x) % 1024) q))) (cases_lt j k) in
              omega (arith, node_other ys p f p_within ((b + j) % 1024) na, node_other xs n blank n_within ((b + j) % 1024) nn, s.passed j l'))
              (cases_eq ((b + j) % 1024) p);
          spread = λ j ne.
              let nn : j % 1024 ≢ n = omega arith in
              ⊎_elim
              (λ (a : j % 1024 ≡ p).
              let e : (j + 1) % 1024 ≡ n = omega arith in
              omega (arith, rank_n ((j + 1) % 1024) e))
              (λ (na : j % 1024 ≡ p → ⊥).
              let nn' : (j + 1) % 1024 ≢ n = omega arith in
              ⊎_elim
              (λ (a : (j + 1) % 1024 ≡ p).
              let e : j % 1024 ≡ (b + k + 1023) % 1024 = omega arith in
              omega (arith, rank_p ((j + 1) % 1024) a, rank_else (j % 1024) na nn, ap (rank_at xs) e, s.gap))
              (λ (na' : (j + 1) % 1024 ≡ p → ⊥). omega (arith, s.spread j na, rank_else ((j + 1) % 1024) na' nn', rank_else (j % 1024) na nn))
              (cases_eq ((j + 1) % 1024) p))
              (cases_eq (j % 1024) p);
          gap =
              let np : (b + k + 2) % 1024 ≢ p = omega arith in
              let nn : (b + k + 2) % 1024 ≢ n = omega arith in
              let nj : (b + k + 1) % 1024 ≢ p = omega arith in
              let e₃ : (b + k + 1 + 1) % 1024 ≡ (b + k + 2) % 1024 = omega arith in
              let up : rank_at xs ((b + k + 2) % 1024) ≤ rank_at xs n + 1 = rw e₃ at (s.spread (b + k + 1) nj) in
              rw (e₁, e₂) (omega (arith, rank_p p refl, rank_else ((b + k + 2) % 1024) np nn));
        }

  -- the hole does not pass all the slots, since one more is empty
  pub hole_never : 1023 ≤ k → held xs₀ < 1023 → ⊥
  hole_never all room =
      let p : ℕ = (b + k) % 1024 in
      let one : Slot = record { node = 1; low = 0; high = 0 } in
      let h : p < length xs = omega (arith, s.long) in
      let full : held (set xs p one) ≡ length (set xs p one) = held_all (set xs p one) (λ i l.
      ⊎_elim
      (λ (a : i ≡ p). omega (arith, ap (node_at (set xs p one)) a, node_same xs p one h))
      (λ (na : i ≡ p → ⊥).
      let j : ℕ = (i + 1024 - b % 1024) % 1024 in
      let l' : i < 1024 = omega (arith, s.long, length-set xs p one) in
      let e : (b + j) % 1024 ≡ i = omega arith in
      let g : j < k = ⊎_elim (λ (g : j < k). g) (λ (g : k ≤ j). let q : j ≡ k = omega arith in absurd (na (sym e ∙ ap (λ x. (b + x) % 1024) q))) (cases_lt j k) in
      omega (arith, node_other xs p one h i na, subst (λ (x : ℕ). 0 < node_at xs x) e (s.passed j g)))
      (cases_eq i p)) in
      omega (arith, s.long, s.count, length-set xs p one, held_more xs p one h s.hole (omega arith))
