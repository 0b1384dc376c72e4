-- A pair that moves from its slot n to an empty slot p: the slot n is emptied first, so that no node
-- stands twice in between.
use Rattle.std.proofs.Common.{rules, ◌≡◌, ℕ, ◌<◌, ◌≢◌, List, length, get_or, set, sym, refl, ap, ◌∙◌, ⊎_elim, arith, length-set}
use Rattle.std.proofs.lemmas.Bool.{cases_eq}
use Rattle.slots.specs.declared.Slot.{Slot}
use Rattle.slots.specs.Slots.{blank, node_at, pairs_of, held, Apart}
use Rattle.slots.proofs.Rows.{node_other, out_apart, pairs_found, pairs_here, pairs_fill, pairs_clear}
use Rattle.slots.proofs.Counts.{held_more, held_less}

abbrev pub moved : List Slot → ℕ → ℕ → List Slot
moved xs n p = set (set xs n blank) p (get_or xs n blank)

module _ (xs : List Slot) (n p : ℕ) (n_within : n < length xs) (p_within : p < length xs) (other : p ≢ n) (hole : node_at xs p ≡ 0) (taken : 0 < node_at xs n) (apart : Apart xs) where
  abbrev f : Slot
  f = get_or xs n blank

  abbrev ys : List Slot
  ys = set xs n blank

  p_there : p < length ys
  p_there = rw length-set p_within

  ys_hole : node_at ys p ≡ 0
  ys_hole = node_other xs n blank n_within p other ∙ hole

  ys_apart : Apart ys
  ys_apart = out_apart xs n n_within apart

  pub move_apart : Apart (moved xs n p)
  move_apart = search rules

  pub move_held : held (moved xs n p) ≡ held xs
  move_held = omega (arith, held_more ys p f p_there ys_hole taken, held_less xs n blank n_within taken refl)

  pub move_pairs : (m : ℕ) → pairs_of (moved xs n p) m ≡ pairs_of xs m
  move_pairs m =
      ⊎_elim
      (λ (a : m ≡ f.node). ap (pairs_of (moved xs n p)) a ∙ pairs_here ys p f p_there ys_apart move_apart taken ∙ sym (pairs_found xs apart n m (omega arith) (sym a)))
      (λ (na : m ≡ f.node → ⊥). pairs_fill ys p f p_there ys_apart move_apart m ys_hole na ∙ pairs_clear xs n blank n_within apart ys_apart m refl na)
      (cases_eq m f.node)
