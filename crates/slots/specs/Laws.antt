-- A row of slots as a dictionary's pairs and nodes: what a law of the dictionary says of it.
use Rattle.std.proofs.Common.{◌≡◌, ℕ, zero, suc, true, false, List, [], ◌∷◌, is_some, None, sym, refl, inl, inr, arith}
use Rattle.std.proofs.lemmas.Bool.{cases_eq, cond-true, eq-eqb}
use Rattle.std.proofs.lemmas.Bool.Decides.{nat_tests}
use Rattle.dictionary.specs.Pairs.{among, apart}
use Rattle.slots.specs.declared.Slot.{Slot}
use Rattle.slots.specs.Slots.{seek, pairs_of, nodes_of, Apart, Absent}

pub pairs_zero : (xs : List Slot) (n : ℕ) → n ≡ 0 → pairs_of xs n ≡ None
unfolding pairs_of
pairs_zero xs n z = cond-true _ _ _ (eq-eqb n 0 z)

no_zero : (xs : List Slot) → among 0 (nodes_of xs) ≡ false
unfolding nodes_of
no_zero [] = refl
no_zero (s ∷ ss) = let more = no_zero ss in grind (arith, nat_tests)

seek_among : (xs : List Slot) (n : ℕ) → (n ≡ 0 → ⊥) → is_some (seek xs n) ≡ among n (nodes_of xs)
unfolding nodes_of seek
seek_among [] n nz = refl
seek_among (s ∷ ss) n nz = let more = seek_among ss n nz in grind (arith, nat_tests)

-- a node has a pair if it stands in the row
pub pairs_among : (xs : List Slot) (n : ℕ) → is_some (pairs_of xs n) ≡ among n (nodes_of xs)
unfolding pairs_of
pairs_among xs n = elim (cases_eq n 0) [
  | inl e ↦ rw e (sym (no_zero xs))
  | inr e ↦ let at = seek_among xs n e in grind (arith, nat_tests)
]

-- a node that stands in no slot is not among the nodes
absent_among : (xs : List Slot) (n : ℕ) → Absent xs n → among n (nodes_of xs) ≡ false
unfolding nodes_of
absent_among [] n none = refl
absent_among (s ∷ ss) n none =
    let more = absent_among ss n (λ i. none (suc i)) in
    let other : s.node ≡ n → ⊥ = none zero in
    grind (arith, nat_tests)

-- no node is twice among the nodes
pub apart_nodes : (xs : List Slot) → Apart xs → apart (nodes_of xs) ≡ true
unfolding nodes_of
apart_nodes [] a = refl
apart_nodes (s ∷ ss) a =
    let more = apart_nodes ss (λ j k pe. let q : suc j ≡ suc k = a (suc j) (suc k) pe in omega arith) in
    elim (cases_eq s.node 0) [
      | inl e ↦ grind (arith, nat_tests)
      | inr e ↦ (
          let none = absent_among ss s.node (λ i is. let q : zero ≡ suc i = a zero (suc i) (omega arith, sym is) in omega arith) in
          grind (arith, nat_tests))
    ]
