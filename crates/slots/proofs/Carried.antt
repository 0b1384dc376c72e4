-- A pair carried along a row of slots, until it comes to an empty one.
use Rattle.std.proofs.Common.{rules, ◌≡◌, ℕ, ◌+◌, ◌<◌, ◌≢◌, List, length, get_or, set, sym, refl, ap, ◌∙◌, ⊎_elim, arith, length-set}
use Rattle.std.proofs.lemmas.Bool.{cases_eq, cond-true, cond-false, eq-eqb, ne_eqb}
use Rattle.dictionary.specs.Pairs.{with_pair}
use Rattle.slots.specs.declared.Slot.{Slot}
use Rattle.slots.specs.Slots.{blank, node_at, links_of, pairs_of, held, Apart, Absent}
use Rattle.slots.proofs.Rows.{node_same, node_other, apart_set, pairs_found, pairs_here, pairs_else, pairs_fill}
use Rattle.slots.proofs.Counts.{held_more, held_same}

-- from a row xs₀ and a new pair: the row xs beside the pair c that is carried
pub record Carried (size : ℕ) (xs₀ : List Slot) (new : Slot) (xs : List Slot) (c : Slot) : Type 0 where
  pub long : length xs ≡ size
  pub apart : Apart xs
  pub some : 0 < c.node
  pub absent : Absent xs c.node
  pub count : held xs ≡ held xs₀
  pub pairs : (m : ℕ) → with_pair (pairs_of xs) c.node (links_of c) m ≡ with_pair (pairs_of xs₀) new.node (links_of new) m

pub carried_start : {size : ℕ} {xs : List Slot} {c : Slot} → length xs ≡ size → Apart xs → 0 < c.node → Absent xs c.node → Carried size xs c xs c
carried_start long apart some absent = search rules

module _ {size : ℕ} {xs₀ : List Slot} {new : Slot} {xs : List Slot} {c : Slot} (s : Carried size xs₀ new xs c) (p : ℕ) (h : p < length xs) where
  pub put_apart : Apart (set xs p c)
  put_apart = apart_set xs p c h s.apart (λ i ne e pos. s.absent i e)

  -- the pair carried goes into an empty slot
  pub put_held : node_at xs p ≡ 0 → held (set xs p c) ≡ held xs₀ + 1
  put_held empty = omega (arith, held_more xs p c h empty s.some, s.count)

  pub put_pairs : node_at xs p ≡ 0 → (m : ℕ) → pairs_of (set xs p c) m ≡ with_pair (pairs_of xs₀) new.node (links_of new) m
  put_pairs empty m =
      ⊎_elim
      (λ (a : m ≡ c.node). rw a (pairs_here xs p c h s.apart put_apart s.some ∙ sym (cond-true _ _ _ (eq-eqb c.node c.node refl)) ∙ s.pairs c.node))
      (λ (na : m ≡ c.node → ⊥). pairs_fill xs p c h s.apart put_apart m empty na ∙ sym (cond-false _ _ _ (ne_eqb m c.node na)) ∙ s.pairs m)
      (cases_eq m c.node)

  -- the pair carried changes places with the resident
  pub swapped : 0 < node_at xs p → Carried size xs₀ new (set xs p c) (get_or xs p blank)
  swapped taken =
      record {
        long = length-set xs p c ∙ s.long;
        apart = put_apart;
        some = taken;
        absent = λ i q.
            ⊎_elim
            (λ (a : i ≡ p). s.absent p (sym q ∙ ap (node_at (set xs p c)) a ∙ node_same xs p c h))
            (λ (na : i ≡ p → ⊥). na (s.apart i p (omega (arith, node_other xs p c h i na), sym (node_other xs p c h i na) ∙ q)))
            (cases_eq i p);
        count = held_same xs p c h taken s.some ∙ s.count;
        pairs = λ m.
            let r : Slot = get_or xs p blank in
            ⊎_elim
            (λ (a : m ≡ r.node).
            let nc : m ≢ c.node = λ b. s.absent p (sym a ∙ b) in
            cond-true _ _ _ (eq-eqb m r.node a) ∙ sym (pairs_found xs s.apart p m (omega arith) (sym a)) ∙ sym (cond-false _ _ _ (ne_eqb m c.node nc)))
            (λ (na : m ≡ r.node → ⊥).
            cond-false _ _ _ (ne_eqb m r.node na)
            ∙ ⊎_elim
            (λ (b : m ≡ c.node). ap (pairs_of (set xs p c)) b ∙ pairs_here xs p c h s.apart put_apart s.some ∙ sym (cond-true _ _ _ (eq-eqb m c.node b)))
            (λ (nb : m ≡ c.node → ⊥). pairs_else xs p c h s.apart put_apart m na nb ∙ sym (cond-false _ _ _ (ne_eqb m c.node nb)))
            (cases_eq m c.node))
            (cases_eq m r.node)
            ∙ s.pairs m;
      }
