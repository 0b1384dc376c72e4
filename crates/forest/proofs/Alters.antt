-- The parts of a forest, and what a call may alter of it.
--
--   Far, far_or          a number is none of some, or is one of them
--   stand, sized         a bucket's tree stands, and its size is right
--   lone, two_lone       an index is in one tree at most
--   used_long            as many indices are in use as there are entries
--   Written              another table with the same buckets, other roots and other sizes
--   unwritten, root_set, size_set  the table as it is; with a root written; with a size written
--   Altered              trees of some numbers were altered, and these indices written to; no other tree has one of them
--   kept_but, planted    the other trees are as they were; if the altered ones stand, so does the forest
--   one_moved, two_moved how often an index is in use, after one tree was altered, or two
use Rattle.std.proofs.Common.{◌≡◌, ℕ, ◌+◌, ◌≤◌, true, cond, ltb, ◌⊎◌, List, [], ◌∷◌, length, sym, refl, ap, ◌∙◌, subst, inl, inr, arith, length-append}
use Rattle.std.specs.List.{flat_map, AllByRecursion}
use Rattle.std.proofs.lemmas.Bool.{cases_eq}
use Rattle.std.proofs.lemmas.Bool.Decides.{nat_tests}
use Rattle.dictionary.specs.Pairs.{among}
use Rattle.links.specs.Orders.{with_at}
use Rattle.links.proofs.Orders.{all_among}
use Rattle.buckets.specs.declared.Table.{Table}
use Rattle.buckets.specs.Tables.{rep_of, size_of, root_of, prev_of, next_of, order_of, Reads}
use Rattle.buckets.proofs.Lays.{all_apart}
use Rattle.trees.specs.Counts.{times}
use Rattle.trees.specs.Trees.{entries, places}
use Rattle.trees.specs.Pools.{tree_at, Standing, Kept}
use Rattle.trees.proofs.Pools.{places_long, same_tree, standing_kept}
use Rattle.avl.specs.declared.pool.Pool.{Pool}
use Rattle.avl.specs.Spares.{free, Shared}
use Rattle.forest.specs.Forests.{tree_of, items_of, places_of, used, Forest, KeptBut}
use Rattle.forest.proofs.Shares as shares
use Rattle.forest.proofs.Shares.{here, later, all_from, two_parts}

abbrev pub Far : List ℕ → ℕ → Type 0
Far ns i = AllByRecursion (λ n. i ≡ n → ⊥) ns

far_or : (ns : List ℕ) (i : ℕ) → Far ns i ⊎ (among i ns ≡ true)
far_or [] i = inl tt
far_or (n ∷ ns) i = elim (cases_eq i n) [
  | inl e ↦ inr (here i n ns e)
  | inr e ↦ elim (far_or ns i) [ inl h ↦ inl (e, h) | inr t ↦ inr (later i n ns t) ]
]

pub at_most : (m : ℕ) → cond (ltb m 512) 1 0 ≤ 1
at_most m = grind (arith, nat_tests)

module _ (t : Table) (p : Pool) (f : Forest t p) where
  pub stand : (n : ℕ) → among n (order_of t) ≡ true → Standing p.nodes (root_of t n)
  stand n i = all_among (λ z. Standing p.nodes (root_of t z)) (order_of t) n f.trees i

  pub sized : (n : ℕ) → among n (order_of t) ≡ true → size_of t n ≡ length (items_of t p n)
  sized n i = all_among (λ z. size_of t z ≡ length (items_of t p z)) (order_of t) n f.sizes i

  lone : (m : ℕ) → times m (used t p) ≤ 1
  lone m = omega (arith, f.shared m, at_most m)

  pub two_lone : (n k m : ℕ) → among n (order_of t) ≡ true → among k (order_of t) ≡ true → (n ≡ k → ⊥) → times m (places_of t p n) + times m (places_of t p k) ≤ 1
  two_lone n k m i j ne = omega (arith, lone m, two_parts (places_of t p) m (order_of t) n k i j ne)

pub used_long : (t : Table) (p : Pool) → length (used t p) ≡ length (flat_map (items_of t p) (order_of t))
used_long t p = over (order_of t)
  where
    over : (order : List ℕ) → length (flat_map (places_of t p) order) ≡ length (flat_map (items_of t p) order)
    over [] = refl
    over (n ∷ ns) =
        omega (arith, over ns, places_long (tree_of t p n), length-append (places_of t p n) (flat_map (places_of t p) ns), length-append (items_of t p n) (flat_map (items_of t p) ns))

pub record Written (t u : Table) (roots sizes : ℕ → ℕ) : Type 0 where
  pub order : order_of u ≡ order_of t
  pub rep : rep_of u ≡ rep_of t
  pub next : next_of u ≡ next_of t
  pub prev : prev_of u ≡ prev_of t
  pub root : root_of u ≡ roots
  pub size : size_of u ≡ sizes

pub unwritten : (t : Table) → Written t t (root_of t) (size_of t)
unwritten t = record { order = refl; rep = refl; next = refl; prev = refl; root = refl; size = refl }

module _ {roots sizes : ℕ → ℕ} (t v u : Table) (n x : ℕ) (w : Written t v roots sizes) (o : order_of u ≡ order_of v) where
  pub root_set : Reads v u (rep_of v) (size_of v) (with_at (root_of v) n x) (prev_of v) (next_of v) → Written t u (with_at roots n x) sizes
  root_set r = record {
    order = o ∙ w.order;
    rep = r.rep ∙ w.rep;
    next = r.next ∙ w.next;
    prev = r.prev ∙ w.prev;
    root = r.root ∙ ap (λ h. with_at h n x) w.root;
    size = r.size ∙ w.size;
  }

  pub size_set : Reads v u (rep_of v) (with_at (size_of v) n x) (root_of v) (prev_of v) (next_of v) → Written t u roots (with_at sizes n x)
  size_set r = record {
    order = o ∙ w.order;
    rep = r.rep ∙ w.rep;
    next = r.next ∙ w.next;
    prev = r.prev ∙ w.prev;
    root = r.root ∙ w.root;
    size = r.size ∙ ap (λ h. with_at h n x) w.size;
  }

pub record Altered (t : Table) (p : Pool) (u : Table) (q : Pool) (roots sizes : ℕ → ℕ) (ns ps : List ℕ) : Type 0 where
  pub table : Written t u roots sizes
  pub root_far : (i : ℕ) → Far ns i → roots i ≡ root_of t i
  pub size_far : (i : ℕ) → Far ns i → sizes i ≡ size_of t i
  pub nodes : Kept p.nodes q.nodes ps
  pub out : (i : ℕ) → among i (order_of t) ≡ true → Far ns i → (m : ℕ) → times m (places_of t p i) + times m ps ≤ 1

module _ {roots sizes : ℕ → ℕ} (t : Table) (p : Pool) (u : Table) (q : Pool) (ns ps : List ℕ) (f : Forest t p) (a : Altered t p u q roots sizes ns ps) where
  far_root : (i : ℕ) → Far ns i → root_of u i ≡ root_of t i
  far_root i h = ap (λ g. g i) a.table.root ∙ a.root_far i h

  far_size : (i : ℕ) → Far ns i → size_of u i ≡ size_of t i
  far_size i h = ap (λ g. g i) a.table.size ∙ a.size_far i h

  others : (i : ℕ) → among i (order_of t) ≡ true → Far ns i → tree_of u q i ≡ tree_of t p i
  others i s h = ap (tree_at q.nodes) (far_root i h) ∙ same_tree p.nodes q.nodes ps a.nodes (root_of t i) (a.out i s h) (stand t p f i s)

  others_stand : (i : ℕ) → among i (order_of t) ≡ true → Far ns i → Standing q.nodes (root_of u i)
  others_stand i s h = subst (Standing q.nodes) (sym (far_root i h)) (standing_kept p.nodes q.nodes ps a.nodes (root_of t i) (a.out i s h) (stand t p f i s))

  others_sized : (i : ℕ) → among i (order_of t) ≡ true → Far ns i → size_of u i ≡ length (items_of u q i)
  others_sized i s h = far_size i h ∙ sized t p f i s ∙ ap (λ z. length (entries z)) (sym (others i s h))

  pub kept_but : KeptBut t p u q ns
  kept_but = record { order = a.table.order; rep = a.table.rep; next = a.table.next; prev = a.table.prev; others = others }

  -- what holds of the numbers that were altered, and of the others
  everywhere : (P : ℕ → Type 0) → AllByRecursion P ns → ((i : ℕ) → among i (order_of t) ≡ true → Far ns i → P i) → AllByRecursion P (order_of u)
  everywhere P new old = subst (AllByRecursion P) (sym a.table.order) (all_from P (order_of t) (λ i s. elim (far_or ns i) [ inl h ↦ old i s h | inr b ↦ all_among P ns i new b ]))

  pub planted : AllByRecursion (λ n. Standing q.nodes (root_of u n)) ns → AllByRecursion (λ n. size_of u n ≡ length (items_of u q n)) ns → Shared (used u q) (free q) → Forest u q
  planted st sz sh = record {
    trees = everywhere (λ n. Standing q.nodes (root_of u n)) st others_stand;
    sizes = everywhere (λ n. size_of u n ≡ length (items_of u q n)) sz others_sized;
    shared = sh;
  }

  same_order : (m : ℕ) → times m (used u q) ≡ times m (flat_map (places_of u q) (order_of t))
  same_order m = ap (λ o. times m (flat_map (places_of u q) o)) a.table.order

  pub one_moved : (n : ℕ) → ns ≡ n ∷ [] → among n (order_of t) ≡ true → (m : ℕ) → times m (used u q) + times m (places_of t p n) ≡ times m (used t p) + times m (places_of u q n)
  one_moved n is i m =
      let h : (j : ℕ) → among j (order_of t) ≡ true → (j ≡ n → ⊥) → times m (places_of u q j) ≡ times m (places_of t p j) =
      λ j s ne. ap (λ z. times m (places z)) (others j s (subst (λ z. Far z j) (sym is) (ne, tt))) in
      omega (arith, same_order m, shares.moved m (places_of t p) (places_of u q) (order_of t) n (all_apart t) i h)

  pub two_moved : (n k : ℕ) → ns ≡ n ∷ k ∷ [] → among n (order_of t) ≡ true → among k (order_of t) ≡ true → (n ≡ k → ⊥) → (m : ℕ) →
      times m (used u q) + times m (places_of t p n) + times m (places_of t p k) ≡ times m (used t p) + times m (places_of u q n) + times m (places_of u q k)
  two_moved n k is i j ne m =
      let h : (x : ℕ) → among x (order_of t) ≡ true → (x ≡ n → ⊥) → (x ≡ k → ⊥) → times m (places_of u q x) ≡ times m (places_of t p x) =
      λ x s a b. ap (λ z. times m (places z)) (others x s (subst (λ z. Far z x) (sym is) (a, (b, tt)))) in
      omega (arith, same_order m, shares.two_moved m (places_of t p) (places_of u q) (order_of t) n k (all_apart t) i j ne h)
