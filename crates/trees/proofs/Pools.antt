-- Standing trees: read off the pool, taken apart at the root, and left alone by writes elsewhere.
--
--   inside, low, size   the places of a tree are in the pool; its height and size are small
--   places_long         a tree has as many places as entries
--   tree_is, standing   a tree that stands is the one read off the pool
--   standing_none, end_is  under NONE there is no tree
--   high_is             the stored height is the tree's
--   Opened, opened      a tree under an index, taken apart at its root
--   falls_left, falls_right  the stored height falls on the way down
--   steps_left, steps_right  and the subtree stands
--   lies_kept, stands_kept, same_tree, standing_kept  a tree outside of what was altered still stands
--   kept_none, kept_then  no change; two changes, one after the other
--   entries_are         the entries are those of the nodes
use Rattle.std.proofs.Common.{◌≡◌, ℕ, zero, suc, ◌+◌, ◌<◌, ◌≤◌, eqb, List, ◌∷◌, ◌++◌, map, length, sym, refl, ap, ◌∙◌, subst, inl, inr, ⊎_elim, arith, length-append}
use Rattle.std.proofs.lemmas.List.{map-append}
use Rattle.std.proofs.lemmas.Bool.{eq-eqb, ne_eqb, cond-true, cond-false, cases_lt, cases_eq}
use Rattle.entry.specs.declared.Entry.{Entry}
use Rattle.entry.proofs.Orders.{Split, rising_split}
use Rattle.trees.specs.declared.Node.{Node}
use Rattle.trees.specs.Counts.{single, times}
use Rattle.trees.specs.Trees.{Tree, leaf, node, top, tall, entries, places, Balanced}
use Rattle.trees.specs.Pools.{node_at, entry_at, high, Lies, Stands, tree_for, tree_at, left_at, right_at, entries_at, places_at, Standing, Kept}
use Rattle.trees.proofs.Counts.{single_same, single_other, times_append, times_all, distinct_few}
use Rattle.trees.proofs.Heights.{fewest_le, fewest_holds}

pub inside : (ns : List Node) (t : Tree) (m : ℕ) → Lies ns t → 1 ≤ times m (places t) → m < length ns
inside ns leaf m h z = absurd (omega arith)
inside ns (node i e l r) m h z = elim (cases_eq m i) [
  | inl is ↦ omega (arith, h.0)
  | inr ne ↦ elim (cases_lt 0 (times m (places l))) [
    | inl a ↦ inside ns l m h.2 (omega arith)
    | inr b ↦ inside ns r m h.3 (omega (arith, times_append m (places l) (i ∷ places r), single_other m i ne))
  ]
]

pub places_long : (t : Tree) → length (places t) ≡ length (entries t)
places_long leaf = refl
places_long (node i e l r) = omega (arith, places_long l, places_long r, length-append (places l) (i ∷ places r), length-append (entries l) (e ∷ entries r))

size_of : (ns : List Node) (t : Tree) → Lies ns t → length ns ≤ 512 → ((m : ℕ) → times m (places t) ≤ 1) → length (entries t) ≤ 512
size_of ns t h few once = omega (arith, places_long t, distinct_few 512 (places t) (times_all (λ x. x < 512) (places t) (λ m z. omega (arith, inside ns t m h z))) once)

low_of : (ns : List Node) (t : Tree) → Lies ns t → length ns ≤ 512 → ((m : ℕ) → times m (places t) ≤ 1) → Balanced t → tall t ≤ 12
low_of ns t h few once b = ⊎_elim (λ (lt : tall t < 13). omega arith)
    (λ (le : 13 ≤ tall t). absurd (omega (arith, fewest_le 13 (tall t) le, fewest_holds t b, size_of ns t h few once))) (cases_lt (tall t) 13)

pub low : (ns : List Node) (root : ℕ) (t : Tree) → Stands ns root t → tall t ≤ 12
low ns root t s = low_of ns t s.lies s.few s.apart s.balanced

pub size : (ns : List Node) (root : ℕ) → Standing ns root → length (entries_at ns root) ≤ 512
size ns root s = size_of ns (tree_at ns root) s.lies s.few s.apart

tree_for_is : (f : ℕ) (ns : List Node) (t : Tree) → length ns ≤ 512 → Lies ns t → tall t ≤ f → tree_for f ns (top t) ≡ t
unfolding tree_for
tree_for_is zero ns leaf few h le = refl
tree_for_is zero ns (node i e l r) few h le = absurd (omega arith)
tree_for_is (suc f) ns leaf few h le = refl
tree_for_is (suc f) ns (node i e l r) few h le =
    let lt : i < length ns = h.0 in
    let a : tree_for f ns (node_at ns i).left ≡ l = ap (λ n. tree_for f ns n.left) h.1 ∙ tree_for_is f ns l few h.2 (omega arith) in
    let b : tree_for f ns (node_at ns i).right ≡ r = ap (λ n. tree_for f ns n.right) h.1 ∙ tree_for_is f ns r few h.3 (omega arith) in
    rw (ne_eqb i 65535 (omega arith), tree_for) (λ d. node i (record { key = (h.1 d).key; note = (h.1 d).note }) (a d) (b d))

pub tree_is : (ns : List Node) (root : ℕ) (t : Tree) → Stands ns root t → tree_at ns root ≡ t
unfolding tree_at
tree_is ns root t s = ap (tree_for 12 ns) (sym s.root_is) ∙ tree_for_is 12 ns t s.few s.lies (low ns root t s)

pub standing : (ns : List Node) (root : ℕ) (t : Tree) → Stands ns root t → Standing ns root
standing ns root t s = subst (Stands ns root) (sym (tree_is ns root t s)) s

no_tree : (ns : List Node) → length ns ≤ 512 → Stands ns 65535 leaf
no_tree ns few = record { lies = tt; root_is = refl; balanced = tt; rising = tt; apart = λ m. omega arith; few = few }

pub standing_none : (ns : List Node) → length ns ≤ 512 → Standing ns 65535
standing_none ns few = standing ns 65535 leaf (no_tree ns few)

pub end_is : (ns : List Node) (root : ℕ) → root ≡ 65535 → tree_at ns root ≡ leaf
unfolding tree_at tree_for
end_is ns root e = ap (tree_for 12 ns) e

high_of : (ns : List Node) (root : ℕ) (t : Tree) → Stands ns root t → high ns root ≡ tall t
high_of ns root leaf s = cond-true (eqb root 65535) _ _ (eq-eqb root 65535 (sym s.root_is))
high_of ns root (node i e l r) s =
    let lt : i < length ns = s.lies.0 in
    let few : length ns ≤ 512 = s.few in
    let is : i ≡ root = s.root_is in
    cond-false (eqb root 65535) _ _ (ne_eqb root 65535 (omega arith)) ∙ ap (λ x. (node_at ns x).height) (sym is) ∙ ap (λ n. n.height) s.lies.1

pub high_is : (ns : List Node) (root : ℕ) → Standing ns root → high ns root ≡ tall (tree_at ns root)
high_is ns root s = high_of ns root (tree_at ns root) s

pub record Opened (ns : List Node) (root : ℕ) : Type 0 where
  pub here : tree_at ns root ≡ node root (entry_at ns root) (left_at ns root) (right_at ns root)
  pub inside : root < length ns
  pub left : Standing ns (node_at ns root).left
  pub right : Standing ns (node_at ns root).right
  pub split : Split (entries (left_at ns root)) (entry_at ns root) (entries (right_at ns root))
  pub level : (tall (left_at ns root) ≤ 1 + tall (right_at ns root)) × (tall (right_at ns root) ≤ 1 + tall (left_at ns root))
  pub apart : (m : ℕ) → times m (places (left_at ns root)) + single m root + times m (places (right_at ns root)) ≤ 1

module _ (ns : List Node) (i : ℕ) (e : Entry) (l r : Tree) (s : Stands ns i (node i e l r)) where
  count : (m : ℕ) → times m (places l) + single m i + times m (places r) ≤ 1
  count m = omega (arith, s.apart m, times_append m (places l) (i ∷ places r))

  sorted : Split (entries l) e (entries r)
  sorted = rising_split (entries l) e (entries r) s.rising

  left_stands : Stands ns (node_at ns i).left l
  left_stands = record {
    lies = s.lies.2;
    root_is = sym (ap (λ n. n.left) s.lies.1);
    balanced = s.balanced.2;
    rising = sorted.left;
    apart = λ m. omega (arith, count m);
    few = s.few;
  }

  right_stands : Stands ns (node_at ns i).right r
  right_stands = record {
    lies = s.lies.3;
    root_is = sym (ap (λ n. n.right) s.lies.1);
    balanced = s.balanced.3;
    rising = sorted.right;
    apart = λ m. omega (arith, count m);
    few = s.few;
  }

  opened_at : Opened ns i
  opened_at =
      let ee : e ≡ entry_at ns i = λ d. record { key = (sym s.lies.1 d).key; note = (sym s.lies.1 d).note } in
      let el : l ≡ left_at ns i = sym (tree_is ns _ l left_stands) in
      let er : r ≡ right_at ns i = sym (tree_is ns _ r right_stands) in
      record {
        here = tree_is ns i (node i e l r) s ∙ (λ d. node i (ee d) (el d) (er d));
        inside = s.lies.0;
        left = standing ns _ l left_stands;
        right = standing ns _ r right_stands;
        split = rw (← ee, ← el, ← er) sorted;
        level = rw (← el, ← er) (s.balanced.0, s.balanced.1);
        apart = rw (← el, ← er) count;
      }

opened_of : (ns : List Node) (root : ℕ) (t : Tree) → Stands ns root t → (root ≡ 65535 → ⊥) → Opened ns root
opened_of ns root leaf s ne = absurd (ne (sym s.root_is))
opened_of ns root (node i e l r) s ne = subst (Opened ns) s.root_is (opened_at ns i e l r (subst (λ x. Stands ns x (node i e l r)) (sym s.root_is) s))

pub opened : (ns : List Node) (root : ℕ) → Standing ns root → (root ≡ 65535 → ⊥) → Opened ns root
opened ns root s ne = opened_of ns root (tree_at ns root) s ne

module _ (ns : List Node) (root m : ℕ) (s : Standing ns root) (o : Opened ns root) (e : high ns root ≡ m) where
  pub falls_left : high ns (node_at ns root).left < m
  falls_left = omega (arith, e, high_is ns root s, high_is ns (node_at ns root).left o.left, ap tall o.here)

  pub falls_right : high ns (node_at ns root).right < m
  falls_right = omega (arith, e, high_is ns root s, high_is ns (node_at ns root).right o.right, ap tall o.here)

pub steps_left : (ns : List Node) (root m : ℕ) → Standing ns root → (root ≡ 65535 → ⊥) → high ns root ≡ m → (high ns (node_at ns root).left < m) × Standing ns (node_at ns root).left
steps_left ns root m s ne e = let o = opened ns root s ne in (falls_left ns root m s o e, o.left)

pub steps_right : (ns : List Node) (root m : ℕ) → Standing ns root → (root ≡ 65535 → ⊥) → high ns root ≡ m → (high ns (node_at ns root).right < m) × Standing ns (node_at ns root).right
steps_right ns root m s ne e = let o = opened ns root s ne in (falls_right ns root m s o e, o.right)

pub lies_kept : (ns ms : List Node) (t : Tree) → length ms ≡ length ns → ((j : ℕ) → 1 ≤ times j (places t) → node_at ms j ≡ node_at ns j) → Lies ns t → Lies ms t
lies_kept ns ms leaf long same h = tt
lies_kept ns ms (node i e l r) long same h =
    let parts : (j : ℕ) → times j (places l ++ i ∷ places r) ≡ times j (places l) + (single j i + times j (places r)) = λ j. times_append j (places l) (i ∷ places r) in (
      omega (arith, h.0, long),
      same i (omega (arith, parts i, single_same i i refl)) ∙ h.1,
      lies_kept ns ms l long (λ j z. same j (omega (arith, parts j))) h.2,
      lies_kept ns ms r long (λ j z. same j (omega (arith, parts j))) h.3,
    )

-- trees outside of what was altered
module _ (ns ms : List Node) (ps : List ℕ) (k : Kept ns ms ps) (root : ℕ) where
  pub stands_kept : (t : Tree) → ((m : ℕ) → times m (places t) + times m ps ≤ 1) → Stands ns root t → Stands ms root t
  stands_kept t out s = record {
    lies = lies_kept ns ms t k.long (λ j z. k.same j (omega (arith, out j))) s.lies;
    root_is = s.root_is;
    balanced = s.balanced;
    rising = s.rising;
    apart = s.apart;
    few = omega (arith, k.long, s.few);
  }

  pub same_tree : ((m : ℕ) → times m (places_at ns root) + times m ps ≤ 1) → Standing ns root → tree_at ms root ≡ tree_at ns root
  same_tree out s = tree_is ms root (tree_at ns root) (stands_kept (tree_at ns root) out s)

  pub standing_kept : ((m : ℕ) → times m (places_at ns root) + times m ps ≤ 1) → Standing ns root → Standing ms root
  standing_kept out s = standing ms root (tree_at ns root) (stands_kept (tree_at ns root) out s)

pub kept_none : (ns : List Node) (ps : List ℕ) → Kept ns ns ps
kept_none ns ps = record { long = refl; same = λ j out. refl }

pub kept_then : (ns ms xs : List Node) (ps qs rs : List ℕ) → Kept ns ms ps → Kept ms xs qs → ((j : ℕ) → times j rs ≡ 0 → (times j ps ≡ 0) × (times j qs ≡ 0)) → Kept ns xs rs
kept_then ns ms xs ps qs rs a b into = record { long = b.long ∙ a.long; same = λ j out. b.same j (into j out).1 ∙ a.same j (into j out).0 }

pub entries_are : (ns : List Node) (t : Tree) → Lies ns t → entries t ≡ map (entry_at ns) (places t)
entries_are ns leaf h = refl
entries_are ns (node i e l r) h =
    (λ d. entries_are ns l h.2 d ++ record { key = (sym h.1 d).key; note = (sym h.1 d).note } ∷ entries_are ns r h.3 d)
    ∙ sym (map-append (entry_at ns) (places l) (i ∷ places r))
