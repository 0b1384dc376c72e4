-- An entry more: at the end of the path, and on the way back up.
--
--   grew_leaf                the first entry
--   fresh_left, fresh_right  what the call on a subtree asks
--   loose_left, near_left, grew_left     after that call on the left
--   loose_right, near_right, grew_right  and on the right
use Rattle.std.proofs.Common.{◌≡◌, ℕ, ◌+◌, ◌<◌, ◌≤◌, List, [], ◌∷◌, ◌++◌, length, set, sym, refl, ap, ◌∙◌, subst, inl, inr, ⊎_elim, arith, length-set, get_or-set_other, get_or-set_same}
use Rattle.std.proofs.lemmas.Bool.{cases_lt, cases_order}
use Rattle.entry.specs.declared.Entry.{Entry}
use Rattle.entry.specs.Lists.{put, Rising}
use Rattle.entry.proofs.Filters.{put_left, put_right, put_past}
use Rattle.entry.proofs.Orders.{over_less, under_more, rising_put}
use Rattle.trees.specs.declared.Node.{Node}
use Rattle.trees.specs.Counts.{single, times}
use Rattle.trees.specs.Trees.{Tree, leaf, node, tall, entries, places, seen}
use Rattle.trees.specs.Pools.{no_node, node_at, entry_at, tree_at, left_at, right_at, entries_at, places_at, Kept}
use Rattle.trees.proofs.Counts.{differ, times_append, joins}
use Rattle.trees.proofs.Pools.{Opened, end_is, tree_is, kept_then}
use Rattle.trees.proofs.Looks.{entries_open, count_open, tall_open, at_here, at_low, at_high, path_low, path_high}
use Rattle.avl.specs.declared.grow.Grown.{Grown}
use Rattle.avl.specs.Turns.{Loose, Level}
use Rattle.avl.specs.Grows.{Fresh, Grew}
use Rattle.avl.proofs.Mends.{other_same, mend_left, mend_right, level_left, level_right}

grew_at : (ns ms : List Node) (r : Grown) (fresh : ℕ) (e : Entry) (t u : Tree) → Grew ns ms r fresh e t u → Grew ns ms r fresh e t (tree_at ms r.root)
grew_at ns ms r fresh e t u g = subst (Grew ns ms r fresh e t) (sym (tree_is ms r.root u g.stands)) g

abbrev pub seed : Entry → Node
seed e = record { key = e.key; note = e.note; left = 65535; right = 65535; height = 1 }

pub grew_leaf : (ns : List Node) (root fresh : ℕ) (e : Entry) → Fresh ns root fresh e.key → root ≡ 65535
    → Grew ns (set ns fresh (seed e)) (record { root = fresh; visits = 0 }) fresh e (tree_at ns root) (tree_at (set ns fresh (seed e)) fresh)
grew_leaf ns root fresh e fr is = rw (end_is ns root is) (grew_at ns (set ns fresh (seed e)) (record { root = fresh; visits = 0 }) fresh e leaf (node fresh e leaf leaf) (record {
  stands = record {
    lies = (omega (arith, length-set ns fresh (seed e), fr.inside), get_or-set_same ns fresh (seed e) no_node fr.inside, tt, tt);
    root_is = refl;
    balanced = (omega arith, omega arith, tt, tt);
    rising = (tt, tt);
    apart = λ m. joins fresh [] refl (λ j. omega arith) m;
    few = omega (arith, length-set ns fresh (seed e), fr.stands.few);
  };
  holds = refl;
  spots = λ m. omega arith;
  most = omega arith;
  least = omega arith;
  kept = record { long = length-set ns fresh (seed e); same = λ j out. get_or-set_other ns fresh j (seed e) no_node (differ j fresh (omega (arith, out))) };
  visits = refl;
  few = omega arith;
}))

module _ (ns : List Node) (root fresh : ℕ) (e : Entry) (fr : Fresh ns root fresh e.key) (o : Opened ns root) where
  abbrev mine : Entry
  mine = entry_at ns root

  abbrev lows : List Entry
  lows = entries (left_at ns root)

  abbrev highs : List Entry
  highs = entries (right_at ns root)

  free : (j : ℕ) → single j fresh + times j (places_at ns root) ≤ 1
  free = joins fresh (places_at ns root) fr.free fr.stands.apart

  pub fresh_left : e.key < (node_at ns root).key → Fresh ns (node_at ns root).left fresh e.key
  fresh_left lt = record { stands = o.left; inside = fr.inside; free = omega (arith, fr.free, count_open ns root o fresh); new = sym (at_low ns root o e.key lt) ∙ fr.new }

  not_here : (node_at ns root).key ≤ e.key → (node_at ns root).key < e.key
  not_here le = elim (cases_order e.key (node_at ns root).key) [
    | inl is ↦ absurd (let z : mine ∷ [] ≡ [] = sym (at_here ns root o e.key is) ∙ fr.new in omega (arith, ap length z))
    | inr h ↦ elim h [ inl lt ↦ absurd (omega arith) | inr gt ↦ gt ]
  ]

  pub fresh_right : (node_at ns root).key ≤ e.key → Fresh ns (node_at ns root).right fresh e.key
  fresh_right le = record { stands = o.right; inside = fr.inside; free = omega (arith, fr.free, count_open ns root o fresh); new = sym (at_high ns root o e.key (not_here le)) ∙ fr.new }

  -- new trees under the root, and then level
  grew_from : (ms xs : List Node) (r : Grown) (l1 r1 u : Tree) (ps : List ℕ) → Kept ns ms ps → ((j : ℕ) → times j (fresh ∷ places_at ns root) ≡ 0 → times j ps ≡ 0)
      → put e (entries_at ns root) ≡ entries l1 ++ mine ∷ entries r1
      → ((j : ℕ) → times j (places l1) + single j root + times j (places r1) ≡ times j (places_at ns root) + single j fresh)
      → (tall (left_at ns root) ≤ tall l1) × (tall l1 ≤ 1 + tall (left_at ns root)) × (tall (right_at ns root) ≤ tall r1) × (tall r1 ≤ 1 + tall (right_at ns root))
      → r.visits ≡ seen e.key (tree_at ns root) → r.visits ≤ tall (tree_at ns root)
      → Level ms xs root mine l1 r1 r.root u
      → Grew ns xs r fresh e (tree_at ns root) u
  grew_from ms xs r l1 r1 u ps k into is counts hs seen_is few v = record {
    stands = v.stands;
    holds = v.holds ∙ sym is;
    spots = λ j. omega (arith, v.spots j, counts j);
    most = omega (arith, v.most, hs, tall_open ns root o);
    least = ⊎_elim
        (λ (a : tall l1 < 2 + tall r1). ⊎_elim
        (λ (b : tall r1 < 2 + tall l1). omega (arith, v.even (omega arith) (omega arith), hs, tall_open ns root o))
        (λ (b : 2 + tall l1 ≤ tall r1). omega (arith, v.least, hs, tall_open ns root o, o.level))
        (cases_lt (tall r1) (2 + tall l1)))
        (λ (a : 2 + tall r1 ≤ tall l1). omega (arith, v.least, hs, tall_open ns root o, o.level))
        (cases_lt (tall l1) (2 + tall r1));
    kept = kept_then ns ms xs ps (places l1 ++ root ∷ places r1) (fresh ∷ places_at ns root) k v.kept
        (λ j z. (into j z, omega (arith, z, counts j, times_append j (places l1) (root ∷ places r1))));
    visits = seen_is;
    few = few;
  }

  module _ (ms : List Node) (g : Grown) (lt : e.key < (node_at ns root).key) (gr : Grew ns ms g fresh e (left_at ns root) (tree_at ms g.root)) where
    fits_l : (j : ℕ) → times j (places_at ms g.root) ≡ times j (fresh ∷ places (left_at ns root))
    fits_l j = omega (arith, gr.spots j)

    out_l : (j : ℕ) → times j (fresh ∷ places (left_at ns root)) + single j root + times j (places (right_at ns root)) ≤ 1
    out_l j = omega (arith, free j, count_open ns root o j)

    is_l : put e (entries_at ns root) ≡ entries_at ms g.root ++ mine ∷ highs
    is_l = ap (put e) (entries_open ns root o) ∙ put_left e lows (mine ∷ highs) (lt, over_less e.key _ highs (omega arith) o.split.over) ∙ ap (λ z. z ++ mine ∷ highs) (sym gr.holds)

    pub loose_left : Loose ms root g.root (node_at ns root).right
    loose_left = mend_left ns ms root g.root (node_at ns root).right (fresh ∷ places (left_at ns root)) gr.kept gr.stands o.right o.inside fits_l out_l (subst Rising is_l (rising_put e (entries_at ns root) fr.stands.rising))

    same_r : tree_at ms (node_at ns root).right ≡ right_at ns root
    same_r = other_same ns ms root g.root (node_at ns root).right (fresh ∷ places (left_at ns root)) gr.kept gr.stands o.right o.inside fits_l out_l

    pub near_left : (tall (tree_at ms g.root) ≤ 2 + tall (tree_at ms (node_at ns root).right)) × (tall (tree_at ms (node_at ns root).right) ≤ 2 + tall (tree_at ms g.root))
    near_left = omega (arith, o.level, gr.most, gr.least, ap tall same_r)

    pub grew_left : (xs : List Node) (res : ℕ) → Level ms xs root (entry_at ms root) (tree_at ms g.root) (tree_at ms (node_at ns root).right) res (tree_at xs res)
        → Grew ns xs (record { root = res; visits = g.visits + 1 }) fresh e (tree_at ns root) (tree_at xs res)
    grew_left xs res v = grew_from ms xs (record { root = res; visits = g.visits + 1 }) (tree_at ms g.root) (right_at ns root) (tree_at xs res) (fresh ∷ places (left_at ns root)) gr.kept
        (λ j z. omega (arith, z, count_open ns root o j)) is_l (λ j. omega (arith, fits_l j, count_open ns root o j)) (omega (arith, gr.most, gr.least))
        (omega (arith, gr.visits, path_low ns root o e.key lt)) (omega (arith, gr.few, tall_open ns root o))
        (level_left ns ms root g.root (node_at ns root).right (fresh ∷ places (left_at ns root)) gr.kept gr.stands o.right o.inside fits_l out_l xs res (tree_at xs res) v)

  module _ (ms : List Node) (g : Grown) (le : (node_at ns root).key ≤ e.key) (gr : Grew ns ms g fresh e (right_at ns root) (tree_at ms g.root)) where
    fits_r : (j : ℕ) → times j (places_at ms g.root) ≡ times j (fresh ∷ places (right_at ns root))
    fits_r j = omega (arith, gr.spots j)

    out_r : (j : ℕ) → times j (fresh ∷ places (right_at ns root)) + single j root + times j (places (left_at ns root)) ≤ 1
    out_r j = omega (arith, free j, count_open ns root o j)

    is_r : put e (entries_at ns root) ≡ lows ++ mine ∷ entries_at ms g.root
    is_r = ap (put e) (entries_open ns root o) ∙ put_right e lows (mine ∷ highs) (under_more _ e.key lows (omega arith) o.split.under)
        ∙ ap (λ z. lows ++ z) (put_past e mine highs (not_here le)) ∙ ap (λ z. lows ++ mine ∷ z) (sym gr.holds)

    pub loose_right : Loose ms root (node_at ns root).left g.root
    loose_right = mend_right ns ms root g.root (node_at ns root).left (fresh ∷ places (right_at ns root)) gr.kept gr.stands o.left o.inside fits_r out_r (subst Rising is_r (rising_put e (entries_at ns root) fr.stands.rising))

    same_l : tree_at ms (node_at ns root).left ≡ left_at ns root
    same_l = other_same ns ms root g.root (node_at ns root).left (fresh ∷ places (right_at ns root)) gr.kept gr.stands o.left o.inside fits_r out_r

    pub near_right : (tall (tree_at ms (node_at ns root).left) ≤ 2 + tall (tree_at ms g.root)) × (tall (tree_at ms g.root) ≤ 2 + tall (tree_at ms (node_at ns root).left))
    near_right = omega (arith, o.level, gr.most, gr.least, ap tall same_l)

    pub grew_right : (xs : List Node) (res : ℕ) → Level ms xs root (entry_at ms root) (tree_at ms (node_at ns root).left) (tree_at ms g.root) res (tree_at xs res)
        → Grew ns xs (record { root = res; visits = g.visits + 1 }) fresh e (tree_at ns root) (tree_at xs res)
    grew_right xs res v = grew_from ms xs (record { root = res; visits = g.visits + 1 }) (left_at ns root) (tree_at ms g.root) (tree_at xs res) (fresh ∷ places (right_at ns root)) gr.kept
        (λ j z. omega (arith, z, count_open ns root o j)) is_r (λ j. omega (arith, fits_r j, count_open ns root o j)) (omega (arith, gr.most, gr.least))
        (omega (arith, gr.visits, path_high ns root o e.key (not_here le))) (omega (arith, gr.few, tall_open ns root o))
        (level_right ns ms root g.root (node_at ns root).left (fresh ∷ places (right_at ns root)) gr.kept gr.stands o.left o.inside fits_r out_r xs res (tree_at xs res) v)
