-- A node less: at the node itself, and on the way back up.
--
--   no_left, no-right  a root with one subtree at most
--   left-…             the left subtree lost a node, and the root stands above both again
--   right-…            the right subtree lost a node, and the node x stands above both
--   first-…, rootless-…, cut-…  the first node, the root, and the node of a key
use Rattle.std.proofs.Common.{◌≡◌, ℕ, ◌+◌, ◌<◌, ◌≤◌, max, List, ◌∷◌, ◌++◌, length, sym, refl, ap, ◌∙◌, subst, inl, inr, arith}
use Rattle.std.proofs.lemmas.List.{append-nil}
use Rattle.std.proofs.lemmas.Bool.{cases_lt, false≢true}
use Rattle.entry.specs.declared.Entry.{Entry}
use Rattle.entry.specs.Lists.{at, without, filled, Rising}
use Rattle.entry.proofs.Filters.{without_left, without_right, without_past, without_key}
use Rattle.entry.proofs.Orders.{over_less, under_more, rising_without}
use Rattle.trees.specs.declared.Node.{Node}
use Rattle.trees.specs.Counts.{single, times}
use Rattle.trees.specs.Trees.{Tree, leaf, tall, entries, places}
use Rattle.trees.specs.Pools.{node_at, entry_at, Standing, tree_at, left_at, right_at, entries_at, places_at, Kept}
use Rattle.trees.proofs.Counts.{single_same, times_append}
use Rattle.trees.proofs.Pools.{Opened, inside, end_is, kept_none, kept_then}
use Rattle.trees.proofs.Looks.{entries_open, count_open, tall_open, at_here, at_low, at_high, path_here, path_low, path_high}
use Rattle.avl.specs.declared.cut.Shrunk.{Shrunk}
use Rattle.avl.specs.Turns.{Loose, Level}
use Rattle.avl.specs.Cuts.{Lost, First, Rootless, Held, Shrank}
use Rattle.avl.proofs.Mends.{other_same, mend_left, mend_right, level_left, level_right}

-- the height, where one of two trees may have lost one
fell : (a b a1 h : ℕ) → (a ≤ 1 + b) × (b ≤ 1 + a) → a1 ≤ a → a ≤ 1 + a1 → h ≤ 1 + max a1 b → max a1 b ≤ h → (a1 ≤ 1 + b → b ≤ 1 + a1 → h ≡ 1 + max a1 b)
    → (h ≤ 1 + max a b) × (1 + max a b ≤ 1 + h)
fell a b a1 h near le more most least even = (
  omega arith,
  elim (cases_lt b (2 + a1)) [
    | inl lt ↦ omega (arith, even (omega arith) (omega arith))
    | inr ge ↦ omega arith
  ],
)

lost_from : (ns ms xs : List Node) (x gone res : ℕ) (e : Entry) (t l r u : Tree) (ps : List ℕ) → Kept ns ms ps → ((j : ℕ) → times j (places l) + single j x + times j (places r) ≡ 0 → times j ps ≡ 0)
    → ((j : ℕ) → times j (places l) + single j x + times j (places r) + single j gone ≡ times j (places t))
    → (tall u ≤ tall t) × (tall t ≤ 1 + tall u)
    → Level ms xs x e l r res u → Lost ns xs gone res t u
lost_from ns ms xs x gone res e t l r u ps k into counts hs v = record {
  stands = v.stands;
  spots = λ j. omega (arith, v.spots j, counts j);
  most = hs.0;
  least = hs.1;
  kept = kept_then ns ms xs ps (places l ++ x ∷ places r) (places u) k v.kept
      (λ j z. (into j (omega (arith, z, v.spots j)), omega (arith, z, v.spots j, times_append j (places l) (x ∷ places r))));
}

pub held_root : (ns : List Node) (root key : ℕ) → Held ns root key → root ≡ 65535 → ⊥
held_root ns root key h e = false≢true (ap (λ t. filled (at key (entries t))) (sym (end_is ns root e)) ∙ h.held)

module _ (ns : List Node) (root : ℕ) (s : Standing ns root) (o : Opened ns root) where
  abbrev mine : Entry
  mine = entry_at ns root

  abbrev lows : List Entry
  lows = entries (left_at ns root)

  abbrev highs : List Entry
  highs = entries (right_at ns root)

  apart : (j : ℕ) → times j (places (left_at ns root)) + single j root + times j (places (right_at ns root)) ≤ 1
  apart = o.apart

  join : without (node_at ns root).key (entries_at ns root) ≡ lows ++ highs
  join = ap (without (node_at ns root).key) (entries_open ns root o) ∙ without_key (node_at ns root).key lows mine highs refl o.split.under o.split.over

  -- a root with one subtree at most
  module _ (e : (node_at ns root).left ≡ 65535) where
    empty_l : left_at ns root ≡ leaf
    empty_l = end_is ns (node_at ns root).left e

    no_left : Lost ns ns root (node_at ns root).right (tree_at ns root) (right_at ns root)
    no_left = record {
      stands = o.right;
      spots = λ j. omega (arith, count_open ns root o j, ap (λ t. times j (places t)) empty_l);
      most = omega (arith, tall_open ns root o);
      least = omega (arith, tall_open ns root o, ap tall empty_l);
      kept = kept_none ns (places (right_at ns root));
    }

    pub first_here : First ns ns root (node_at ns root).right (tree_at ns root) (right_at ns root)
    first_here = record { lost = no_left; holds = entries_open ns root o ∙ ap (λ t. entries t ++ mine ∷ highs) empty_l }

    pub rootless_left : Rootless ns ns root (node_at ns root).right (right_at ns root)
    rootless_left = record { lost = no_left; holds = sym (ap (λ t. entries t ++ highs) empty_l) }

  pub rootless_right : (node_at ns root).right ≡ 65535 → Rootless ns ns root (node_at ns root).left (left_at ns root)
  rootless_right e = record {
    lost = record {
      stands = o.left;
      spots = λ j. omega (arith, count_open ns root o j, ap (λ t. times j (places t)) empty_r);
      most = omega (arith, tall_open ns root o);
      least = omega (arith, tall_open ns root o, ap tall empty_r);
      kept = kept_none ns (places (left_at ns root));
    };
    holds = sym (append-nil lows) ∙ sym (ap (λ t. lows ++ entries t) empty_r);
  }
    where
      empty_r : right_at ns root ≡ leaf
      empty_r = end_is ns (node_at ns root).right e

  -- the left subtree lost a node
  module _ (ms : List Node) (gone a : ℕ) (g : Lost ns ms gone a (left_at ns root) (tree_at ms a)) where
    out_l : (j : ℕ) → times j (places_at ms a) + single j root + times j (places (right_at ns root)) ≤ 1
    out_l j = omega (arith, apart j, g.spots j)

    pub left_loose : Rising (entries_at ms a ++ entry_at ns root ∷ entries (right_at ns root)) → Loose ms root a (node_at ns root).right
    left_loose = mend_left ns ms root a (node_at ns root).right (places_at ms a) g.kept g.stands o.right o.inside (λ j. refl) out_l

    same_r : tree_at ms (node_at ns root).right ≡ right_at ns root
    same_r = other_same ns ms root a (node_at ns root).right (places_at ms a) g.kept g.stands o.right o.inside (λ j. refl) out_l

    pub left_near : (tall (tree_at ms a) ≤ 2 + tall (tree_at ms (node_at ns root).right)) × (tall (tree_at ms (node_at ns root).right) ≤ 2 + tall (tree_at ms a))
    left_near = omega (arith, o.level, g.most, g.least, ap tall same_r)

    module _ (xs : List Node) (res : ℕ) (v : Level ms xs root (entry_at ms root) (tree_at ms a) (tree_at ms (node_at ns root).right) res (tree_at xs res)) where
      level_l : Level ms xs root mine (tree_at ms a) (right_at ns root) res (tree_at xs res)
      level_l = level_left ns ms root a (node_at ns root).right (places_at ms a) g.kept g.stands o.right o.inside (λ j. refl) out_l xs res (tree_at xs res) v

      pub left_lost : Lost ns xs gone res (tree_at ns root) (tree_at xs res)
      left_lost = lost_from ns ms xs root gone res mine (tree_at ns root) (tree_at ms a) (right_at ns root) (tree_at xs res) (places_at ms a) g.kept (λ j z. omega (arith, z)) (λ j. omega (arith, g.spots j, count_open ns root o j))
          (let h = fell (tall (left_at ns root)) (tall (right_at ns root)) (tall (tree_at ms a)) (tall (tree_at xs res)) o.level g.most g.least level_l.most level_l.least level_l.even in omega (arith, h, tall_open ns root o)) level_l

      pub left_holds : entries_at xs res ≡ entries_at ms a ++ entry_at ns root ∷ entries (right_at ns root)
      left_holds = level_l.holds

  -- the right subtree lost a node, and x stands above, so that gone is out
  module _ (ms : List Node) (lost a : ℕ) (g : Lost ns ms lost a (right_at ns root) (tree_at ms a)) (x gone : ℕ) (within : x < length ns) (swap : (j : ℕ) → single j x + single j gone ≡ single j root + single j lost) where
    out_r : (j : ℕ) → times j (places_at ms a) + single j x + times j (places (left_at ns root)) ≤ 1
    out_r j = omega (arith, apart j, g.spots j, swap j)

    pub right_loose : Rising (entries (left_at ns root) ++ entry_at ns x ∷ entries_at ms a) → Loose ms x (node_at ns root).left a
    right_loose = mend_right ns ms x a (node_at ns root).left (places_at ms a) g.kept g.stands o.left within (λ j. refl) out_r

    same_l : tree_at ms (node_at ns root).left ≡ left_at ns root
    same_l = other_same ns ms x a (node_at ns root).left (places_at ms a) g.kept g.stands o.left within (λ j. refl) out_r

    pub right_near : (tall (tree_at ms (node_at ns root).left) ≤ 2 + tall (tree_at ms a)) × (tall (tree_at ms a) ≤ 2 + tall (tree_at ms (node_at ns root).left))
    right_near = omega (arith, o.level, g.most, g.least, ap tall same_l)

    module _ (xs : List Node) (res : ℕ) (v : Level ms xs x (entry_at ms x) (tree_at ms (node_at ns root).left) (tree_at ms a) res (tree_at xs res)) where
      level_r : Level ms xs x (entry_at ns x) (left_at ns root) (tree_at ms a) res (tree_at xs res)
      level_r = level_right ns ms x a (node_at ns root).left (places_at ms a) g.kept g.stands o.left within (λ j. refl) out_r xs res (tree_at xs res) v

      pub right_lost : Lost ns xs gone res (tree_at ns root) (tree_at xs res)
      right_lost = lost_from ns ms xs x gone res (entry_at ns x) (tree_at ns root) (left_at ns root) (tree_at ms a) (tree_at xs res) (places_at ms a) g.kept (λ j z. omega (arith, z)) (λ j. omega (arith, g.spots j, count_open ns root o j, swap j))
          (let h = fell (tall (right_at ns root)) (tall (left_at ns root)) (tall (tree_at ms a)) (tall (tree_at xs res)) (o.level.1, o.level.0) g.most g.least (omega (arith, level_r.most)) (omega (arith, level_r.least)) (λ p q. omega (arith, level_r.even q p)) in omega (arith, h, tall_open ns root o)) level_r

      pub right_holds : entries_at xs res ≡ entries (left_at ns root) ++ entry_at ns x ∷ entries_at ms a
      right_holds = level_r.holds

  -- the first node, from the left subtree
  module _ (ms : List Node) (first a : ℕ) (f : First ns ms first a (left_at ns root) (tree_at ms a)) where
    pub first_rising : Rising (entries_at ms a ++ entry_at ns root ∷ entries (right_at ns root))
    first_rising = (subst Rising (entries_open ns root o ∙ ap (λ z. z ++ mine ∷ highs) f.holds) s.rising).1

    pub first_after : (xs : List Node) (res : ℕ) → Level ms xs root (entry_at ms root) (tree_at ms a) (tree_at ms (node_at ns root).right) res (tree_at xs res) → First ns xs first res (tree_at ns root) (tree_at xs res)
    first_after xs res v = record {
      lost = left_lost ms first a f.lost xs res v;
      holds = entries_open ns root o ∙ ap (λ z. z ++ mine ∷ highs) f.holds ∙ ap (λ z. entry_at ns first ∷ z) (sym (left_holds ms first a f.lost xs res v));
    }

  -- the first node of the right subtree in the root's place
  module _ (ms : List Node) (first a : ℕ) (f : First ns ms first a (right_at ns root) (tree_at ms a)) where
    first_in : first < length ns
    first_in = inside ns (right_at ns root) first o.right.lies (omega (arith, f.lost.spots first, single_same first first refl))

    turn : (j : ℕ) → single j first + single j root ≡ single j root + single j first
    turn j = omega arith

    root_rising : Rising (entries (left_at ns root) ++ entry_at ns first ∷ entries_at ms a)
    root_rising = subst Rising (join ∙ ap (λ z. lows ++ z) f.holds) (rising_without (node_at ns root).key (entries_at ns root) s.rising)

    pub root_loose : Loose ms first (node_at ns root).left a
    root_loose = right_loose ms first a f.lost first root first_in turn root_rising

    pub root_near : (tall (tree_at ms (node_at ns root).left) ≤ 2 + tall (tree_at ms a)) × (tall (tree_at ms a) ≤ 2 + tall (tree_at ms (node_at ns root).left))
    root_near = right_near ms first a f.lost first root first_in turn

    pub rootless_both : (xs : List Node) (res : ℕ) → Level ms xs first (entry_at ms first) (tree_at ms (node_at ns root).left) (tree_at ms a) res (tree_at xs res) → Rootless ns xs root res (tree_at xs res)
    rootless_both xs res v = record {
      lost = right_lost ms first a f.lost first root first_in turn xs res v;
      holds = right_holds ms first a f.lost first root first_in turn xs res v ∙ ap (λ z. lows ++ z) (sym f.holds);
    }

  -- the node of a key
  module _ (key : ℕ) where
    pub cut_here : (ms : List Node) (res : ℕ) → key ≡ (node_at ns root).key → Rootless ns ms root res (tree_at ms res) → Shrank ns ms (record { root = res; gone = root; visits = 1 }) key (tree_at ns root) (tree_at ms res)
    cut_here ms res is d = record {
      lost = d.lost;
      holds = d.holds ∙ sym join ∙ ap (λ k. without k (entries_at ns root)) (sym is);
      held = at_here ns root o key is;
      visits = sym (path_here ns root o key is);
      few = omega (arith, tall_open ns root o);
    }

    module _ (lt : key < (node_at ns root).key) where
      pub held_left : Held ns root key → Held ns (node_at ns root).left key
      held_left h = record { stands = o.left; held = ap filled (sym (at_low ns root o key lt)) ∙ h.held }

      module _ (ms : List Node) (r : Shrunk) (d : Shrank ns ms r key (left_at ns root) (tree_at ms r.root)) where
        left_is : entries_at ms r.root ++ mine ∷ highs ≡ without key (entries_at ns root)
        left_is = ap (λ z. z ++ mine ∷ highs) d.holds ∙ sym (without_left key lows (mine ∷ highs) (lt, over_less key _ highs (omega arith) o.split.over)) ∙ ap (without key) (sym (entries_open ns root o))

        pub cut_left_rising : Rising (entries_at ms r.root ++ entry_at ns root ∷ entries (right_at ns root))
        cut_left_rising = subst Rising (sym left_is) (rising_without key (entries_at ns root) s.rising)

        pub cut_left : (xs : List Node) (res : ℕ) → Level ms xs root (entry_at ms root) (tree_at ms r.root) (tree_at ms (node_at ns root).right) res (tree_at xs res)
            → Shrank ns xs (record { root = res; gone = r.gone; visits = r.visits + 1 }) key (tree_at ns root) (tree_at xs res)
        cut_left xs res v = record {
          lost = left_lost ms r.gone r.root d.lost xs res v;
          holds = left_holds ms r.gone r.root d.lost xs res v ∙ left_is;
          held = at_low ns root o key lt ∙ d.held;
          visits = omega (arith, d.visits, path_low ns root o key lt);
          few = omega (arith, d.few, tall_open ns root o);
        }

    module _ (gt : (node_at ns root).key < key) where
      pub held_right : Held ns root key → Held ns (node_at ns root).right key
      held_right h = record { stands = o.right; held = ap filled (sym (at_high ns root o key gt)) ∙ h.held }

      module _ (ms : List Node) (r : Shrunk) (d : Shrank ns ms r key (right_at ns root) (tree_at ms r.root)) where
        right_is : lows ++ mine ∷ entries_at ms r.root ≡ without key (entries_at ns root)
        right_is = ap (λ z. lows ++ mine ∷ z) d.holds ∙ ap (λ z. lows ++ z) (sym (without_past key mine highs gt))
            ∙ sym (without_right key lows (mine ∷ highs) (under_more _ key lows (omega arith) o.split.under)) ∙ ap (without key) (sym (entries_open ns root o))

        pub cut_right_loose : Loose ms root (node_at ns root).left r.root
        cut_right_loose = right_loose ms r.gone r.root d.lost root r.gone o.inside (λ j. refl) (subst Rising (sym right_is) (rising_without key (entries_at ns root) s.rising))

        pub cut_right_near : (tall (tree_at ms (node_at ns root).left) ≤ 2 + tall (tree_at ms r.root)) × (tall (tree_at ms r.root) ≤ 2 + tall (tree_at ms (node_at ns root).left))
        cut_right_near = right_near ms r.gone r.root d.lost root r.gone o.inside (λ j. refl)

        pub cut_right : (xs : List Node) (res : ℕ) → Level ms xs root (entry_at ms root) (tree_at ms (node_at ns root).left) (tree_at ms r.root) res (tree_at xs res)
            → Shrank ns xs (record { root = res; gone = r.gone; visits = r.visits + 1 }) key (tree_at ns root) (tree_at xs res)
        cut_right xs res v = record {
          lost = right_lost ms r.gone r.root d.lost root r.gone o.inside (λ j. refl) xs res v;
          holds = right_holds ms r.gone r.root d.lost root r.gone o.inside (λ j. refl) xs res v ∙ right_is;
          held = at_high ns root o key gt ∙ d.held;
          visits = omega (arith, d.visits, path_high ns root o key gt);
          few = omega (arith, d.few, tall_open ns root o);
        }
