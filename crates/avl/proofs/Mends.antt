-- A changed tree, and one that was left alone, on their way under a node.
--
--   other_same   the tree that was left alone
--   mend_left, mend_right    the changed tree can stand to the left of the node, or to the right
--   level_left, level_right  what level then gives, in the pool's words from before the change
use Rattle.std.proofs.Common.{◌≡◌, ℕ, ◌+◌, ◌<◌, ◌≤◌, List, ◌∷◌, ◌++◌, length, refl, ap, arith}
use Rattle.entry.specs.Lists.{Rising}
use Rattle.trees.specs.declared.Node.{Node}
use Rattle.trees.specs.Counts.{single, times}
use Rattle.trees.specs.Trees.{Tree, places}
use Rattle.trees.specs.Pools.{entry_in, entry_at, Standing, tree_at, entries_at, places_at, Kept}
use Rattle.trees.proofs.Counts.{single_same}
use Rattle.trees.proofs.Pools.{same_tree, standing_kept}
use Rattle.avl.specs.Turns.{Loose, Level}

module _ (ns ms : List Node) (x a b : ℕ) (ps : List ℕ) (k : Kept ns ms ps) (sa : Standing ms a) (sb : Standing ns b) (within : x < length ns)
    (fits : (j : ℕ) → times j (places_at ms a) ≡ times j ps) (out : (j : ℕ) → times j ps + single j x + times j (places_at ns b) ≤ 1) where
  pub other_same : tree_at ms b ≡ tree_at ns b
  other_same = same_tree ns ms ps k b (λ m. omega (arith, out m)) sb

  node_same : entry_at ms x ≡ entry_at ns x
  node_same = ap entry_in (k.same x (omega (arith, out x, single_same x x refl)))

  other_stands : Standing ms b
  other_stands = standing_kept ns ms ps k b (λ m. omega (arith, out m)) sb

  pub mend_left : Rising (entries_at ms a ++ entry_at ns x ∷ entries_at ns b) → Loose ms x a b
  mend_left rising = record {
    inside = omega (arith, k.long);
    lower = sa;
    upper = other_stands;
    apart = λ j. omega (arith, out j, fits j, ap (λ t. times j (places t)) other_same);
    rising = rw (other_same, node_same) rising;
  }

  pub mend_right : Rising (entries_at ns b ++ entry_at ns x ∷ entries_at ms a) → Loose ms x b a
  mend_right rising = record {
    inside = omega (arith, k.long);
    lower = other_stands;
    upper = sa;
    apart = λ j. omega (arith, out j, fits j, ap (λ t. times j (places t)) other_same);
    rising = rw (other_same, node_same) rising;
  }

  module _ (xs : List Node) (root : ℕ) (u : Tree) where
    pub level_left : Level ms xs x (entry_at ms x) (tree_at ms a) (tree_at ms b) root u → Level ms xs x (entry_at ns x) (tree_at ms a) (tree_at ns b) root u
    level_left v = rw (← other_same, ← node_same) v

    pub level_right : Level ms xs x (entry_at ms x) (tree_at ms b) (tree_at ms a) root u → Level ms xs x (entry_at ns x) (tree_at ns b) (tree_at ms a) root u
    level_right v = rw (← other_same, ← node_same) v
