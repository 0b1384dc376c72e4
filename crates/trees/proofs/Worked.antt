-- The pool of the tests: 20 above 10 and 30.
use Rattle.std.proofs.Common.{◌≡◌, ℕ, ◌≤◌, List, [], ◌∷◌, refl, arith}
use Rattle.std.proofs.lemmas.Bool.Decides.{nat_tests}
use Rattle.trees.specs.declared.Node.{Node}
use Rattle.trees.specs.Counts.{times}
use Rattle.trees.specs.Trees.{Tree, leaf, node}
use Rattle.trees.specs.Pools.{Stands, Standing, tree_at}
use Rattle.trees.proofs.Pools.{standing, tree_is}

abbrev pub small : List Node
small =
    record { key = 20; note = 2; left = 1; right = 2; height = 2 }
    ∷ record { key = 10; note = 1; left = 65535; right = 65535; height = 1 }
    ∷ record { key = 30; note = 3; left = 65535; right = 65535; height = 1 } ∷ []

abbrev tree : Tree
tree = node 0 (record { key = 20; note = 2 }) (node 1 (record { key = 10; note = 1 }) leaf leaf) (node 2 (record { key = 30; note = 3 }) leaf leaf)

once : (m : ℕ) → times m (1 ∷ 0 ∷ 2 ∷ []) ≤ 1
once m = grind (arith, nat_tests)

stands : Stands small 0 tree
stands = record {
  lies = (omega arith, refl, (omega arith, refl, tt, tt), (omega arith, refl, tt, tt));
  root_is = refl;
  balanced = (omega arith, omega arith, (omega arith, omega arith, tt, tt), (omega arith, omega arith, tt, tt));
  rising = ((omega arith, (omega arith, tt)), ((omega arith, tt), (tt, tt)));
  apart = once;
  few = omega arith;
}

pub small_stands : Standing small 0
small_stands = standing small 0 tree stands

pub small_is : tree_at small 0 ≡ tree
small_is = tree_is small 0 tree stands
