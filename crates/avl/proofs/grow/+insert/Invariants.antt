use Rattle.trees.specs.Pools.{high}
use Rattle.avl.proofs.grow.+insert.Given as goal

abbrev pub decreases-insert : goal.decreases-insert
decreases-insert l = high l.nodes.now l.root
