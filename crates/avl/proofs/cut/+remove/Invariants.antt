use Rattle.trees.specs.Pools.{high}
use Rattle.avl.proofs.cut.+remove.Given as goal

abbrev pub decreases-remove : goal.decreases-remove
decreases-remove l = high l.nodes.now l.root
