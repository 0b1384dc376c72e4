use Rattle.trees.specs.Pools.{high}
use Rattle.avl.proofs.cut.+take_first.Given as goal

abbrev pub decreases-take_first : goal.decreases-take_first
decreases-take_first l = high l.nodes.now l.root
