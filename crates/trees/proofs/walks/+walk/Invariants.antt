use Rattle.trees.specs.Pools.{high}
use Rattle.trees.proofs.walks.+walk.Given as goal

abbrev pub decreases-walk : goal.decreases-walk
decreases-walk l = high l.nodes.now l.root
