use Rattle.trees.specs.Pools.{high}
use Rattle.trees.proofs.above.+next.Given as goal

abbrev pub decreases-next : goal.decreases-next
decreases-next l = high l.nodes.now l.root
