use Rattle.trees.specs.Pools.{high}
use Rattle.trees.proofs.below.+last.Given as goal

abbrev pub decreases-last : goal.decreases-last
decreases-last l = high l.nodes.now l.root
