use Rattle.trees.specs.Pools.{high}
use Rattle.trees.proofs.tally.+count.Given as goal

abbrev pub decreases-count : goal.decreases-count
decreases-count l = high l.nodes.now l.root
