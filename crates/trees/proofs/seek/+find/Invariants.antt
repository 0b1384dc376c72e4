use Rattle.trees.specs.Pools.{high}
use Rattle.trees.proofs.seek.+find.Given as goal

abbrev pub decreases-find : goal.decreases-find
decreases-find l = high l.nodes.now l.root
