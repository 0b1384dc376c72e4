use Rattle.trees.specs.Pools.{high}
use Rattle.trees.proofs.ends.+last_entry.Given as goal

abbrev pub decreases-last_entry : goal.decreases-last_entry
decreases-last_entry l = high l.nodes.now l.root
