use Rattle.trees.specs.Pools.{high}
use Rattle.trees.proofs.ends.+first_entry.Given as goal

abbrev pub decreases-first_entry : goal.decreases-first_entry
decreases-first_entry l = high l.nodes.now l.root
