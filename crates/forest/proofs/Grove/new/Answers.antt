use Rattle.forest.proofs.Fresh.{fresh_forest}
use Rattle.forest.proofs.Grove.new.Goals as goal

pub invariant_of-result : goal.invariant_of-result
invariant_of-result c = record { forest = fresh_forest c.args.table _ c.requires c.new-pool.ensures }
