use Rattle.avl.proofs.Builds.{lowest_log}
use Rattle.avl.proofs.raise.height_for.Goals as goal

pub returns-else-count-eq0 : goal.returns-else-count-eq0
returns-else-count-eq0 c = lowest_log c.args.count c.ilog2.result c.ilog2.ensures.power_le c.ilog2.ensures.next_power_gt
