use Rattle.trees.proofs.Heights.{table_is}
use Rattle.trees.proofs.table.fewest_at.Goals as goal

pub returns : goal.returns
returns c = table_is c.args.height c.requires.0 c.requires.1
