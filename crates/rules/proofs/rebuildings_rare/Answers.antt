use Rattle.rules.proofs.rebuildings_rare.Goals as goal
use Rattle.rules.proofs.Running.{rebuildings_rare}

pub returns : goal.returns
returns c = rebuildings_rare
