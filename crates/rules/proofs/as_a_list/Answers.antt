use Rattle.rules.proofs.as_a_list.Goals as goal
use Rattle.rules.proofs.Running.{as_a_list}

pub returns : goal.returns
returns c = as_a_list
