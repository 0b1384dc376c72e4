use Rattle.rules.proofs.new_runs.Goals as goal
use Rattle.rules.proofs.Running.{new_runs}

pub returns : goal.returns
returns c = new_runs
