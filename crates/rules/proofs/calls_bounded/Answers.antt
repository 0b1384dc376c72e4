use Rattle.rules.proofs.calls_bounded.Goals as goal
use Rattle.rules.proofs.Running.{calls_bounded}

pub returns : goal.returns
returns c = calls_bounded
