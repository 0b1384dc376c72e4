use Rattle.rules.proofs.frames_bounded.Goals as goal
use Rattle.rules.proofs.Running.{frames_bounded}

pub returns : goal.returns
returns c = frames_bounded
