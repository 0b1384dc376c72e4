use Rattle.rules.proofs.buckets_keep.Goals as goal
use Rattle.rules.proofs.Running.{buckets_keep}

pub returns : goal.returns
returns c = buckets_keep
