use Rattle.std.proofs.Common.{arith}
use Rattle.buckets.specs.Rings.{prev_in}
use Rattle.buckets.proofs.Table.prev.Goals as goal

pub returns : goal.returns
unfolding prev_in
returns c = omega arith
