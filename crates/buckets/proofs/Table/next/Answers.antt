use Rattle.std.proofs.Common.{arith}
use Rattle.buckets.specs.Rings.{next_in}
use Rattle.buckets.proofs.Table.next.Goals as goal

pub returns : goal.returns
unfolding next_in
returns c = omega arith
