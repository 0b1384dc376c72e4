use Rattle.std.proofs.Common.{arith}
use Rattle.buckets.specs.Rings.{size_in}
use Rattle.buckets.proofs.Table.size.Goals as goal

pub returns : goal.returns
unfolding size_in
returns c = omega arith
