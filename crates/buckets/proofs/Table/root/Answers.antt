use Rattle.std.proofs.Common.{arith}
use Rattle.buckets.specs.Rings.{root_in}
use Rattle.buckets.proofs.Table.root.Goals as goal

pub returns : goal.returns
unfolding root_in
returns c = omega arith
