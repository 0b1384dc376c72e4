use Rattle.std.proofs.Common.{arith}
use Rattle.buckets.specs.Rings.{rep_in}
use Rattle.buckets.proofs.Table.rep.Goals as goal

pub returns : goal.returns
unfolding rep_in
returns c = omega arith
