use Rattle.std.proofs.Common.{refl}
use Rattle.cuckoo.specs.Homes.{second_of}
use Rattle.cuckoo.proofs.Standing.{second_within}
use Rattle.cuckoo.proofs.homes.second.Goals as goal

pub returns : goal.returns
unfolding second_of
returns c = record { value = refl; above = (second_within c.args.node).0; below = (second_within c.args.node).1 }
