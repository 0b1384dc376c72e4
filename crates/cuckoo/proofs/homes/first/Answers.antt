use Rattle.std.proofs.Common.{refl}
use Rattle.cuckoo.specs.Homes.{first_of}
use Rattle.cuckoo.proofs.Standing.{first_below}
use Rattle.cuckoo.proofs.homes.first.Goals as goal

pub returns : goal.returns
unfolding first_of
returns c = record { value = refl; below = first_below c.args.node }
