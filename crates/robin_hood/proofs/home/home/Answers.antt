use Rattle.std.proofs.Common.{refl}
use Rattle.robin_hood.specs.Homes.{home_of}
use Rattle.robin_hood.proofs.home.home.Goals as goal

pub returns-clause-value : goal.returns-clause-value
unfolding home_of
returns-clause-value c = refl
