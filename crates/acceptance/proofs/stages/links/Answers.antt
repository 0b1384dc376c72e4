use Rattle.std.proofs.Common.{refl}
use Rattle.acceptance.specs.Nodes.{links_of}
use Rattle.acceptance.proofs.stages.links.Goals as goal

pub returns : goal.returns
unfolding links_of
returns c = refl
