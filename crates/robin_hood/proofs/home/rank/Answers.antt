use Rattle.std.proofs.Common.{rules}
use Rattle.robin_hood.specs.Homes.{rank_of}
use Rattle.robin_hood.proofs.home.rank.Goals as goal

pub returns-then-node-eq0 : goal.returns-then-node-eq0
unfolding rank_of
returns-then-node-eq0 c = search rules

pub returns-else-node-eq0 : goal.returns-else-node-eq0
unfolding rank_of
returns-else-node-eq0 c = search rules
