use Rattle.std.proofs.Common.{arith}
use Rattle.std.proofs.lemmas.Nat.{one_shl}
use Rattle.levels.specs.Nodes.{node_at}
use Rattle.levels.proofs.node_at.Goals as goal

pub returns : goal.returns
unfolding node_at
returns c = omega (arith, one_shl c.args.level 64 (omega arith))
