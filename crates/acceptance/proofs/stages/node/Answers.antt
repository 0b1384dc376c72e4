use Rattle.std.proofs.Common.{arith}
use Rattle.acceptance.specs.Nodes.{node_of}
use Rattle.acceptance.proofs.stages.node.Goals as goal

pub returns-clause-value : goal.returns-clause-value
unfolding node_of
returns-clause-value c = omega arith
