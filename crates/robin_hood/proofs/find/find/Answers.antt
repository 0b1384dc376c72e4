use Rattle.std.proofs.Common.{arith}
use Rattle.robin_hood.proofs.Walks.{walk_on, walk_reaches, walk_stops, walk_absent, walk_never}
use Rattle.robin_hood.proofs.find.find.Goals as goal

pub returns-then-rank-step : goal.returns-then-rank-step
returns-then-rank-step c =
    let w = c.loop-step.invariant in
    record {
      walk = (walk_reaches w (omega arith), walk_stops w (omega arith) (omega arith));
      absent = walk_absent w c.args.ring.now.spread (omega arith) (omega arith);
    }

pub loop-step-preserved : goal.loop-step-preserved
loop-step-preserved c = walk_on c.loop-step.invariant (omega arith) c.if-resident-node.false (omega arith)

pub unreachable-requires : goal.unreachable-requires
unreachable-requires c = walk_never c.loop-step.invariant (omega arith) c.requires.room
