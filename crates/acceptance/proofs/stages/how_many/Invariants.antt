use Rattle.std.proofs.Common.{◌≤◌}
use Rattle.acceptance.specs.Stages.{Counted}
use Rattle.acceptance.proofs.stages.how_many.Given as goal

abbrev pub invariant-loop-i : goal.invariant-loop-i
invariant-loop-i g l =
    record {
      callable : goal.F-IsAlwaysCallable g l.step;
      few : l.times ≤ l.i;
      counted : Counted (goal.F-step g) l.initial.step l.i l.times l.step;
    }
