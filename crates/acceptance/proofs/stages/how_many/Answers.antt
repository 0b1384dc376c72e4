use Rattle.std.proofs.Common.{◌≡◌, ◌+◌, cond, rules, of_calls, refl, arith}
use Rattle.acceptance.specs.Stages.{none, more}
use Rattle.acceptance.proofs.stages.how_many.Given as given
use Rattle.acceptance.proofs.stages.how_many.Goals as goal
use Rattle.acceptance.proofs.stages.how_many.Goals.{then-step, else-step}

pub loop-i-init : goal.loop-i-init
loop-i-init g c = record { callable = c.requires; few = omega arith; counted = none }

times : (g : given.Over) (c : goal.Joined-step g) → c.if-step.times ≡ c.loop-i.times + cond c.step.result 1 0
times g c = elim c.if-step.branch [
  | then-step w ↦ rw (w.if-step.true, w.times-is) refl
  | else-step w ↦ rw (w.if-step.false, w.times-is) (omega arith)
]

pub loop-i-preserved : goal.loop-i-preserved
loop-i-preserved g c =
    let is = times g c in
    let few = c.loop-i.invariant.few in
    record { callable = search (rules, of_calls); few = grind arith; counted = rw is (more c.step.result c.loop-i.invariant.counted c.step.ensures) }
