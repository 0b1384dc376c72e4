use Rattle.robin_hood.specs.Layout.{Shifted}
use Rattle.robin_hood.proofs.Holes.{Hole}
use Rattle.robin_hood.proofs.erase.erase.Given as goal

abbrev pub invariant-loop-step : goal.invariant-loop-step
invariant-loop-step l = Hole l.initial.slots l.from l.slots l.step × Shifted l.initial.slots l.from l.step l.slots
