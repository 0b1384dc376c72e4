use Rattle.robin_hood.proofs.Walks.{Walked}
use Rattle.robin_hood.proofs.find.find.Given as goal

abbrev pub invariant-loop-step : goal.invariant-loop-step
invariant-loop-step l = Walked l.ring.slots l.node l.start l.step
