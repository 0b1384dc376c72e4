use Rattle.std.proofs.Common.{◌+◌, List}
use Rattle.slots.specs.declared.Slot.{Slot}
use Rattle.robin_hood.specs.Layout.{Settles}
use Rattle.robin_hood.proofs.Carry.{Carrying}
use Rattle.robin_hood.proofs.insert.insert.Given as goal

abbrev pub invariant-loop-step : goal.invariant-loop-step
invariant-loop-step l =
    Carrying l.initial.ring.slots l.initial.carried l.start l.ring.slots l.carried l.step
    × ((ys : List Slot) → Settles l.ring.slots (l.start + l.step) l.carried ys → Settles l.initial.ring.slots l.start l.initial.carried ys)
