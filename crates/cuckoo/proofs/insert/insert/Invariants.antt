use Rattle.std.proofs.Common.{ℕ, ◌-◌, List}
use Rattle.slots.specs.declared.Slot.{Slot}
use Rattle.cuckoo.specs.Layout.{Settles}
use Rattle.cuckoo.proofs.Pushes.{Pushing}
use Rattle.cuckoo.proofs.insert.insert.Given as goal

-- however the rest settles, the whole does
abbrev pub invariant-loop-push : goal.invariant-loop-push
invariant-loop-push l =
    Pushing l.initial.rows.slots l.initial.carried l.rows.spilled l.rows.slots l.carried l.at
    × ((ys : List Slot) (m : ℕ) → Settles (32 - l._push) l.rows.slots l.rows.spilled l.at l.carried ys m → Settles 32 l.initial.rows.slots l.initial.rows.spilled l.initial.at l.initial.carried ys m)
