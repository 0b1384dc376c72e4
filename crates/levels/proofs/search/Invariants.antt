use Rattle.std.proofs.Common.{◌≡◌, ◌-◌, length}
use Rattle.dictionary.specs.Pairs.{raised}
use Rattle.levels.proofs.Steps.{Going}
use Rattle.levels.proofs.search.Given as goal

abbrev pub invariant-loop-hi : goal.invariant-loop-hi
invariant-loop-hi g l =
    let m = g.D.Dictionary in
    Going (m.pairs l.initial.d) g.K.Key.width l.bits l.lo l.hi l.frames l.low l.high
    × (m.pairs l.d ≡ m.pairs l.initial.d)
    × (m.frames l.d ≡ raised (m.frames l.initial.d) (l.frames - 1))
    × (length (m.nodes l.d) ≡ length (m.nodes l.initial.d))
    × (m.room l.d ≡ m.room l.initial.d)

abbrev pub decreases-loop-hi : goal.decreases-loop-hi
decreases-loop-hi g l = l.hi - l.lo
