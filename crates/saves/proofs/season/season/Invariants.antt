use Rattle.saves.proofs.Seasons.{Going}
use Rattle.saves.proofs.season.season.Given as goal

abbrev pub invariant-loop-i : goal.invariant-loop-i
invariant-loop-i g l =
    let m = g.B.Ledger in
    Going (m.view l.initial.book) l.tape l.deeds l.initial.outcomes l.i l.at l.outcomes (m.view l.book)
