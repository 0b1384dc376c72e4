use Rattle.saves.proofs.Saving.{Writing}
use Rattle.saves.proofs.save.write.Given as goal

abbrev pub invariant-loop-i : goal.invariant-loop-i
invariant-loop-i l = Writing l.part l.entries l.at l.initial.out l.i l.out
