use Rattle.avl.proofs.raise.+raise.Given as goal

abbrev pub decreases-raise : goal.decreases-raise
decreases-raise l = l.height
