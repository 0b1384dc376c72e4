use Rattle.trees.proofs.Worked.{small_stands}
use Rattle.trees.proofs.tests.looks.Goals as goal

pub find-held-requires : goal.find-held-requires
find-held-requires g c = small_stands

pub find-missing-requires : goal.find-missing-requires
find-missing-requires g c = small_stands

pub next-requires : goal.next-requires
next-requires g c = small_stands

pub last-requires : goal.last-requires
last-requires g c = small_stands

pub first_entry-requires : goal.first_entry-requires
first_entry-requires g c = small_stands

pub last_entry-requires : goal.last_entry-requires
last_entry-requires g c = small_stands
