use Rattle.std.proofs.Common.{List, [], ◌∷◌, refl, ap, arith}
use Rattle.entry.specs.Lists.{at, filled}
use Rattle.trees.specs.declared.Node.{Node}
use Rattle.avl.proofs.Worked.{known_none, known_fresh, known_grown}
use Rattle.avl.proofs.tests.rising_keys.Goals as goal

abbrev blank : Node
blank = record { key = 0; note = 0; left = 65535; right = 65535; height = 0 }

abbrev blanks : List Node
blanks = blank ∷ blank ∷ blank ∷ []

pub insert-one-requires : goal.insert-one-requires
insert-one-requires g c = known_fresh blanks 65535 0 10 [] [] (known_none blanks refl) (omega arith) refl refl

pub insert-two-requires : goal.insert-two-requires
insert-two-requires g c =
    let one = known_grown blanks _ 65535 0 _ _ [] [] (known_none blanks refl) c.insert-one.ensures in
    known_fresh _ _ 1 20 _ _ one (omega arith) refl refl

pub insert-three-requires : goal.insert-three-requires
insert-three-requires g c =
    let one = known_grown blanks _ 65535 0 _ _ [] [] (known_none blanks refl) c.insert-one.ensures in
    let two = known_grown _ _ _ 1 _ _ _ _ one c.insert-two.ensures in
    known_fresh _ _ 2 30 _ _ two (omega arith) refl refl

pub remove-cut-requires : goal.remove-cut-requires
remove-cut-requires g c =
    let one = known_grown blanks _ 65535 0 _ _ [] [] (known_none blanks refl) c.insert-one.ensures in
    let two = known_grown _ _ _ 1 _ _ _ _ one c.insert-two.ensures in
    let three = known_grown _ _ _ 2 _ _ _ _ two c.insert-three.ensures in
    record { stands = three.stands; held = ap (λ es. filled (at 20 es)) three.entries_are }
