-- That keys rise has one proof at most, so a type can carry it.
use Rattle.std.specs.Prelude.{List, [], ◌∷◌}
use Rattle.std.specs.Coded.{Unit-prop}
use Rattle.std.proofs.Props.{props}
use Rattle.entry.specs.declared.Entry.{Entry}
use Rattle.entry.specs.Lists.{Rising}

pub Rising-prop : (es : List Entry) → IsProp (Rising es)
Rising-prop [] = Unit-prop
Rising-prop (e ∷ es) = Prim.hlevel (Rising-prop es, props)
