-- That representatives rise has one proof at most, so a type can carry it.
use Rattle.std.specs.Prelude.{ℕ, List, [], ◌∷◌}
use Rattle.std.specs.Coded.{Unit-prop}
use Rattle.std.proofs.Props.{props}
use Rattle.links.specs.Orders.{Rising}

pub Rising-prop : (rep : ℕ → ℕ) (xs : List ℕ) → IsProp (Rising rep xs)
Rising-prop rep [] = Unit-prop
Rising-prop rep (x ∷ xs) = Prim.hlevel (Rising-prop rep xs, props)
