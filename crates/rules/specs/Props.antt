-- That the buckets keep their rules has one proof at most, so a type can carry it.
use Rattle.std.specs.Prelude.{ℕ, suc, List, [], ◌∷◌}
use Rattle.std.specs.Coded.{Unit-prop}
use Rattle.std.proofs.Props.{props}
use Rattle.entry.specs.declared.Entry.{Entry}
use Rattle.rules.specs.Buckets.{Bucket, Rise, Spread, Sound}

pub Rise-prop : (lo hi : ℕ) (es : List Entry) → IsProp (Rise lo hi es)
Rise-prop lo hi [] = Prim.hlevel props
Rise-prop lo hi (e ∷ es) = Prim.hlevel (Rise-prop (suc e.key) hi es, props)

pub Spread-prop : (top : ℕ) (s : List Bucket) → IsProp (Spread top s)
Spread-prop top [] = Unit-prop
Spread-prop top (b ∷ s) = Prim.hlevel (Rise-prop, Spread-prop top s, props)

pub Sound-prop : (w limit : ℕ) (s : List Bucket) → IsProp (Sound w limit s)
Sound-prop w limit s = Prim.hlevel (Spread-prop, props)
