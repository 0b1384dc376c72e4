-- What an index keeps true has one proof at most, so an index can carry it.
use Rattle.std.specs.Prelude.{ℕ, Option, None, Some}
use Rattle.std.specs.Coded.{Unit-prop}
use Rattle.std.proofs.Props.{props}
use Rattle.dictionary.specs.Pairs.{Pairs}
use Rattle.links.specs.Props.{Rising-prop}
use Rattle.rules.specs.Props.{Sound-prop as BucketsSound-prop}
use Rattle.inside.specs.declared.Inside.{Inside}
use Rattle.inside.specs.Whole.{Whole, Sound}

pub Whole-prop : (w : ℕ) (f : Pairs) (room tally : ℕ) (i : Inside) → IsProp (Whole w f room tally i)
Whole-prop w f room tally i = Prim.hlevel (Rising-prop, BucketsSound-prop, props)

pub Sound-prop : (w : ℕ) (f : Pairs) (room tally : ℕ) (o : Option Inside) → IsProp (Sound w f room tally o)
Sound-prop w f room tally None = Unit-prop
Sound-prop w f room tally (Some i) = Whole-prop w f room tally i
