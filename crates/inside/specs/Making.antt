-- What making gives.
--
--   Bare    one bucket, of 0, without an entry, and its empty tree; no entry is counted
--   Made    a dictionary fitted: the limit is kept, representative 0 is set up, and the capacity is as it was
--   Kept    a dictionary did not fit: it is as it was, and no entry may stand
use Rattle.std.specs.Prelude.{◌≡◌, ℕ, ◌+◌, ◌*◌, [], ◌∷◌, Option}
use Rattle.rules.specs.Buckets.{new}
use Rattle.trees.specs.Trees.{leaf}
use Rattle.inside.specs.declared.Inside.{Inside}
use Rattle.inside.specs.Whole.{limit_of, count_of, buckets_of, trees_of}

pub record Bare (o : Option Inside) : Type 0 where
  pub buckets : buckets_of o ≡ new
  pub trees : trees_of o ≡ leaf ∷ []
  pub count : count_of o ≡ 0

pub record Made (w most before : ℕ) (o : Option Inside) (after frames : ℕ) : Type 0 where
  pub limit : limit_of o ≡ most
  pub room : after ≡ before
  pub tally : frames ≡ 2 * (w + 1)

pub record Kept {D : Type 0} (given : D) (o : Option Inside) (left : D) : Type 0 where
  pub limit : limit_of o ≡ 0
  pub dictionary : left ≡ given
