-- What the records of a bucket table say, with the count of the buckets that stand and the first free number.
--
--   no_bucket                    what is read past the records
--   rep_in, .., next_in          what the record of each number says
--   row next n x                 the numbers met from x on, n of them
--   rest_in, spare_in            the buckets that stand behind the first, and the free numbers
--   Seg next prev x ys z         from x through ys to z, linked both ways
--   Row next x ys                ys from x on, linked one way
--   LaidIn rs c f rest spare     0 and rest are a ring, spare are free, and each number below 128 is in one of the two, once
--   StandingIn rs c f            so it is with the records' own order and free numbers
--   StandingIn-prop              a fact of one proof at most, so a table can carry it
use Rattle.std.specs.Prelude.{◌≡◌, ℕ, zero, suc, ◌+◌, ◌-◌, cond, List, [], ◌∷◌, length, nat_lt, slice_index_or}
use Rattle.std.specs.Coded.{Unit-prop}
use Rattle.std.proofs.Props.{props}
use Rattle.trees.specs.Counts.{times}
use Rattle.buckets.specs.declared.Bucket.{Bucket}

-- what stands past the records
abbrev pub no_bucket : Bucket
no_bucket = record { rep = 0; size = 0; root = 0; prev = 0; next = 0 }

unfoldable pub rep_in : List Bucket → ℕ → ℕ
rep_in rs i = (slice_index_or rs i no_bucket).rep

unfoldable pub size_in : List Bucket → ℕ → ℕ
size_in rs i = (slice_index_or rs i no_bucket).size

unfoldable pub root_in : List Bucket → ℕ → ℕ
root_in rs i = (slice_index_or rs i no_bucket).root

unfoldable pub prev_in : List Bucket → ℕ → ℕ
prev_in rs i = (slice_index_or rs i no_bucket).prev

unfoldable pub next_in : List Bucket → ℕ → ℕ
next_in rs i = (slice_index_or rs i no_bucket).next

abbrev pub row : (ℕ → ℕ) → ℕ → ℕ → List ℕ
row next zero x = []
row next (suc n) x = x ∷ row next n (next x)

unfoldable pub rest_in : List Bucket → ℕ → List ℕ
rest_in rs count = row (next_in rs) (count - 1) (next_in rs 0)

unfoldable pub spare_in : List Bucket → ℕ → ℕ → List ℕ
spare_in rs count free = row (next_in rs) (128 - count) free

abbrev pub Seg : (ℕ → ℕ) → (ℕ → ℕ) → ℕ → List ℕ → ℕ → Type 0
Seg next prev x [] z = (next x ≡ z) × (prev z ≡ x)
Seg next prev x (y ∷ ys) z = (next x ≡ y) × (prev y ≡ x) × Seg next prev y ys z

abbrev pub Row : (ℕ → ℕ) → ℕ → List ℕ → Type 0
Row next x [] = Unit {0}
Row next x (y ∷ ys) = (x ≡ y) × Row next (next y) ys

pub record LaidIn (rs : List Bucket) (standing first : ℕ) (rest spare : List ℕ) : Type 0 where
  pub long : length rs ≡ 128
  pub count : standing ≡ length rest + 1
  pub ring : Seg (next_in rs) (prev_in rs) 0 rest 0
  pub free : Row (next_in rs) first spare
  pub shared : (m : ℕ) → times m (0 ∷ rest) + times m spare ≡ cond (nat_lt m 128) 1 0
  pub whole : length rest + 1 + length spare ≡ 128

abbrev pub StandingIn : List Bucket → ℕ → ℕ → Type 0
StandingIn rs count free = LaidIn rs count free (rest_in rs count) (spare_in rs count free)

pub Seg-prop : (next prev : ℕ → ℕ) (x : ℕ) (ys : List ℕ) (z : ℕ) → IsProp (Seg next prev x ys z)
Seg-prop next prev x [] z = Prim.hlevel props
Seg-prop next prev x (y ∷ ys) z = Prim.hlevel (Seg-prop next prev y ys z, props)

pub Row-prop : (next : ℕ → ℕ) (x : ℕ) (ys : List ℕ) → IsProp (Row next x ys)
Row-prop next x [] = Unit-prop
Row-prop next x (y ∷ ys) = Prim.hlevel (Row-prop next (next y) ys, props)

pub StandingIn-prop : (rs : List Bucket) (count free : ℕ) → IsProp (StandingIn rs count free)
StandingIn-prop rs count free = Prim.hlevel (Seg-prop, Row-prop, props)
