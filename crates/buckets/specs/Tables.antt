-- What a bucket table means.
--
--   no_tree                                      the root of a bucket that has no tree
--   rep_of, size_of, root_of, prev_of, next_of   what the record of each number says
--   order_of, rest_of                            the buckets that stand, in their order, and those behind the first
--   spare_of                                     the free numbers
--   Laid t rest spare                            0 and rest are a ring, spare are free, and each number below 128 is in one of the two, once
--   Standing t                                   so it is with the table's own order and free numbers, as in every table
--   Reads t u reps sizes roots prevs nexts       the records of u say this, and the rest is as in t
--   Shows u numbers reps sizes roots             these numbers are the order of u, and its records say this
--   Fresh t                                      one bucket stands, number 0, empty and of representative 0
use Rattle.std.specs.Prelude.{◌≡◌, ℕ, List, [], ◌∷◌, length}
use Rattle.buckets.specs.declared.Table.{Table}
use Rattle.buckets.specs.Rings.{rep_in, size_in, root_in, prev_in, next_in, rest_in, spare_in, LaidIn, StandingIn}

abbrev pub no_tree : ℕ
no_tree = 65535

abbrev pub rep_of : Table → ℕ → ℕ
rep_of t = rep_in t.records

abbrev pub size_of : Table → ℕ → ℕ
size_of t = size_in t.records

abbrev pub root_of : Table → ℕ → ℕ
root_of t = root_in t.records

abbrev pub prev_of : Table → ℕ → ℕ
prev_of t = prev_in t.records

abbrev pub next_of : Table → ℕ → ℕ
next_of t = next_in t.records

abbrev pub rest_of : Table → List ℕ
rest_of t = rest_in t.records t.count

unfoldable pub order_of : Table → List ℕ
order_of t = 0 ∷ rest_of t

abbrev pub spare_of : Table → List ℕ
spare_of t = spare_in t.records t.count t.free

abbrev pub Laid : Table → List ℕ → List ℕ → Type 0
Laid t rest spare = LaidIn t.records t.count t.free rest spare

abbrev pub Standing : Table → Type 0
Standing t = StandingIn t.records t.count t.free

pub record Reads (t u : Table) (reps sizes roots prevs nexts : ℕ → ℕ) : Type 0 where
  pub rep : rep_of u ≡ reps
  pub size : size_of u ≡ sizes
  pub root : root_of u ≡ roots
  pub prev : prev_of u ≡ prevs
  pub next : next_of u ≡ nexts
  pub count : u.count ≡ t.count
  pub free : u.free ≡ t.free
  pub long : length u.records ≡ length t.records

pub record Shows (u : Table) (numbers : List ℕ) (reps sizes roots : ℕ → ℕ) : Type 0 where
  pub order : order_of u ≡ numbers
  pub rep : rep_of u ≡ reps
  pub size : size_of u ≡ sizes
  pub root : root_of u ≡ roots

pub record Fresh (t : Table) : Type 0 where
  pub order : order_of t ≡ 0 ∷ []
  pub rep : rep_of t 0 ≡ 0
  pub size : size_of t 0 ≡ 0
  pub root : root_of t 0 ≡ no_tree
