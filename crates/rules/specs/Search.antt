-- The bucket that a level search names, by the representatives alone.
--
--   deepest             the level at which a search between two levels ends, where `there` tells which levels have a pair
--   first_of, last_of   the place of the first and of the last number that passes
--   named w rs k j      the place that a pair at level j names: its low at level w; above it, by the key's next bit, its high or the one before its low
--   found w rs k        the place that the level search for k answers
--   Climb rs            the numbers rise
--   Sits k i rs         i is the place of the last that is at or below k
use Rattle.std.specs.Prelude.{ℕ, zero, suc, ◌+◌, ◌-◌, ◌/◌, ◌%◌, ◌^◌, ◌<◌, ◌≤◌, Bool, cond, List, [], ◌∷◌, length, ◌==◌, nat_le, slice_index, slice_index_or}
use Rattle.levels.specs.Nodes.{any, under, present}

-- the first number bounds the steps
unfoldable pub deepest_by : ℕ → (ℕ → Bool) → ℕ → ℕ → ℕ
deepest_by zero there lo hi = lo
deepest_by (suc f) there lo hi =
    let mid = (lo + hi) / 2 in
    let up = deepest_by f there mid hi in
    let down = deepest_by f there lo mid in
    let on = cond (there mid) up down in
    cond (nat_le (hi - lo) 1) lo on

abbrev pub deepest : (ℕ → Bool) → ℕ → ℕ → ℕ
deepest there lo hi = deepest_by (hi - lo) there lo hi

abbrev pub first_of : (ℕ → Bool) → List ℕ → ℕ
first_of p [] = 0
first_of p (x ∷ xs) = cond (p x) 0 (suc (first_of p xs))

abbrev pub last_of : (ℕ → Bool) → List ℕ → ℕ
last_of p [] = 0
last_of p (x ∷ xs) = cond (any p xs) (suc (last_of p xs)) 0

unfoldable pub named : ℕ → List ℕ → ℕ → ℕ → ℕ
named w rs k j =
    let low = first_of (under w k j) rs in
    let high = last_of (under w k j) rs in
    cond (j == w) low (cond (k / 2 ^ (w - suc j) % 2 == 1) high (low - 1))

abbrev pub found : ℕ → List ℕ → ℕ → ℕ
found w rs k = named w rs k (deepest (present w rs k) 0 (w + 1))

abbrev pub Climb : List ℕ → Type 0
Climb rs = (i j : ℕ) → i < j → j < length rs → slice_index rs i < slice_index rs j

pub record Sits (k i : ℕ) (rs : List ℕ) : Type 0 where
  pub within : i < length rs
  pub low : slice_index_or rs i 0 ≤ k
  pub high : suc i < length rs → k < slice_index rs (suc i)
