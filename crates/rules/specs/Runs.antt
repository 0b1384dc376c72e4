-- Runs of calls on the buckets, and what is counted over them.
--
--   after, replies        the buckets after a run, and what was replied
--   changes               how many adds and removes were accepted
--   frames, rebuildings   the frames of all replies; how many report a rebuilding
--   lack m n              how far a bucket of n entries is on the way to a rebuilding: below 2m - 1, or above 4m
--   saved m s             that of all buckets; one that stands alone is never merged
use Rattle.std.specs.Prelude.{ℕ, ◌+◌, ◌-◌, ◌*◌, List, [], ◌∷◌, map, sum_by}
use Rattle.ordered.specs.Numbers.{rebuilt}
use Rattle.ordered.specs.Sorted.{Told, changed}
use Rattle.ordered.specs.Runs.{Asked}
use Rattle.rules.specs.Buckets.{Bucket, size}
use Rattle.rules.specs.Steps.{Reply, step}

unfoldable pub after : ℕ → ℕ → List Asked → List Bucket → List Bucket
after w limit [] s = s
after w limit (c ∷ cs) s = after w limit cs (step w limit c.call c.places s).after

unfoldable pub replies : ℕ → ℕ → List Asked → List Bucket → List Reply
replies w limit [] s = []
replies w limit (c ∷ cs) s =
    let t = step w limit c.call c.places s in
    t.reply ∷ replies w limit cs t.after

unfoldable pub changes : List Asked → List Reply → ℕ
changes [] rs = 0
changes (c ∷ cs) [] = 0
changes (c ∷ cs) (r ∷ rs) = changed c.call r.told.outcome + changes cs rs

abbrev pub frames : List Reply → ℕ
frames rs = sum_by (λ (r : Reply). r.frames) rs

abbrev pub rebuildings : List Reply → ℕ
rebuildings rs = sum_by (λ (r : Reply). rebuilt r.rebuilding) rs

abbrev pub told : List Reply → List Told
told rs = map (λ (r : Reply). r.told) rs

abbrev pub lack : ℕ → ℕ → ℕ
lack m n = (2 * m - 1 - n) + (n - 4 * m)

abbrev pub saved : ℕ → List Bucket → ℕ
saved m [] = 0
saved m (b ∷ []) = size b - 4 * m
saved m (b ∷ c ∷ s) = sum_by (λ (x : Bucket). lack m (size x)) (b ∷ c ∷ s)
