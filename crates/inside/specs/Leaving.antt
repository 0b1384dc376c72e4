-- What an accepted remove leaves, by the rules of the buckets.
--
--   mended           two neighbours merged, and what was made split where both held more than 4m
--   without_entry    the row without an entry of a key in its bucket
--   Did              a change of the rules: the row after it, its frames and its rebuilding
--   Left             the row after a remove, with the frames and the rebuilding beyond the search
use Rattle.std.specs.Prelude.{◌≡◌, ℕ, ◌+◌, ◌*◌, cond, List, nat_lt, slice_set}
use Rattle.key.specs.Widths.{half}
use Rattle.entry.specs.Lists.{without}
use Rattle.forest.specs.Forests.{row_of}
use Rattle.rules.specs.Buckets.{Bucket, here, place, size}
use Rattle.rules.specs.Changes.{Change, with_items, join_at, share_at, shrunk}
use Rattle.inside.specs.declared.Inside.{Inside}
use Rattle.inside.specs.declared.Rebuilt.{Rebuilt}

abbrev pub mended : ℕ → ℕ → List Bucket → Change
mended w l s = cond (nat_lt (4 * half w) (size (here l s) + size (here (l + 1) s))) (share_at w l s) (join_at w l s)

abbrev pub without_entry : ℕ → List Bucket → List Bucket
without_entry k s = slice_set s (place k s) (with_items (here (place k s) s) (without k (here (place k s) s).items))

pub record Did (r : Rebuilt) (s' : List Bucket) (c : Change) : Type 0 where
  pub row : s' ≡ c.after
  pub frames : r.frames ≡ c.frames
  pub rebuilding : r.rebuilding ≡ c.rebuilding

abbrev pub Left : ℕ → Inside → ℕ → Rebuilt → List Bucket → Type 0
Left w i k r s' = Did r s' (shrunk w (place k (row_of i.grove.table i.grove.pool)) (without_entry k (row_of i.grove.table i.grove.pool)))
