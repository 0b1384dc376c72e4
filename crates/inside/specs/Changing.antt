-- What an accepted add or remove leaves, by the rules of the buckets.
--
--   with_entry    the row with an entry put into its key's bucket
--   Entered       the row after an add, with the frames and the rebuilding beyond the search
use Rattle.std.specs.Prelude.{◌≡◌, ℕ, List, slice_set}
use Rattle.entry.specs.declared.Entry.{Entry}
use Rattle.entry.specs.Lists.{put}
use Rattle.forest.specs.Forests.{row_of}
use Rattle.rules.specs.Buckets.{Bucket, here, place}
use Rattle.rules.specs.Changes.{with_items, grown}
use Rattle.inside.specs.declared.Inside.{Inside}
use Rattle.inside.specs.declared.Rebuilt.{Rebuilt}

abbrev pub with_entry : Entry → List Bucket → List Bucket
with_entry e s = slice_set s (place e.key s) (with_items (here (place e.key s) s) (put e (here (place e.key s) s).items))

pub record Entered (w : ℕ) (i : Inside) (e : Entry) (r : Rebuilt) (s' : List Bucket) : Type 0 where
  pub row : s' ≡ (grown w (place e.key (row_of i.grove.table i.grove.pool)) (with_entry e (row_of i.grove.table i.grove.pool))).after
  pub frames : r.frames ≡ (grown w (place e.key (row_of i.grove.table i.grove.pool)) (with_entry e (row_of i.grove.table i.grove.pool))).frames
  pub rebuilding : r.rebuilding ≡ (grown w (place e.key (row_of i.grove.table i.grove.pool)) (with_entry e (row_of i.grove.table i.grove.pool))).rebuilding
