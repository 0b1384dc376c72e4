-- The laws of the buckets, over runs of calls.
--
--   BucketsKeep         a run leaves sound buckets sound: their sizes, their order, their entries within the limit; never more than the fitness check counted
--   RebuildingsRare     from any sound buckets: m for each rebuilding, and what is saved after, come from the changes and what was saved before
--   FramesBounded       from any sound buckets: q for each call, 9 for each change, and 9 for each that was saved before and no longer is
--   CallsBounded        each call on sound buckets takes at most q frames, and at most 4 more a level where it rebuilds; what changes no entry rebuilds nothing, and without a rebuilding every representative stands
--   NewRuns             on a new index: both bounds without what is saved
--   AsAList             the buckets tell what the sorted list of their entries tells, and hold what it holds
--   AsOwnList           on a new index that is what the list of the kind's own keys tells and holds
--   SearchFinds         the level search answers the key's bucket: the last whose representative is at or below the key, which holds the key's entry if any does
use Rattle.std.specs.Prelude.{◌≡◌, ℕ, ◌+◌, ◌*◌, ◌^◌, ◌<◌, ◌≤◌, List, [], map, length}
use Rattle.key.specs.Widths.{half, most, buckets_for}
use Rattle.entry.specs.declared.Entry.{Entry}
use Rattle.entry.specs.Lists.{at, Rising}
use Rattle.ordered.specs.declared.calls.Call.{Call}
use Rattle.ordered.specs.declared.calls.Rebuilding.TheVariants.{Unchanged}
use Rattle.ordered.specs.Numbers.{rebuilt}
use Rattle.ordered.specs.Sorted.{changed}
use Rattle.ordered.specs.Runs.{Asked, list_answers, list_after, own_answers, own_after}
use Rattle.ordered.specs.Kinds.{Kind, shown}
use Rattle.rules.specs.Buckets.{Bucket, new, flat, reps, here, Sound}
use Rattle.rules.specs.Steps.{Step, step}
use Rattle.rules.specs.Search.{found, Sits}
use Rattle.rules.specs.Runs.{after, replies, changes, frames, rebuildings, told, saved}

-- for each width of a key kind, limit, sound buckets and run of calls
abbrev pub EachRun : (ℕ → ℕ → List Bucket → List Asked → Type 0) → Type 0
EachRun P = (w limit : ℕ) → 8 ≤ w → w ≤ 60 → (s : List Bucket) → Sound w limit s → (cs : List Asked) → P w limit s cs

abbrev pub EachNewRun : (ℕ → ℕ → List Asked → Type 0) → Type 0
EachNewRun P = (w limit : ℕ) → 8 ≤ w → w ≤ 60 → (cs : List Asked) → P w limit cs

pub record Keeps (w limit : ℕ) (s : List Bucket) : Type 0 where
  pub sound : Sound w limit s
  pub rising : Rising (flat s)
  pub few : length s ≤ buckets_for w limit
  pub within : limit ≤ 512 → length s ≤ 128

abbrev pub BucketsKeep : Type 0
BucketsKeep = ((w limit : ℕ) → Sound w limit new) × EachRun (λ w limit s cs. Keeps w limit (after w limit cs s))

pub record Rare (w limit : ℕ) (s : List Bucket) (cs : List Asked) : Type 0 where
  pub paid : half w * rebuildings (replies w limit cs s) + saved (half w) (after w limit cs s) ≤ changes cs (replies w limit cs s) + saved (half w) s
  pub most_saved : saved (half w) s ≤ half w * length s

abbrev pub RebuildingsRare : Type 0
RebuildingsRare = ((m : ℕ) → saved m new ≡ 0) × EachRun Rare

abbrev pub FramesBounded : Type 0
FramesBounded = EachRun (λ w limit s cs.
    frames (replies w limit cs s) + 9 * saved (half w) (after w limit cs s) ≤ most w * length cs + 9 * changes cs (replies w limit cs s) + 9 * saved (half w) s)

pub record Bounded (w : ℕ) (c : Call) (s : List Bucket) (t : Step) : Type 0 where
  pub frames_most : t.reply.frames ≤ most w + 4 * (w + 1) * rebuilt t.reply.rebuilding
  pub quiet : changed c t.reply.told.outcome ≡ 0 → t.reply.rebuilding ≡ Unchanged
  pub stands : t.reply.rebuilding ≡ Unchanged → reps t.after ≡ reps s

abbrev pub CallsBounded : Type 0
CallsBounded = (w limit : ℕ) → 8 ≤ w → w ≤ 60 → (s : List Bucket) → Sound w limit s → (c : Call) (ps : List Entry) → Bounded w c s (step w limit c ps s)

pub record NewRun (w limit : ℕ) (cs : List Asked) : Type 0 where
  pub frames_most : frames (replies w limit cs new) ≤ most w * length cs + 9 * changes cs (replies w limit cs new)
  pub rebuildings_most : rebuildings (replies w limit cs new) * half w ≤ changes cs (replies w limit cs new)

abbrev pub NewRuns : Type 0
NewRuns = EachNewRun NewRun

pub record Listing (w limit : ℕ) (s : List Bucket) (cs : List Asked) : Type 0 where
  pub tells : told (replies w limit cs s) ≡ list_answers w limit cs (flat s)
  pub holds : flat (after w limit cs s) ≡ list_after w limit cs (flat s)

abbrev pub AsAList : Type 0
AsAList = EachRun Listing

pub record OwnListing {K : Type 0} (kind : Kind K) (limit : ℕ) (cs : List Asked) : Type 0 where
  pub tells : told (replies kind.width limit cs new) ≡ own_answers kind limit cs []
  pub holds : flat (after kind.width limit cs new) ≡ map (shown kind) (own_after kind limit cs [])

abbrev pub AsOwnList : {K : Type 0} → Kind K → Type 0
AsOwnList kind = (limit : ℕ) (cs : List Asked) → OwnListing kind limit cs

pub record Finds (w k : ℕ) (s : List Bucket) : Type 0 where
  pub sits : Sits k (found w (reps s) k) (reps s)
  pub holds : at k (flat s) ≡ at k (here (found w (reps s) k) s).items

abbrev pub SearchFinds : Type 0
SearchFinds = (w limit : ℕ) → 8 ≤ w → w ≤ 60 → (s : List Bucket) → Sound w limit s → (k : ℕ) → k < 2 ^ w → Finds w k s
