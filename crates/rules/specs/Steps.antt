-- The index calls on the buckets: what is told, the frames, the rebuilding and the buckets after.
--
--   Reply     what is told of a call, its frames, its rebuilding
--   Step      the reply, and the buckets after
--   reads     a call that alters nothing
--   alters    one that was accepted and changed an entry
--   served    a call whose keys fit: it searches its key's bucket, once, and looks at one neighbour at most
--   step      any call: keys that do not fit are refused before the first frame
use Rattle.std.specs.Prelude.{ℕ, ◌+◌, List, ◌++◌, length, drop, Some, None, Option, slice_set}
use Rattle.entry.specs.declared.Entry.{Entry}
use Rattle.entry.specs.Lists.{at, from, upto, put, without, between, first, final}
use Rattle.levels.specs.Counts.{searching}
use Rattle.ordered.specs.declared.calls.Call.{Call}
use Rattle.ordered.specs.declared.calls.Call.TheVariants.{Add, Remove, Find, Next, Last, Range}
use Rattle.ordered.specs.declared.calls.Rebuilding.{Rebuilding}
use Rattle.ordered.specs.declared.calls.Rebuilding.TheVariants.{Unchanged}
use Rattle.ordered.specs.declared.refusal.Refusal.{Refusal}
use Rattle.ordered.specs.Sorted.{Told, refused, answered, misfit, no_add, no_find, no_near, no_range, tells, writes}
use Rattle.rules.specs.Buckets.{Bucket, flat, total, reps, here, place, behind}
use Rattle.rules.specs.Changes.{Change, with_items, grown, shrunk}

pub record Reply : Type 0 where
  pub told : Told
  pub frames : ℕ
  pub rebuilding : Rebuilding

pub record Step : Type 0 where
  pub reply : Reply
  pub after : List Bucket

abbrev pub reads : Told → ℕ → List Bucket → Step
reads t f s = record { reply = record { told = t; frames = f; rebuilding = Unchanged }; after = s }

abbrev pub alters : Told → ℕ → Change → Step
alters t f c = record { reply = record { told = t; frames = f + c.frames; rebuilding = c.rebuilding }; after = c.after }

-- an add or remove with the refusal that may stand against it, its bucket's place and the frames of its search
unfoldable pub added : ℕ → Option Refusal → Entry → ℕ → ℕ → List Entry → List Bucket → Step
added w None e i f ps s = alters (answered e ps) f (grown w i (slice_set s i (with_items (here i s) (put e (here i s).items))))
added w (Some r) e i f ps s = reads (refused r ps) f s

unfoldable pub removed : ℕ → Option Refusal → ℕ → ℕ → ℕ → List Entry → List Bucket → Step
removed w None k i f ps s =
    alters (answered (first (at k (here i s).items)) ps) f (shrunk w i (slice_set s i (with_items (here i s) (without k (here i s).items))))
removed w (Some r) k i f ps s = reads (refused r ps) f s

unfoldable pub served : ℕ → ℕ → Call → List Entry → List Bucket → Step
served w limit (Add k v) ps s =
    let i = place k s in
    added w (no_add limit (at k (here i s).items) (total s)) (record { key = k; note = v }) i (searching w (reps s) k) ps s
served w limit (Remove k) ps s =
    let i = place k s in
    removed w (no_find (at k (here i s).items)) k i (searching w (reps s) k) ps s
served w limit (Find k) ps s =
    let xs = at k (here (place k s) s).items in
    reads (tells (no_find xs) (first xs) ps) (searching w (reps s) k) s
served w limit (Next k) ps s =
    let i = place k s in
    let xs = from k (here i s).items ++ (here (i + 1) s).items in
    reads (tells (no_near xs) (first xs) ps) (searching w (reps s) k) s
served w limit (Last k) ps s =
    let i = place k s in
    let xs = behind i s ++ upto k (here i s).items in
    reads (tells (no_near xs) (final xs) ps) (searching w (reps s) k) s
served w limit (Range a b) ps s =
    let ys = between a b (flat (drop (place a s) s)) in
    reads (writes (no_range (length ys) (length ps)) ys ps) (searching w (reps s) a) s

abbrev pub barred : Option Refusal → List Entry → List Bucket → Step → Step
barred None ps s t = t
barred (Some r) ps s t = reads (refused r ps) 0 s

unfoldable pub step : ℕ → ℕ → Call → List Entry → List Bucket → Step
step w limit c ps s = barred (misfit w c) ps s (served w limit c ps s)
