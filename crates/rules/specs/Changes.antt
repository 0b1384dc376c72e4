-- What an accepted add or remove does to the buckets besides the entry: splits and merges, and their frames.
--
--   Change              the buckets after, the frames of representatives set up and taken away, the rebuilding
--   still               nothing rebuilt
--   splice l n new      n buckets from place l replaced
--   halves              a bucket's lower half, and the rest under a representative of its own
--   merged              two buckets made one, under the left representative
--   split_at i          the bucket at i split
--   join_at l           those at l and l + 1 merged
--   share_at l          merged, and what was made split
--   grown i             after an entry came into the bucket at i: split where it holds more than 5m
--   shrunk i            after one left it: where fewer than m are left and others stand, merged with the bucket before,
--                       or after if none is before, and split again where both hold more than 4m
use Rattle.std.specs.Prelude.{ℕ, ◌+◌, ◌-◌, ◌*◌, ◌/◌, cond, ◌&&◌, List, [], ◌∷◌, ◌++◌, take, drop, nat_lt}
use Rattle.key.specs.Widths.{half}
use Rattle.entry.specs.declared.Entry.{Entry}
use Rattle.entry.specs.Lists.{first}
use Rattle.levels.specs.Counts.{turning}
use Rattle.ordered.specs.declared.calls.Rebuilding.{Rebuilding}
use Rattle.ordered.specs.declared.calls.Rebuilding.TheVariants.{Unchanged, Split, Merge, MergeSplit}
use Rattle.rules.specs.Buckets.{Bucket, size, reps, several, here}

pub record Change : Type 0 where
  pub after : List Bucket
  pub frames : ℕ
  pub rebuilding : Rebuilding

abbrev pub still : List Bucket → Change
still s = record { after = s; frames = 0; rebuilding = Unchanged }

abbrev pub splice : ℕ → ℕ → List Bucket → List Bucket → List Bucket
splice l n new s = take l s ++ (new ++ drop (l + n) s)

abbrev pub with_items : Bucket → List Entry → Bucket
with_items b xs = record { rep = b.rep; items = xs }

abbrev pub cut : Bucket → ℕ
cut b = size b / 2

abbrev pub low_half : Bucket → Bucket
low_half b = with_items b (take (cut b) b.items)

abbrev pub high_half : Bucket → Bucket
high_half b = record { rep = (first (drop (cut b) b.items)).key; items = drop (cut b) b.items }

abbrev pub halves : Bucket → List Bucket
halves b = low_half b ∷ high_half b ∷ []

abbrev pub merged : Bucket → Bucket → Bucket
merged a b = with_items a (a.items ++ b.items)

unfoldable pub split_at : ℕ → ℕ → List Bucket → Change
split_at w i s =
    let b = here i s in
    record { after = splice i 1 (halves b) s; frames = turning w (reps s) (high_half b).rep; rebuilding = Split }

unfoldable pub join_at : ℕ → ℕ → List Bucket → Change
join_at w l s =
    let a = here l s in
    let b = here (l + 1) s in
    record { after = splice l 2 (merged a b ∷ []) s; frames = turning w (reps s) b.rep; rebuilding = Merge }

unfoldable pub share_at : ℕ → ℕ → List Bucket → Change
share_at w l s =
    let one = join_at w l s in
    let two = split_at w l one.after in
    record { after = two.after; frames = one.frames + two.frames; rebuilding = MergeSplit }

unfoldable pub grown : ℕ → ℕ → List Bucket → Change
grown w i s =
    let r = split_at w i s in
    let o = still s in
    cond (nat_lt (5 * half w) (size (here i s))) r o

-- the partner before, or after: i - 1 stops at 0
unfoldable pub shrunk : ℕ → ℕ → List Bucket → Change
shrunk w i s =
    let l = i - 1 in
    let j = join_at w l s in
    let h = share_at w l s in
    let o = still s in
    let r = cond (nat_lt (4 * half w) (size (here l s) + size (here (l + 1) s))) h j in
    cond (nat_lt (size (here i s)) (half w) && several s) r o
