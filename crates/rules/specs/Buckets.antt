-- Buckets: each has a representative, and holds the entries from it to just below the next one.
--
--   Bucket, hollow     a representative with its entries; the one of 0 without an entry
--   size               how many entries a bucket holds
--   flat, total        the entries of all buckets, in their order; how many they are
--   reps               the representatives
--   several            more than one bucket stands
--   here i             the bucket at place i
--   place k            the place of the key's bucket: the last whose representative is at or below it
--   behind i           the entries of the bucket before place i
--   new                the buckets of a new index: one, of 0, without an entry
--   lowest top         the first representative, or top where no bucket stands
--   Rise lo hi         the keys rise from lo to below hi
--   Spread top         each bucket's entries stand from its representative to below the next one, or below top
--   Sized m            some bucket stands; each holds at most 5m entries and, where others stand, at least m
--   Sound w limit      what holds of an index's buckets between any two calls
use Rattle.std.specs.Prelude.{◌≡◌, ℕ, zero, suc, ◌*◌, ◌^◌, ◌<◌, ◌≤◌, Bool, true, false, cond, List, [], ◌∷◌, map, length, drop, sum_by, nat_le, slice_index_or}
use Rattle.std.specs.List.{flat_map, AllByRecursion}
use Rattle.key.specs.Widths.{half}
use Rattle.entry.specs.declared.Entry.{Entry}

pub record Bucket : Type 0 where
  pub rep : ℕ
  pub items : List Entry

abbrev pub hollow : Bucket
hollow = record { rep = 0; items = [] }

abbrev pub new : List Bucket
new = hollow ∷ []

abbrev pub size : Bucket → ℕ
size b = length b.items

abbrev pub flat : List Bucket → List Entry
flat s = flat_map (λ (b : Bucket). b.items) s

abbrev pub total : List Bucket → ℕ
total s = sum_by size s

abbrev pub reps : List Bucket → List ℕ
reps s = map (λ (b : Bucket). b.rep) s

abbrev pub several : List Bucket → Bool
several [] = false
several (b ∷ []) = false
several (b ∷ c ∷ s) = true

abbrev pub here : ℕ → List Bucket → Bucket
here i s = slice_index_or s i hollow

abbrev pub at_or_below : ℕ → Bucket → Bool
at_or_below k b = nat_le b.rep k

-- how many of the buckets stand at or below a key, up to the first that does not
abbrev pub standing : ℕ → List Bucket → ℕ
standing k [] = 0
standing k (b ∷ bs) = cond (at_or_below k b) (suc (standing k bs)) 0

abbrev pub place : ℕ → List Bucket → ℕ
place k s = standing k (drop 1 s)

abbrev pub behind : ℕ → List Bucket → List Entry
behind zero s = []
behind (suc i) s = (here i s).items

-- ---- what holds of them
abbrev pub lowest : ℕ → List Bucket → ℕ
lowest top [] = top
lowest top (b ∷ s) = b.rep

abbrev pub Rise : ℕ → ℕ → List Entry → Type 0
Rise lo hi [] = lo ≤ hi
Rise lo hi (e ∷ es) = (lo ≤ e.key) × Rise (suc e.key) hi es

abbrev pub Spread : ℕ → List Bucket → Type 0
Spread top [] = Unit {0}
Spread top (b ∷ s) = (b.rep < lowest top s) × (Rise b.rep (lowest top s) b.items × Spread top s)

pub record Sized (m : ℕ) (s : List Bucket) : Type 0 where
  pub some : 0 < length s
  pub high : AllByRecursion (λ (b : Bucket). size b ≤ 5 * m) s
  pub low : several s ≡ true → AllByRecursion (λ (b : Bucket). m ≤ size b) s

pub record Sound (w limit : ℕ) (s : List Bucket) : Type 0 where
  pub first : lowest (2 ^ w) s ≡ 0
  pub spread : Spread (2 ^ w) s
  pub sized : Sized (half w) s
  pub few : total s ≤ limit
