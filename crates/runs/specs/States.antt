-- What an index is between two calls, and what one call does to it.
--
--   State           the buckets, the tree of each, the pairs of the dictionary and its tally
--   Planted s ts    each bucket has a balanced search tree with just its entries
--   Laid w rs f     f are the pairs of the levels for the representatives rs, under some numbering of the buckets
--   Sound w limit   what holds of an index between any two calls
--   tree_at i       the tree of the bucket at place i
--   tree_behind i   that of the bucket before place i
--   path            the visits of a call whose keys fit: the entries on the search path of its key, and for a
--                   next or last not answered in that bucket the way to the end entry of the neighbour
--   visits          the visits of any call
--   Answered        an answer, and the caller's places after it
--   Step            a call, with the caller's places as they stood, its answer, and the state after it
use Rattle.std.specs.Prelude.{◌≡◌, ℕ, zero, suc, ◌+◌, ◌^◌, ◌<◌, cond, List, [], ◌∷◌, map, Some, None, Option, slice_index_or}
use Rattle.std.specs.List.{AllByRecursion}
use Rattle.dictionary.specs.Pairs.{Pairs, raised}
use Rattle.entry.specs.declared.Entry.{Entry}
use Rattle.entry.specs.Lists.{from, upto, filled}
use Rattle.links.specs.Links.{links}
use Rattle.ordered.specs.declared.calls.Answer.{Answer}
use Rattle.ordered.specs.declared.calls.Call.{Call}
use Rattle.ordered.specs.declared.calls.Call.TheVariants.{Add, Remove, Find, Next, Last, Range}
use Rattle.ordered.specs.declared.refusal.Refusal.{Refusal}
use Rattle.ordered.specs.Sorted.{Told, listed, misfit, changed}
use Rattle.rules.specs.Buckets.{Bucket, flat, reps, here, place}
use Rattle.rules.specs.Buckets.{Sound as BucketsSound}
use Rattle.rules.specs.Steps.{step}
use Rattle.trees.specs.Trees.{Tree, leaf, entries, Balanced, seen, low_way, high_way}

pub record State : Type 0 where
  pub buckets : List Bucket
  pub trees : List Tree
  pub pairs : Pairs
  pub tally : ℕ

abbrev pub Planted : List Bucket → List Tree → Type 0
Planted [] [] = Unit {0}
Planted [] (t ∷ ts) = ⊥
Planted (b ∷ s) [] = ⊥
Planted (b ∷ s) (t ∷ ts) = (entries t ≡ b.items) × (Balanced t) × Planted s ts

pub record Laid (w : ℕ) (rs : List ℕ) (pairs : Pairs) : Type 0 where
  pub numbers : List ℕ
  pub rep : ℕ → ℕ
  pub named : map rep numbers ≡ rs
  pub tied : pairs ≡ links w rep numbers

pub record Sound (w limit : ℕ) (σ : State) : Type 0 where
  pub buckets : BucketsSound w limit σ.buckets
  pub notes : AllByRecursion (λ (e : Entry). e.note < 2 ^ 64) (flat σ.buckets)
  pub planted : Planted σ.buckets σ.trees
  pub laid : Laid w (reps σ.buckets) σ.pairs
  pub counts : σ.tally < 2 ^ 64

-- ---- visits
abbrev pub tree_at : ℕ → List Tree → Tree
tree_at i ts = slice_index_or ts i leaf

abbrev pub tree_behind : ℕ → List Tree → Tree
tree_behind zero ts = leaf
tree_behind (suc i) ts = tree_at i ts

abbrev pub path : Call → List Bucket → List Tree → ℕ
path (Add k v) s ts = seen k (tree_at (place k s) ts)
path (Remove k) s ts = seen k (tree_at (place k s) ts)
path (Find k) s ts = seen k (tree_at (place k s) ts)
path (Next k) s ts =
    let i = place k s in
    seen k (tree_at i ts) + cond (filled (from k (here i s).items)) 0 (low_way (tree_at (i + 1) ts))
path (Last k) s ts =
    let i = place k s in
    seen k (tree_at i ts) + cond (filled (upto k (here i s).items)) 0 (high_way (tree_behind i ts))
path (Range a b) s ts = 0

abbrev pub unbarred : Option Refusal → ℕ → ℕ
unbarred None n = n
unbarred (Some r) n = 0

unfoldable pub visits : ℕ → Call → List Bucket → List Tree → ℕ
visits w c s ts = unbarred (misfit w c) (path c s ts)

-- ---- one call
pub record Answered : Type 0 where
  pub answer : Answer
  pub places : List Entry

abbrev pub told_by : Answered → Told
told_by a = record { outcome = a.answer.outcome; number = a.answer.number; places = a.places }

pub record Step (w limit : ℕ) (σ : State) (call : Call) (places : List Entry) (a : Answered) (σ' : State) : Type 0 where
  -- as the sorted list of the entries
  pub told : told_by a ≡ (listed w limit call places (flat σ.buckets)).told
  pub entries_after : flat σ'.buckets ≡ (listed w limit call places (flat σ.buckets)).after
  -- as the rules of the buckets and of the levels count
  pub frames : a.answer.frames ≡ (step w limit call places σ.buckets).reply.frames
  pub rebuilding : a.answer.rebuilding ≡ (step w limit call places σ.buckets).reply.rebuilding
  pub buckets : σ'.buckets ≡ (step w limit call places σ.buckets).after
  -- on the trees then standing
  pub visits : a.answer.visits ≡ visits w call σ.buckets σ.trees
  pub tally : σ'.tally ≡ raised σ.tally a.answer.frames
  pub sound : Sound w limit σ'
  pub still : changed call a.answer.outcome ≡ 0 → (σ'.pairs ≡ σ.pairs) × (σ'.trees ≡ σ.trees)
