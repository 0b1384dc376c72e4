-- What an index keeps true of its parts, and its state.
--
--   limit_of    how many entries may stand: none where the index is shut
--   count_of    how many entries are counted
--   buckets_of  the buckets, of a shut index those of a new one
--   trees_of    and their trees
--   state_of    the state that the laws over runs speak of
--   Whole       an index that is not shut: dictionary and table tie in, and the rules of the buckets hold
--   Sound       whatever is asked of an index: nothing of one that is shut
--   closed      what a shut index answers
--   Does        what a call does: nothing where the index is shut, otherwise a step
use Rattle.std.specs.Prelude.{◌≡◌, ℕ, ◌^◌, ◌<◌, ◌≤◌, Bool, true, false, List, [], ◌∷◌, Option, None, Some}
use Rattle.std.specs.List.{AllByRecursion}
use Rattle.dictionary.specs.Pairs.{Pairs}
use Rattle.key.specs.Widths.{needed}
use Rattle.entry.specs.declared.Entry.{Entry}
use Rattle.ordered.specs.declared.calls.Call.{Call}
use Rattle.ordered.specs.declared.refusal.Refusal.TheVariants.{Shut}
use Rattle.rules.specs.Buckets.{Bucket, new, flat, total}
use Rattle.rules.specs.Buckets.{Sound as BucketsSound}
use Rattle.trees.specs.Trees.{Tree, leaf}
use Rattle.trie.specs.Sound.{Sound as TrieSound}
use Rattle.forest.specs.Forests.{row_of, grove_of}
use Rattle.runs.specs.States.{State, Answered, Step}
use Rattle.inside.specs.declared.Inside.{Inside}
use Rattle.ordered.specs.Answers.{no_of}

abbrev pub limit_of : Option Inside → ℕ
limit_of None = 0
limit_of (Some i) = i.limit

abbrev pub count_of : Option Inside → ℕ
count_of None = 0
count_of (Some i) = i.count

abbrev pub buckets_of : Option Inside → List Bucket
buckets_of None = new
buckets_of (Some i) = row_of i.grove.table i.grove.pool

abbrev pub trees_of : Option Inside → List Tree
trees_of None = leaf ∷ []
trees_of (Some i) = grove_of i.grove.table i.grove.pool

abbrev pub state_of : Pairs → ℕ → Option Inside → State
state_of f n o = record { buckets = buckets_of o; trees = trees_of o; pairs = f; tally = n }

pub record Whole (w : ℕ) (f : Pairs) (room tally : ℕ) (i : Inside) : Type 0 where
  pub trie : TrieSound w f i.grove.table
  pub buckets : BucketsSound w i.limit (row_of i.grove.table i.grove.pool)
  pub notes : AllByRecursion (λ (e : Entry). e.note < 2 ^ 64) (flat (row_of i.grove.table i.grove.pool))
  pub counted : i.count ≡ total (row_of i.grove.table i.grove.pool)
  pub small : i.limit ≤ 512
  pub fits : needed w i.limit ≤ room

abbrev pub Sound : ℕ → Pairs → ℕ → ℕ → Option Inside → Type 0
Sound w f room tally None = Unit {0}
Sound w f room tally (Some i) = Whole w f room tally i

abbrev pub closed : List Entry → Answered
closed places = record { answer = no_of Shut 0 0; places = places }

abbrev pub Does : Bool → ℕ → ℕ → State → Call → List Entry → Answered → State → Type 0
Does true w limit σ call places a σ' = (a ≡ closed places) × (σ' ≡ σ)
Does false w limit σ call places a σ' = Step w limit σ call places a σ'
