-- The law over runs.
--
--   short w c a    a find, next or last takes at most q frames, and visits at most twice the height of a full bucket's tree
--   Short          so does each of a run
--   Law            of a run on a new index: frames, rebuildings and answers
--   General        of a run from any sound state on: what had been saved there pays too
use Rattle.std.specs.Prelude.{◌≡◌, ℕ, ◌+◌, ◌*◌, ◌^◌, ◌<◌, ◌≤◌, List, [], ◌∷◌, map, length}
use Rattle.key.specs.Widths.{half, most}
use Rattle.ordered.specs.declared.calls.Call.{Call}
use Rattle.ordered.specs.declared.calls.Call.TheVariants.{Add, Remove, Find, Next, Last, Range}
use Rattle.ordered.specs.declared.calls.Answer.{Answer}
use Rattle.ordered.specs.Runs.{Asked, own_answers, own_after}
use Rattle.ordered.specs.Kinds.{Kind, shown}
use Rattle.rules.specs.Buckets.{flat}
use Rattle.rules.specs.Runs.{saved}
use Rattle.trees.specs.Heights.{highest}
use Rattle.runs.specs.States.{State, Answered}
use Rattle.runs.specs.Runs.{frames, changes, rebuildings, told}

abbrev pub Few : ℕ → Answer → Type 0
Few w r = (r.frames ≤ most w) × (r.visits ≤ 2 * highest (5 * half w))

abbrev pub Short : ℕ → Call → Answer → Type 0
Short w (Add k v) r = Unit {0}
Short w (Remove k) r = Unit {0}
Short w (Find k) r = Few w r
Short w (Next k) r = Few w r
Short w (Last k) r = Few w r
Short w (Range a b) r = Unit {0}

abbrev pub AllShort : ℕ → List Asked → List Answered → Type 0
AllShort w [] rs = Unit {0}
AllShort w (c ∷ cs) [] = ⊥
AllShort w (c ∷ cs) (a ∷ rs) = Short w c.call a.answer × AllShort w cs rs

pub record Law {K : Type 0} (kind : Kind K) (limit : ℕ) (σ : State) (cs : List Asked) (rs : List Answered) (σ' : State) : Type 0 where
  -- the tally rises by the frames answered: q for each call, and nine for each change, at most
  pub tally : σ'.tally ≡ σ.tally + frames rs
  pub frames_most : frames rs ≤ most kind.width * length cs + 9 * changes cs rs
  -- rebuildings are rare
  pub rebuildings_most : rebuildings rs * half kind.width ≤ changes cs rs
  -- every call answers as the list that is sorted in the kind's own order, and leaves what it leaves
  pub tells : told rs ≡ own_answers kind limit cs []
  pub holds : flat σ'.buckets ≡ map (shown kind) (own_after kind limit cs [])
  pub short : AllShort kind.width cs rs

pub record General (w limit : ℕ) (σ : State) (cs : List Asked) (rs : List Answered) (σ' : State) : Type 0 where
  pub tally : σ.tally + frames rs < 2 ^ 64 → σ'.tally ≡ σ.tally + frames rs
  pub frames_most : frames rs + 9 * saved (half w) σ'.buckets ≤ most w * length cs + 9 * changes cs rs + 9 * saved (half w) σ.buckets
  pub rebuildings_most : half w * rebuildings rs + saved (half w) σ'.buckets ≤ changes cs rs + saved (half w) σ.buckets
  pub saved_most : saved (half w) σ.buckets ≤ half w * length σ.buckets
  pub short : AllShort w cs rs
