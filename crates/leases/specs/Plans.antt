-- What a command does on the one index it goes to.
--
--   Plan            what a command tells, the index calls it makes, the entries after it, how many of the calls change entries
--   Steps           index calls one after another, with their answers
--   frames_of, visits_of   the sums over the answers of the calls made
--   rebuilding_of   the rebuilding of the last call made, which is the only one that can change entries
--   changes_of      how many of the calls changed entries
--   Planned         a plan carried out: the answer, the calls made, the index after them
--   together        what a second call tells, with the frames and visits of both
--   turned_away     the plan of a refusal after some calls
--   unless          a refusal before the first frame, or a plan
--   call_plan       the plan of one index call
use Rattle.std.specs.Prelude.{◌≡◌, ℕ, ◌+◌, ◌*◌, ◌≤◌, List, [], ◌∷◌, length, Some, None, Err, Option, Result}
use Rattle.dictionary.specs.Pairs.{raised}
use Rattle.entry.specs.declared.Entry.{Entry}
use Rattle.ordered.specs.declared.calls.Answer.{Answer}
use Rattle.ordered.specs.declared.calls.Call.{Call}
use Rattle.ordered.specs.declared.calls.Rebuilding.{Rebuilding}
use Rattle.ordered.specs.declared.calls.Rebuilding.TheVariants.{Unchanged}
use Rattle.ordered.specs.declared.refusal.Refusal.{Refusal}
use Rattle.ordered.specs.Sorted.{changed}
use Rattle.ordered.specs.Meaning.{View, Stepped, told, after}

pub record Plan : Type 0 where
  pub told : Result Entry Refusal
  pub calls : List Call
  pub after : List Entry
  pub changes : ℕ

-- ---- the calls made
pub data Steps : View → List Call → List Answer → View → Type 0 where
  none : {v : View} → Steps v [] [] v
  next : {v u v' : View} {c : Call} {a : Answer} {cs : List Call} {rs : List Answer} → Stepped v c [] a [] u → Steps u cs rs v' → Steps v (c ∷ cs) (a ∷ rs) v'

abbrev pub frames_of : List Answer → ℕ
frames_of [] = 0
frames_of (a ∷ rs) = a.frames + frames_of rs

abbrev pub visits_of : List Answer → ℕ
visits_of [] = 0
visits_of (a ∷ rs) = a.visits + visits_of rs

abbrev pub rebuilding_of : List Answer → Rebuilding
rebuilding_of [] = Unchanged
rebuilding_of (a ∷ []) = a.rebuilding
rebuilding_of (a ∷ b ∷ rs) = rebuilding_of (b ∷ rs)

abbrev pub changes_of : List Call → List Answer → ℕ
changes_of [] rs = 0
changes_of (c ∷ cs) [] = 0
changes_of (c ∷ cs) (a ∷ rs) = changed c a.outcome + changes_of cs rs

pub record Planned (v : View) (p : Plan) (r : Answer) (v' : View) : Type 0 where
  pub answers : List Answer
  pub steps : Steps v p.calls answers v'
  pub outcome : r.outcome ≡ p.told
  pub number : r.number ≡ 0
  pub frames : r.frames ≡ frames_of answers
  pub visits : r.visits ≡ visits_of answers
  pub rebuilding : r.rebuilding ≡ rebuilding_of answers
  pub entries : v'.entries ≡ p.after
  pub changes : changes_of p.calls answers ≡ p.changes
  pub limit : v'.limit ≡ v.limit
  pub width : v'.width ≡ v.width
  pub shut : v'.shut ≡ v.shut
  pub tally : v'.tally ≡ raised v.tally r.frames
  -- seven frames for each call, and nine paid ahead for each change
  pub paid : r.frames + v'.credit ≤ 7 * length p.calls + v.credit + 9 * p.changes
  -- a refusal or a question alters nothing but the tally
  pub still : p.changes ≡ 0 → (r.rebuilding ≡ Unchanged) × (v'.pairs ≡ v.pairs) × (v'.credit ≡ v.credit) × (v'.cost ≡ v.cost)

-- ---- answers
abbrev pub together : Answer → Answer → Answer
together a b = record { outcome = b.outcome; number = 0; frames = a.frames + b.frames; visits = a.visits + b.visits; rebuilding = b.rebuilding }

-- ---- plans
abbrev pub turned_away : Refusal → List Call → View → Plan
turned_away e cs v = record { told = Err e; calls = cs; after = v.entries; changes = 0 }

abbrev pub unless : Option Refusal → View → Plan → Plan
unless None v p = p
unless (Some e) v p = turned_away e [] v

abbrev pub call_plan : View → Call → Plan
call_plan v c = record { told = (told v c []).outcome; calls = c ∷ []; after = after v c []; changes = changed c (told v c []).outcome }
