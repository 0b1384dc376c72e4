-- Runs of calls on an index.
--
--   made        how many calls are made: while there are calls, and places for their answers
--   Handed      each call finds the caller's places as the call before it left them
--   Chain       calls and their answers, one after another, from a state to a state
--   Idle        every answer says that the index is shut, and nothing is altered
--   Went        what a list of calls does: nothing where the index is shut, otherwise a chain
--   Governed    a chain, with the law that holds from any state on
--   Ran         what a run does
--   begun       the state of a new index, by the pairs and the tally of its dictionary
--   Lawful      what a run on a new index does that is not shut, with its law over at most 2^48 calls
--   RanNew      what a run on a new index does, by the pairs and the tally that its dictionary came with
use Rattle.std.specs.Prelude.{◌≡◌, ℕ, ◌+◌, ◌*◌, ◌^◌, ◌≤◌, min, Bool, true, false, List, [], ◌∷◌, map, length}
use Rattle.dictionary.specs.Pairs.{Pairs}
use Rattle.entry.specs.declared.Entry.{Entry}
use Rattle.ordered.specs.declared.calls.Call.{Call}
use Rattle.ordered.specs.declared.calls.Answer.{Answer}
use Rattle.ordered.specs.declared.refusal.Refusal.TheVariants.{Shut}
use Rattle.ordered.specs.Kinds.{Kind}
use Rattle.ordered.specs.Runs.{Asked}
use Rattle.rules.specs.Buckets.{new}
use Rattle.trees.specs.Trees.{leaf}
use Rattle.runs.specs.States.{State, Answered}
use Rattle.runs.specs.Runs.{Run}
use Rattle.runs.specs.Law.{Law, General}
use Rattle.ordered.specs.Answers.{no_of}

abbrev pub made : List Call → List Answer → ℕ
made cs rs = min (length cs) (length rs)

abbrev pub Handed : List Entry → List Asked → List Answered → List Entry → Type 0
Handed ps [] [] qs = qs ≡ ps
Handed ps [] (a ∷ rs) qs = ⊥
Handed ps (c ∷ cs) [] qs = ⊥
Handed ps (c ∷ cs) (a ∷ rs) qs = (c.places ≡ ps) × Handed a.places cs rs qs

pub record Chain (w limit : ℕ) (σ : State) (ps : List Entry) (cs : List Call) (rs : List Answer) (σ' : State) (qs : List Entry) : Type 0 where
  pub asked : List Asked
  pub answered : List Answered
  pub calls : map (λ (c : Asked). c.call) asked ≡ cs
  pub answers : map (λ (a : Answered). a.answer) answered ≡ rs
  pub places : Handed ps asked answered qs
  pub run : Run w limit σ asked answered σ'

pub record Idle (σ : State) (ps : List Entry) (cs : List Call) (rs : List Answer) (σ' : State) (qs : List Entry) : Type 0 where
  pub answers : rs ≡ map (λ (c : Call). no_of Shut 0 0) cs
  pub state : σ' ≡ σ
  pub places : qs ≡ ps

abbrev pub Went : Bool → ℕ → ℕ → State → List Entry → List Call → List Answer → State → List Entry → Type 0
Went true w limit σ ps cs rs σ' qs = Idle σ ps cs rs σ' qs
Went false w limit σ ps cs rs σ' qs = Chain w limit σ ps cs rs σ' qs

pub record Governed (w limit : ℕ) (σ : State) (ps : List Entry) (cs : List Call) (rs : List Answer) (σ' : State) (qs : List Entry) : Type 0 where
  pub chain : Chain w limit σ ps cs rs σ' qs
  pub general : General w limit σ chain.asked chain.answered σ'

abbrev pub Ran : Bool → ℕ → ℕ → State → List Entry → List Call → List Answer → State → List Entry → Type 0
Ran true w limit σ ps cs rs σ' qs = Idle σ ps cs rs σ' qs
Ran false w limit σ ps cs rs σ' qs = Governed w limit σ ps cs rs σ' qs

abbrev pub begun : Pairs → ℕ → State
begun f tally = record { buckets = new; trees = leaf ∷ []; pairs = f; tally = tally }

pub record Lawful {K : Type 0} (kind : Kind K) (limit : ℕ) (ps : List Entry) (cs : List Call) (rs : List Answer) (σ' : State) (qs : List Entry) : Type 0 where
  pub pairs : Pairs
  pub governed : Governed kind.width limit (begun pairs (2 * (kind.width + 1))) ps cs rs σ' qs
  pub law : length cs ≤ 2 ^ 48 → Law kind limit (begun pairs (2 * (kind.width + 1))) governed.chain.asked governed.chain.answered σ'

abbrev pub RanNew : {K : Type 0} → Bool → Kind K → ℕ → Pairs → ℕ → List Entry → List Call → List Answer → State → List Entry → Type 0
RanNew true kind limit f tally ps cs rs σ' qs = Idle (begun f tally) ps cs rs σ' qs
RanNew false kind limit f tally ps cs rs σ' qs = Lawful kind limit ps cs rs σ' qs
