-- Runs: one call after another.
--
--   Run          from a state on, the calls with the caller's places as they stood, their answers, and the state at the end
--   frames       the frames of all answers
--   changes      how many adds and removes were accepted
--   rebuildings  how many answers report a rebuilding
--   told         what was answered, as a sorted list would
use Rattle.std.specs.Prelude.{ℕ, ◌+◌, List, [], ◌∷◌, map, sum_by}
use Rattle.ordered.specs.Numbers.{rebuilt}
use Rattle.ordered.specs.Runs.{Asked}
use Rattle.ordered.specs.Sorted.{Told, changed}
use Rattle.runs.specs.States.{State, Answered, Step, told_by}

pub data Run (w limit : ℕ) : State → List Asked → List Answered → State → Type 0 where
  ended : {σ : State} → Run w limit σ [] [] σ
  then : {σ τ σ' : State} {c : Asked} {a : Answered} {cs : List Asked} {as' : List Answered} →
      Step w limit σ c.call c.places a τ → Run w limit τ cs as' σ' → Run w limit σ (c ∷ cs) (a ∷ as') σ'

abbrev pub frames : List Answered → ℕ
frames rs = sum_by (λ (a : Answered). a.answer.frames) rs

abbrev pub rebuildings : List Answered → ℕ
rebuildings rs = sum_by (λ (a : Answered). rebuilt a.answer.rebuilding) rs

unfoldable pub changes : List Asked → List Answered → ℕ
changes [] rs = 0
changes (c ∷ cs) [] = 0
changes (c ∷ cs) (a ∷ rs) = changed c.call a.answer.outcome + changes cs rs

abbrev pub told : List Answered → List Told
told rs = map told_by rs
