-- Answers of calls that rebuild nothing.
--
--   answer_of       the entry, or why there is none, with the frames and visits made
--   yes_of, no_of   with an entry; with a refusal
--   reply_of        the entry that was found, or a refusal where there is none
use Rattle.std.specs.Prelude.{ℕ, Option, Result, Ok, Err, ok_or}
use Rattle.entry.specs.declared.Entry.{Entry}
use Rattle.ordered.specs.declared.calls.Answer.{Answer}
use Rattle.ordered.specs.declared.calls.Rebuilding.TheVariants.{Unchanged}
use Rattle.ordered.specs.declared.refusal.Refusal.{Refusal}

abbrev pub answer_of : Result Entry Refusal → ℕ → ℕ → Answer
answer_of outcome frames visits = record { outcome = outcome; number = 0; frames = frames; visits = visits; rebuilding = Unchanged }

abbrev pub yes_of : Entry → ℕ → ℕ → Answer
yes_of e = answer_of (Ok e)

abbrev pub no_of : Refusal → ℕ → ℕ → Answer
no_of r = answer_of (Err r)

abbrev pub reply_of : Option Entry → Refusal → ℕ → ℕ → Answer
reply_of found none = answer_of (ok_or found none)
