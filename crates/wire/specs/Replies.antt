-- Answers of 32 bytes.
--
--   refusal_of      the number of the refusal, or 0
--   rebuilding_of   the number of the rebuilding; 0 where the answer is a refusal
--   entry_of        the entry added, removed or found; key 0 and note 0 where the answer is a refusal
--   reply           the bytes of an answer that repeats a code
use Rattle.std.specs.Prelude.{ℕ, List, [], ◌∷◌, ◌++◌, Ok, Err, Result}
use Rattle.entry.specs.declared.Entry.{Entry}
use Rattle.entry.specs.Lists.{blank}
use Rattle.ordered.specs.declared.calls.Answer.{Answer}
use Rattle.ordered.specs.declared.calls.Rebuilding.{Rebuilding}
use Rattle.ordered.specs.declared.refusal.Refusal.{Refusal}
use Rattle.ordered.specs.Numbers.{number, rebuilding_number}
use Rattle.wire.specs.Eights.{two, eight}

abbrev pub refusal_of : Result Entry Refusal → ℕ
refusal_of (Ok e) = 0
refusal_of (Err r) = number r

abbrev pub rebuilding_of : Result Entry Refusal → Rebuilding → ℕ
rebuilding_of (Ok e) b = rebuilding_number b
rebuilding_of (Err r) b = 0

abbrev pub entry_of : Result Entry Refusal → Entry
entry_of (Ok e) = e
entry_of (Err r) = blank

abbrev pub reply : ℕ → Answer → List ℕ
reply code a =
    let o = a.outcome in
    (code ∷ refusal_of o ∷ two a.frames) ++ (two a.visits ++ (rebuilding_of o a.rebuilding ∷ 0 ∷ []))
    ++ (eight (entry_of o).key ++ (eight (entry_of o).note ++ eight 0))
