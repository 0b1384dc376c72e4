-- The script of the worked cases, and what comes of it.
--
--   track       two finds on a new index of zones, 21 adds up to a split, a last and a next, and seven removes up to a merge
--   Seen        what is looked at in an answer: the outcome, the frames and the rebuilding
--   expected    that of each call of the track: 4 or 5 frames for its search, and 18 more where a bucket is split or two are merged
--   Driven      the answers to the track: where the dictionary does not fit, each says that the index is shut
use Rattle.std.specs.Prelude.{◌≡◌, ℕ, zero, suc, ◌+◌, Bool, true, false, List, [], ◌∷◌, ◌++◌, map, replicate, Ok, Err, Result}
use Rattle.entry.specs.declared.Entry.{Entry}
use Rattle.ordered.specs.declared.calls.Answer.{Answer}
use Rattle.ordered.specs.declared.calls.Call.{Call}
use Rattle.ordered.specs.declared.calls.Call.TheVariants.{Add, Remove, Find, Next, Last}
use Rattle.ordered.specs.declared.calls.Rebuilding.{Rebuilding}
use Rattle.ordered.specs.declared.calls.Rebuilding.TheVariants.{Unchanged, Split, Merge}
use Rattle.ordered.specs.declared.refusal.Refusal.{Refusal}
use Rattle.ordered.specs.declared.refusal.Refusal.TheVariants.{Shut, Absent, Nothing}
use Rattle.ordered.specs.Answers.{no_of}

-- ---- the script: zone k is added with the note 99 + k
abbrev pub adds : ℕ → ℕ → List Call
adds k zero = []
adds k (suc n) = Add k (99 + k) ∷ adds (k + 1) n

abbrev pub removes : ℕ → ℕ → List Call
removes k zero = []
removes k (suc n) = Remove k ∷ removes (k + 1) n

abbrev pub track : List Call
track = Find 48 ∷ Find 0 ∷ (adds 1 21 ++ (Last 10 ∷ Next 22 ∷ removes 1 7))

-- ---- what comes of it
abbrev pub Seen : Type 0
Seen = Result Entry Refusal × ℕ × Rebuilding

abbrev pub seen : Answer → Seen
seen r = (r.outcome, r.frames, r.rebuilding)

abbrev pub zone : ℕ → ℕ → Rebuilding → Seen
zone k frames r = (Ok (record { key = k; note = 99 + k }), frames, r)

-- the zones from k on, each after a search of 4 frames
abbrev pub quiet : ℕ → ℕ → List Seen
quiet k zero = []
quiet k (suc n) = zone k 4 Unchanged ∷ quiet (k + 1) n

abbrev pub expected : List Seen
expected =
    (Err Absent, 4, Unchanged) ∷ (Err Absent, 5, Unchanged)
    ∷ zone 1 5 Unchanged ∷ (quiet 2 19 ++ (zone 21 22 Split
    ∷ zone 10 5 Unchanged ∷ (Err Nothing, 4, Unchanged)
    ∷ zone 1 5 Unchanged ∷ (quiet 2 5 ++ (zone 7 22 Merge ∷ []))))

abbrev pub Driven : Bool → List Answer → Type 0
Driven true rs = rs ≡ replicate 32 (no_of Shut 0 0)
Driven false rs = map seen rs ≡ expected
