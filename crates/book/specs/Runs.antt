-- Runs of commands on a book, and the law on their frames.
--
--   Turn               a command's bytes, whatever they are, and its answer
--   Runs               turns one after another
--   frames, changes    the frames answered; the accepted changes: commands 1, 2, 5, 6, 8, 9 and 10 that were accepted
--   tallies, credits   the three tallies together; the frames that the three indexes have been paid ahead
--   New                a new book: no entry, nothing paid ahead, and no index has made more frames than its making takes, 2 × 61 at most
--   Frames             what the frames, the commands and records tried and the accepted changes of any run come to:
--                      exactly the rise of the tallies, and few
--   FromNew            what they come to on a new book
--   most_tried         how many commands and records a season tries at most
--   piece, pieces      the bytes of one command of a script; of the first n
--   parts              how many commands some bytes hold, a last part under 32 bytes counted
--   written            the bytes of the answers
--   Ran                the first n commands of a script have run: the answers stand in the buffer, and what stands after them is as before
use Rattle.std.specs.Prelude.{◌≡◌, ℕ, zero, suc, ◌+◌, ◌*◌, ◌/◌, ◌%◌, ◌^◌, ◌<◌, ◌≤◌, min, List, [], ◌∷◌, ◌++◌, map, length, take, drop}
use Rattle.dictionary.specs.Pairs.{top}
use Rattle.ordered.specs.declared.calls.Answer.{Answer}
use Rattle.ordered.specs.Meaning.{View}
use Rattle.wire.specs.Reading.{code_of}
use Rattle.wire.specs.Replies.{reply}
use Rattle.leases.specs.Commands.{change}
use Rattle.book.specs.Books.{BookView}
use Rattle.book.specs.Serving.{Served}

pub record Turn : Type 0 where
  pub bytes : List ℕ
  pub answer : Answer

pub data Runs (b : BookView) : List Turn → BookView → Type 0 where
  start : Runs b [] b
  more : {ts : List Turn} {u b' : BookView} {t : Turn} → Runs b ts u → Served u t.bytes t.answer b' → Runs b (ts ++ (t ∷ [])) b'

abbrev pub frames : List Turn → ℕ
frames [] = 0
frames (t ∷ ts) = t.answer.frames + frames ts

abbrev pub changes : List Turn → ℕ
changes [] = 0
changes (t ∷ ts) = change (code_of t.bytes) t.answer.outcome + changes ts

abbrev pub tallies : BookView → ℕ
tallies b = b.names.tally + b.leases.tally + b.events.tally

abbrev pub credits : BookView → ℕ
credits b = b.names.credit + b.leases.credit + b.events.credit

-- ---- the law
pub record Fresh (v : View) : Type 0 where
  pub entries : v.entries ≡ []
  pub credit : v.credit ≡ 0
  pub tally : v.tally ≤ 122

pub record New (b : BookView) : Type 0 where
  pub names : Fresh b.names
  pub leases : Fresh b.leases
  pub events : Fresh b.events

pub record FromNew (b : BookView) (frames tried changes : ℕ) (b' : BookView) : Type 0 where
  pub exact : tallies b' ≡ tallies b + frames
  pub few : frames ≤ 14 * tried + 9 * changes
  -- no tally reaches its top
  pub below : (b'.names.tally < top) × (b'.leases.tally < top) × (b'.events.tally < top)

-- 2^48 commands and loads, of which each load tries at most 769 records
abbrev pub most_tried : ℕ
most_tried = 769 * 2 ^ 48

pub record Frames (b : BookView) (frames tried changes : ℕ) (b' : BookView) : Type 0 where
  pub exact : tallies b + frames < 2 ^ 64 → tallies b' ≡ tallies b + frames
  pub few : frames + credits b' ≤ 14 * tried + credits b + 9 * changes
  pub each : changes ≤ tried
  pub new : New b → tried ≤ most_tried → FromNew b frames tried changes b'

-- ---- a script and its answers
abbrev pub piece : List ℕ → ℕ → List ℕ
piece bs i = take 32 (drop (32 * i) bs)

unfoldable pub pieces : List ℕ → ℕ → List (List ℕ)
pieces bs zero = []
pieces bs (suc n) = pieces bs n ++ (piece bs n ∷ [])

abbrev pub parts : ℕ → ℕ
parts n = n / 32 + min 1 (n % 32)

unfoldable pub written : List Turn → List ℕ
written [] = []
written (t ∷ ts) = reply (code_of t.bytes) t.answer ++ written ts

pub record Ran (b : BookView) (script before : List ℕ) (n : ℕ) (out : List ℕ) (b' : BookView) : Type 0 where
  pub turns : List Turn
  pub asked : map (λ (t : Turn). t.bytes) turns ≡ pieces script n
  pub runs : Runs b turns b'
  pub law : Frames b (frames turns) (length turns) (changes turns) b'
  pub front : take (32 * n) out ≡ written turns
  pub rest : drop (32 * n) out ≡ drop (32 * n) before
