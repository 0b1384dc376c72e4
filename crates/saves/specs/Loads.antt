-- Loads: a save taken record by record.
--
--   loadable, above   the codes that a load takes; code and first key above those of the record before
--   in_turn           a record may stand after the one before it; the first has none before it
--   Took              a record taken: it spells a command that is in turn and was accepted
--   Turned            a record refused: it spells no command, or is not in turn, or its command was refused
--   Tried             a record that was tried
--   Takes             records taken one after another from the first, each by its turn, and the last of them
--   Ends              why no more were taken: none was left, or the next one was refused
--   Loaded, taken     what a load answers; how many records it took
--   TakesAll          what a load onto a ready book takes
--   empty, unready    whether a book has no entry; why a load is refused as a whole
--   Loads             what a load answers and does, and what its frames come to
--   Restores          a save of any book, loaded onto a book without an entry, gives that book's entries
use Rattle.std.specs.Prelude.{◌≡◌, ℕ, ◌/◌, ◌%◌, ◌<◌, ◌≤◌, Bool, true, false, cond, not, ◌&&◌, ◌||◌, List, [], ◌∷◌, ◌++◌, length, Some, None, Ok, Err, Option, Result, ◌==◌, nat_lt}
use Rattle.entry.specs.declared.Entry.{Entry}
use Rattle.entry.specs.Lists.{filled}
use Rattle.ordered.specs.declared.calls.Answer.{Answer}
use Rattle.ordered.specs.declared.refusal.Refusal.{Refusal}
use Rattle.ordered.specs.declared.refusal.Refusal.TheVariants.{Shut, Standing as StandingEntry, Length, Sequence}
use Rattle.wire.specs.declared.record.Record.{Record}
use Rattle.wire.specs.declared.command.Command.{Command}
use Rattle.wire.specs.Commands.{fields}
use Rattle.wire.specs.Reading.{Spells, Unread}
use Rattle.ordered.specs.Answers.{no_of}
use Rattle.book.specs.Books.{BookView, Standing, Did, shut}
use Rattle.book.specs.Runs.{Turn, frames, changes, Frames, piece}
use Rattle.std.specs.Result.{result_err}
use Rattle.saves.specs.declared.load.Refused.{Refused}
use Rattle.saves.specs.Saves.{records, saved}

-- ---- one record
abbrev pub loadable : ℕ → Bool
loadable c = c == 1 || (c == 5 || c == 8)

abbrev pub above : Option Record → Record → Bool
above None x = true
above (Some y) x = nat_lt y.code x.code || (y.code == x.code && nat_lt y.first x.first)

abbrev pub in_turn : Option Record → Record → Bool
in_turn o x = loadable x.code && above o x

pub record Took (b : BookView) (o : Option Record) (p : List ℕ) (c : Command) (r : Answer) (b' : BookView) : Type 0 where
  pub stands : Standing b
  pub spelt : Spells p c
  pub turn : in_turn o (fields c) ≡ true
  pub did : Did b c r b'
  pub entry : Entry
  pub accepted : r.outcome ≡ Ok entry

pub data Turned (b : BookView) (o : Option Record) (p : List ℕ) (e : Refusal) : Answer → BookView → Type 0 where
  unread : Unread p e → Turned b o p e (no_of e 0 0) b
  out_of_turn : (c : Command) → Spells p c → in_turn o (fields c) ≡ false → e ≡ Sequence → Turned b o p e (no_of e 0 0) b
  answered : (c : Command) {r : Answer} {b' : BookView} → Spells p c → in_turn o (fields c) ≡ true → Did b c r b' → r.outcome ≡ Err e → Turned b o p e r b'

abbrev pub Tried : BookView → Option Record → List ℕ → Result Record Refusal → BookView → Type 0
Tried b o p (Ok x) b' = (c : Command) × (r : Answer) × Took b o p c r b' × (x ≡ fields c)
Tried b o p (Err e) b' = (r : Answer) × Turned b o p e r b'

-- ---- all records
abbrev pub Loaded : Type 0
Loaded = Result ℕ Refused

abbrev pub taken : Loaded → ℕ
taken (Ok n) = n
taken (Err x) = x.number

pub data Takes (b : BookView) (bytes : List ℕ) : List Turn → Option Record → BookView → Type 0 where
  start : Takes b bytes [] None b
  more : {ts : List Turn} {o : Option Record} {u b' : BookView} {c : Command} {r : Answer} → Takes b bytes ts o u → Took u o (piece bytes (length ts)) c r b' →
      Takes b bytes (ts ++ (record { bytes = piece bytes (length ts); answer = r } ∷ [])) (Some (fields c)) b'

abbrev pub Ends : List ℕ → List Turn → Option Refused → Option Record → BookView → List Turn → BookView → Type 0
Ends bytes ts None o u tried b' = (length ts ≡ length bytes / 32) × (tried ≡ ts) × (b' ≡ u)
Ends bytes ts (Some x) o u tried b' =
    (length ts < length bytes / 32) × (x.number ≡ length ts)
    × ((r : Answer) × Turned u o (piece bytes (length ts)) x.refusal r b' × (tried ≡ ts ++ (record { bytes = piece bytes (length ts); answer = r } ∷ [])))

pub record TakesAll (b : BookView) (bytes : List ℕ) (l : Loaded) (b' : BookView) : Type 0 where
  pub turns : List Turn
  pub last : Option Record
  pub met : BookView
  pub takes : Takes b bytes turns last met
  pub stands : Standing met
  pub taken : taken l ≡ length turns
  pub tried : List Turn
  pub ends : Ends bytes turns (result_err l) last met tried b'

-- ---- a load
abbrev pub empty : BookView → Bool
empty b = not (filled b.names.entries || (filled b.leases.entries || filled b.events.entries))

abbrev pub unready : BookView → ℕ → Option Refusal
unready b n = cond (shut b) (Some Shut) (cond (empty b) (cond (n % 32 == 0) None (Some Length)) (Some StandingEntry))

abbrev pub whole_refused : Refusal → Loaded
whole_refused e = Err (record { refusal = e; number = 0 })

pub data Loading (b : BookView) (bytes : List ℕ) (l : Loaded) (b' : BookView) : List Turn → Type 0 where
  whole : (e : Refusal) → unready b (length bytes) ≡ Some e → l ≡ whole_refused e → b' ≡ b → Loading b bytes l b' []
  ready : unready b (length bytes) ≡ None → (t : TakesAll b bytes l b') → Loading b bytes l b' t.tried

pub record Loads (b : BookView) (bytes : List ℕ) (l : Loaded) (b' : BookView) : Type 0 where
  pub tried : List Turn
  pub loading : Loading b bytes l b' tried
  pub most : length tried ≤ 769
  pub counted : changes tried ≡ taken l
  pub law : Frames b (frames tried) (length tried) (changes tried) b'

-- ---- what a load gives back
pub record SameEntries (b b' : BookView) : Type 0 where
  pub names : b'.names.entries ≡ b.names.entries
  pub leases : b'.leases.entries ≡ b.leases.entries
  pub events : b'.events.entries ≡ b.events.entries

pub record Restored (other : BookView) (l : Loaded) (b' : BookView) : Type 0 where
  pub accepted : result_err l ≡ None
  pub taken : taken l ≡ length (records other)
  pub same : SameEntries other b'

abbrev pub Restores : BookView → List ℕ → Loaded → BookView → Type 0
Restores b bytes l b' = (other : BookView) → Standing other → shut other ≡ false → bytes ≡ saved other → shut b ≡ false → empty b ≡ true → Restored other l b'
