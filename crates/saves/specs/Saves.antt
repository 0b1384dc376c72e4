-- A book as records of 32 bytes.
--
--   form      the record of an entry: a name's by code 1, an event's by code 8, a lease's by code 5 with its
--             start, its end and its holder
--   forms     the records of some entries
--   records   the records of a book: names, leases, events, each in rising key order
--   wires     the bytes of some records
--   saved     the bytes of a book
--   Saved     a save into a buffer, and its answer: refused where the book is shut or the buffer too short, with
--             nothing written; otherwise the book's bytes, and what stands after them is as before
use Rattle.std.specs.Prelude.{◌≡◌, ℕ, ◌<◌, ◌≤◌, true, false, List, [], ◌∷◌, ◌++◌, map, length, drop, Ok, Err, Result}
use Rattle.entry.specs.declared.Entry.{Entry}
use Rattle.ordered.specs.declared.refusal.Refusal.{Refusal}
use Rattle.ordered.specs.declared.refusal.Refusal.TheVariants.{Shut, Room}
use Rattle.wire.specs.declared.record.Record.{Record}
use Rattle.wire.specs.Records.{wire}
use Rattle.wire.specs.Commands.{plain}
use Rattle.leases.specs.Stretches.{end, holder_of}
use Rattle.book.specs.declared.part.Part.{Part}
use Rattle.book.specs.declared.part.Part.TheVariants.{Names, Leases, Events}
use Rattle.book.specs.Books.{BookView, shut}

abbrev pub form : Part → Entry → Record
form Names e = plain 1 e.key e.note
form Leases e = record { code = 5; first = e.key; second = end e; note = holder_of e }
form Events e = plain 8 e.key e.note

abbrev pub forms : Part → List Entry → List Record
forms p xs = map (form p) xs

abbrev pub records : BookView → List Record
records b = forms Names b.names.entries ++ (forms Leases b.leases.entries ++ forms Events b.events.entries)

unfoldable pub wires : List Record → List ℕ
wires [] = []
wires (x ∷ xs) = wire x ++ wires xs

abbrev pub saved : BookView → List ℕ
saved b = wires (records b)

pub data Saved (b : BookView) (before : List ℕ) (r : Result ℕ Refusal) (out : List ℕ) : Type 0 where
  closed : shut b ≡ true → r ≡ Err Shut → out ≡ before → Saved b before r out
  too_long : shut b ≡ false → length before < length (saved b) → r ≡ Err Room → out ≡ before → Saved b before r out
  kept : shut b ≡ false → length (saved b) ≤ length before → r ≡ Ok (length (saved b)) → out ≡ saved b ++ drop (length (saved b)) before → Saved b before r out
