-- The record of each command.
--
--   fields     a command's record: its code, first key, second key and note, zero where the code uses none
--   changing   whether the code is one that changes entries where it is accepted
use Rattle.std.specs.Prelude.{ℕ, Bool, ◌||◌, ◌==◌}
use Rattle.wire.specs.declared.record.Record.{Record}
use Rattle.wire.specs.declared.command.Command.{Command}
use Rattle.wire.specs.declared.command.Command.TheVariants.{AddName, RemoveName, FindName, NextName, Lease, Release, Who, AddEvent, RemoveEvent, Due}

abbrev pub plain : ℕ → ℕ → ℕ → Record
plain c k n = record { code = c; first = k; second = 0; note = n }

abbrev pub fields : Command → Record
fields (AddName k n) = plain 1 k n
fields (RemoveName k) = plain 2 k 0
fields (FindName k) = plain 3 k 0
fields (NextName k) = plain 4 k 0
fields (Lease f s h) = record { code = 5; first = f; second = s; note = h.number }
fields (Release f h) = plain 6 f h.number
fields (Who s) = plain 7 s 0
fields (AddEvent k n) = plain 8 k n
fields (RemoveEvent k) = plain 9 k 0
fields (Due m) = plain 10 m 0

abbrev pub changing : ℕ → Bool
changing c = c == 1 || (c == 2 || (c == 5 || (c == 6 || (c == 8 || (c == 9 || c == 10)))))
