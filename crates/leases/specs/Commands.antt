-- The plan of each command on the index it goes to.
--
--   lease_plan     at the limit, or where a standing lease shares a station, refused; otherwise entered
--   release_plan   the lease that starts at a station taken out, for its own holder
--   who_plan       the lease that covers a station
--   due_plan       the earliest event taken out, if it is not after a moment
--   plan           the plan of any command whose keys are as they must be
--   commanded      the plan of any command: refused before the first frame by its keys, or carried out
--   change         1 for an accepted command that changes entries, otherwise 0
use Rattle.std.specs.Prelude.{ℕ, cond, [], ◌∷◌, length, Ok, Result, ◌==◌, nat_le, nat_lt}
use Rattle.entry.specs.declared.Entry.{Entry}
use Rattle.entry.specs.Lists.{at, put, without, filled, first}
use Rattle.ordered.specs.declared.calls.Call.TheVariants.{Add, Remove, Find, Next, Last}
use Rattle.ordered.specs.declared.refusal.Refusal.{Refusal}
use Rattle.ordered.specs.declared.refusal.Refusal.TheVariants.{Absent, Full, Nothing, Shared, Holder, Later}
use Rattle.ordered.specs.Meaning.{View}
use Rattle.ordered.specs.Sorted.{accepted}
use Rattle.wire.specs.declared.command.Command.{Command}
use Rattle.wire.specs.declared.command.Command.TheVariants.{AddName, RemoveName, FindName, NextName, Lease, Release, Who, AddEvent, RemoveEvent, Due}
use Rattle.wire.specs.Commands.{changing}
use Rattle.leases.specs.Plans.{Plan, turned_away, unless, call_plan}
use Rattle.leases.specs.Checks.{early}
use Rattle.leases.specs.Stretches.{entered, holder_of, sharing}

abbrev pub granted : View → ℕ → Entry → Plan
granted v t e = record { told = Ok e; calls = Last t ∷ Add e.key e.note ∷ []; after = put e v.entries; changes = 1 }

unfoldable pub lease_plan : View → ℕ → ℕ → ℕ → Plan
lease_plan v f t h =
    cond (nat_le v.limit (length v.entries)) (turned_away Full [] v)
    (cond (filled (sharing f t v.entries)) (turned_away Shared (Last t ∷ []) v) (granted v t (entered f t h)))

abbrev pub released : View → ℕ → Entry → Plan
released v f e = record { told = Ok e; calls = Find f ∷ Remove f ∷ []; after = without f v.entries; changes = 1 }

unfoldable pub release_plan : View → ℕ → ℕ → Plan
release_plan v f h =
    let found = at f v.entries in
    let missing : Plan = turned_away Absent (Find f ∷ []) v in
    let other : Plan = turned_away Holder (Find f ∷ []) v in
    cond (filled found) (cond (holder_of (first found) == h) (released v f (first found)) other) missing

unfoldable pub who_plan : View → ℕ → Plan
who_plan v s =
    let found = sharing s s v.entries in
    let missing : Plan = turned_away Absent (Last s ∷ []) v in
    cond (filled found) (record { told = Ok (first found); calls = Last s ∷ []; after = v.entries; changes = 0 }) missing

abbrev pub taken : View → Entry → Plan
taken v e = record { told = Ok e; calls = Next 0 ∷ Remove e.key ∷ []; after = without e.key v.entries; changes = 1 }

unfoldable pub due_plan : View → ℕ → Plan
due_plan v m =
    let e = first v.entries in
    let missing : Plan = turned_away Nothing (Next 0 ∷ []) v in
    let later : Plan = turned_away Later (Next 0 ∷ []) v in
    cond (filled v.entries) (cond (nat_lt m e.key) later (taken v e)) missing

abbrev pub plan : View → Command → Plan
plan v (AddName k n) = call_plan v (Add k n)
plan v (RemoveName k) = call_plan v (Remove k)
plan v (FindName k) = call_plan v (Find k)
plan v (NextName k) = call_plan v (Next k)
plan v (Lease f t h) = lease_plan v f t h.number
plan v (Release f h) = release_plan v f h.number
plan v (Who s) = who_plan v s
plan v (AddEvent k n) = call_plan v (Add k n)
plan v (RemoveEvent k) = call_plan v (Remove k)
plan v (Due m) = due_plan v m

abbrev pub commanded : View → Command → Plan
commanded v c = unless (early c) v (plan v c)

abbrev pub change : ℕ → Result Entry Refusal → ℕ
change code o = cond (changing code) (accepted o) 0
