-- The sorted list, by bits: what an ordered dictionary of width w and some limit answers, and its entries after each call.
--
--   Told                what is answered: the entry or the refusal, how many entries a range wrote, the caller's places after
--   Listed X            what is told, and the list after it
--   misfit              the refusal that keys alone give: one of 2^w or more, or a range with its first above its second
--   no_add, no_find     the refusal of an add; of a remove or find
--   no_near, no_range   that of a next or last; that of a range
--   tells, writes       what is told of an entry; of a range's entries
--   keeps               the list after a change that may be refused
--   listed              the sorted list: what it tells of a call with the caller's places as they stood, and its entries after
--   changed             1 for an accepted add or remove, otherwise 0
use Rattle.std.specs.Prelude.{ℕ, ◌^◌, cond, ◌||◌, List, ◌++◌, length, drop, Some, None, Ok, Err, Option, Result, nat_le, nat_lt}
use Rattle.entry.specs.declared.Entry.{Entry}
use Rattle.entry.specs.Lists.{blank, at, from, upto, between, put, without, filled, first, final}
use Rattle.ordered.specs.declared.calls.Call.{Call}
use Rattle.ordered.specs.declared.calls.Call.TheVariants.{Add, Remove, Find, Next, Last, Range}
use Rattle.ordered.specs.declared.refusal.Refusal.{Refusal}
use Rattle.ordered.specs.declared.refusal.Refusal.TheVariants.{TooLarge, Order, Held, Absent, Full, Nothing, Room}

pub record Told : Type 0 where
  pub outcome : Result Entry Refusal
  pub number : ℕ
  pub places : List Entry

pub record Listed (X : Type 0) : Type 0 where
  pub told : Told
  pub after : List X

abbrev pub refused : Refusal → List Entry → Told
refused r ps = record { outcome = Err r; number = 0; places = ps }

abbrev pub answered : Entry → List Entry → Told
answered e ps = record { outcome = Ok e; number = 0; places = ps }

-- ---- the refusals, in the order in which they are looked for
abbrev pub large : ℕ → ℕ → Option Refusal
large w k = cond (nat_le (2 ^ w) k) (Some TooLarge) None

abbrev pub misfit : ℕ → Call → Option Refusal
misfit w (Add k v) = large w k
misfit w (Remove k) = large w k
misfit w (Find k) = large w k
misfit w (Next k) = large w k
misfit w (Last k) = large w k
misfit w (Range a b) = cond (nat_le (2 ^ w) a || nat_le (2 ^ w) b) (Some TooLarge) (cond (nat_lt b a) (Some Order) None)

abbrev pub no_add : {X : Type 0} → ℕ → List X → ℕ → Option Refusal
no_add limit found n = cond (filled found) (Some Held) (cond (nat_le limit n) (Some Full) None)

abbrev pub no_find : {X : Type 0} → List X → Option Refusal
no_find found = cond (filled found) None (Some Absent)

abbrev pub no_near : {X : Type 0} → List X → Option Refusal
no_near found = cond (filled found) None (Some Nothing)

abbrev pub no_range : ℕ → ℕ → Option Refusal
no_range n room = cond (nat_lt room n) (Some Room) None

-- ---- what is told where a refusal may stand against it
abbrev pub tells : Option Refusal → Entry → List Entry → Told
tells None e ps = answered e ps
tells (Some r) e ps = refused r ps

abbrev pub writes : Option Refusal → List Entry → List Entry → Told
writes None xs ps = record { outcome = Ok blank; number = length xs; places = xs ++ drop (length xs) ps }
writes (Some r) xs ps = refused r ps

abbrev pub keeps : {X : Type 0} → Option Refusal → List X → List X → List X
keeps None new old = new
keeps (Some r) new old = old

abbrev pub unless : {X : Type 0} → Option Refusal → List Entry → List X → Listed X → Listed X
unless None ps xs l = l
unless (Some r) ps xs l = record { told = refused r ps; after = xs }

-- ---- the list
-- a call whose keys fit
abbrev pub fitting : ℕ → Call → List Entry → List Entry → Listed Entry
fitting limit (Add k v) ps xs =
    let no = no_add limit (at k xs) (length xs) in
    let e : Entry = record { key = k; note = v } in
    record { told = tells no e ps; after = keeps no (put e xs) xs }
fitting limit (Remove k) ps xs =
    let no = no_find (at k xs) in
    record { told = tells no (first (at k xs)) ps; after = keeps no (without k xs) xs }
fitting limit (Find k) ps xs = record { told = tells (no_find (at k xs)) (first (at k xs)) ps; after = xs }
fitting limit (Next k) ps xs = record { told = tells (no_near (from k xs)) (first (from k xs)) ps; after = xs }
fitting limit (Last k) ps xs = record { told = tells (no_near (upto k xs)) (final (upto k xs)) ps; after = xs }
fitting limit (Range a b) ps xs =
    let ys = between a b xs in
    record { told = writes (no_range (length ys) (length ps)) ys ps; after = xs }

unfoldable pub listed : ℕ → ℕ → Call → List Entry → List Entry → Listed Entry
listed w limit c ps xs = unless (misfit w c) ps xs (fitting limit c ps xs)

abbrev pub accepted : Result Entry Refusal → ℕ
accepted (Ok e) = 1
accepted (Err r) = 0

abbrev pub changed : Call → Result Entry Refusal → ℕ
changed (Add k v) o = accepted o
changed (Remove k) o = accepted o
changed (Find k) o = 0
changed (Next k) o = 0
changed (Last k) o = 0
changed (Range a b) o = 0
