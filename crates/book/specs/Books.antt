-- The book as its callers see it, and what each command does to it.
--
--   BookView    its three indexes
--   look        one of them
--   part_of     the index that a command goes to
--   shut        whether one of the three is shut
--   room        how many entries each may hold
--   Bounded     each index that is not shut has that limit, and the leases stand one after another
--   Bounded-prop   that has one proof at most
--   Standing    what always holds of a book
--   book_plan   what a command does on its index
--   Kept        the two indexes that a command does not go to keep their whole view
--   Did         a command, its answer, the book before and after
use Rattle.std.specs.Prelude.{◌≡◌, ℕ, Bool, false, cond, ◌||◌, [], Err}
use Rattle.ordered.specs.declared.calls.Answer.{Answer}
use Rattle.ordered.specs.declared.refusal.Refusal.{Refusal}
use Rattle.ordered.specs.declared.refusal.Refusal.TheVariants.{Shut}
use Rattle.ordered.specs.Meaning.{View, Lawful}
use Rattle.wire.specs.declared.command.Command.{Command}
use Rattle.wire.specs.declared.command.Command.TheVariants.{AddName, RemoveName, FindName, NextName, Lease, Release, Who, AddEvent, RemoveEvent, Due}
use Rattle.leases.specs.Plans.{Plan, Planned, turned_away}
use Rattle.leases.specs.Stretches.{Spaced, Spaced-prop}
use Rattle.std.proofs.Props.{props}
use Rattle.leases.specs.Commands.{commanded}
use Rattle.book.specs.declared.part.Part.{Part}
use Rattle.book.specs.declared.part.Part.TheVariants.{Names, Leases, Events}

pub record BookView : Type 0 where
  pub names : View
  pub leases : View
  pub events : View

abbrev pub view_of : View → View → View → BookView
view_of n l e = record { names = n; leases = l; events = e }

abbrev pub look : Part → BookView → View
look Names b = b.names
look Leases b = b.leases
look Events b = b.events

abbrev pub part_of : Command → Part
part_of (AddName k n) = Names
part_of (RemoveName k) = Names
part_of (FindName k) = Names
part_of (NextName k) = Names
part_of (Lease f t h) = Leases
part_of (Release f h) = Leases
part_of (Who s) = Leases
part_of (AddEvent k n) = Events
part_of (RemoveEvent k) = Events
part_of (Due m) = Events

abbrev pub shut : BookView → Bool
shut b = b.names.shut || (b.leases.shut || b.events.shut)

-- ---- what always holds
abbrev pub room : ℕ
room = 256

pub record Bounded (b : BookView) : Type 0 where
  pub names : b.names.shut ≡ false → b.names.limit ≡ room
  pub leases : b.leases.shut ≡ false → b.leases.limit ≡ room
  pub events : b.events.shut ≡ false → b.events.limit ≡ room
  pub spaced : Spaced b.leases.entries

pub Bounded-prop : (b : BookView) → IsProp (Bounded b)
Bounded-prop b = Prim.hlevel (Spaced-prop, props)

pub record Standing (b : BookView) : Type 0 where
  pub names : Lawful 56 b.names
  pub leases : Lawful 32 b.leases
  pub events : Lawful 48 b.events
  pub bounded : Bounded b

-- ---- commands
abbrev pub book_plan : BookView → Command → Plan
book_plan b c = cond (shut b) (turned_away Shut [] (look (part_of c) b)) (commanded (look (part_of c) b) c)

abbrev pub Kept : Part → BookView → BookView → Type 0
Kept Names b b' = (b'.leases ≡ b.leases) × (b'.events ≡ b.events)
Kept Leases b b' = (b'.names ≡ b.names) × (b'.events ≡ b.events)
Kept Events b b' = (b'.names ≡ b.names) × (b'.leases ≡ b.leases)

pub record Did (b : BookView) (c : Command) (r : Answer) (b' : BookView) : Type 0 where
  pub planned : Planned (look (part_of c) b) (book_plan b c) r (look (part_of c) b')
  pub kept : Kept (part_of c) b b'
  -- a refusal alters no entry and no pair
  pub refusal : (e : Refusal) → r.outcome ≡ Err e → ((look (part_of c) b').entries ≡ (look (part_of c) b).entries) × ((look (part_of c) b').pairs ≡ (look (part_of c) b).pairs)
