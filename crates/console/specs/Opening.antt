-- New books, and what is run on them.
--
--   Module        a dictionary as it came: its pairs, its capacity, how many pairs it holds, its tally
--   given         these four together
--   Opened w m    an index of 256 entries at most was made on a dictionary: shut where that does not fit, with the
--                 dictionary as it was; otherwise empty, with representative 0 set up in 2 × (w + 1) frames
--   NewBook       a book of three such indexes
--   answered      how many commands of a script are answered: while there are 32 bytes for the next answer
--   done          how many deeds are done: while there are places for their outcomes
--   RanNew        a script was run on a new book; where that is not shut, over up to 2^48 commands, the three tallies
--                 rose by exactly the frames answered, at most 14 a command and nine an accepted change
--   SeasonNew     commands and loads were run on a new book, under the same law, with each record that a load tries
--                 counted like a command and each record taken like an accepted change
use Rattle.std.specs.Prelude.{◌≡◌, ℕ, ◌+◌, ◌*◌, ◌/◌, ◌^◌, ◌≤◌, min, true, false, List, [], ◌∷◌, length, take, is_some}
use Rattle.dictionary.specs.Pairs.{Pairs}
use Rattle.ordered.specs.Fitness.{fitness}
use Rattle.ordered.specs.Meaning.{View}
use Rattle.rules.specs.Buckets.{new}
use Rattle.rules.specs.Views.{view_of}
use Rattle.trees.specs.Trees.{leaf}
use Rattle.runs.specs.States.{Laid, visits}
use Rattle.inside.specs.Views.{closed_view}
use Rattle.book.specs.Books.{BookView, shut, room as book_room}
use Rattle.book.specs.Runs.{frames, changes, parts, Ran, FromNew}
use Rattle.saves.specs.declared.season.Deed.{Deed}
use Rattle.saves.specs.declared.season.Outcome.{Outcome}
use Rattle.saves.specs.Seasons.{Seasoned}

pub record Module : Type 0 where
  pub pairs : Pairs
  pub room : ℕ
  pub held : ℕ
  pub tally : ℕ

abbrev pub given : Pairs → ℕ → ℕ → ℕ → Module
given f room held tally = record { pairs = f; room = room; held = held; tally = tally }

pub record Fitted (w : ℕ) (v : View) : Type 0 where
  pub pairs : Pairs
  pub laid : Laid w (0 ∷ []) pairs
  pub view : v ≡ view_of w book_room (2 * (w + 1)) pairs (λ c. visits w c new (leaf ∷ [])) new

pub record Opened (w : ℕ) (m : Module) (v : View) : Type 0 where
  pub shut : v.shut ≡ is_some (fitness w book_room m.room m.held m.tally)
  pub closed : v.shut ≡ true → v ≡ closed_view w m.pairs m.tally
  pub fitted : v.shut ≡ false → Fitted w v

pub record NewBook (a b c : Module) (v : BookView) : Type 0 where
  pub names : Opened 56 a v.names
  pub leases : Opened 32 b v.leases
  pub events : Opened 48 c v.events

abbrev pub answered : List ℕ → List ℕ → ℕ
answered script answers = min (parts (length script)) (length answers / 32)

abbrev pub done : List Deed → List Outcome → ℕ
done deeds outcomes = min (length deeds) (length outcomes)

pub record RanNew (a b c : Module) (script before out : List ℕ) (v' : BookView) : Type 0 where
  pub begun : BookView
  pub opened : NewBook a b c begun
  pub ran : Ran begun script before (answered script before) out v'
  pub law : shut begun ≡ false → length ran.turns ≤ 2 ^ 48 → FromNew begun (frames ran.turns) (length ran.turns) (changes ran.turns) v'

pub record SeasonNew (a b c : Module) (tape : List ℕ) (deeds : List Deed) (before after : List Outcome) (v' : BookView) : Type 0 where
  pub begun : BookView
  pub opened : NewBook a b c begun
  pub season : Seasoned begun tape (take (done deeds before) deeds) before after v'
  pub law : shut begun ≡ false → length (take (done deeds before) deeds) ≤ 2 ^ 48 → FromNew begun season.frames season.tried season.changes v'
