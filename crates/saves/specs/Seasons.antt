-- A season: commands and loads on one book, in any order, and the law on all their frames.
--
--   long       how many bytes a deed asks for
--   Acted      one deed: its outcome, its frames, the commands or records tried, the accepted changes
--   Acts       one deed, whatever these come to
--   Season     deeds one after another on the bytes of a tape, with these numbers summed and the bytes left
--   Seasoned   all deeds are done; their outcomes stand in front of the caller's places, and the places after them are as
--              before. The tallies have risen by exactly the frames, at most 14 for each command or record tried and 9 for
--              each accepted change, besides what had been paid ahead; and on a new book, over up to 2^48 commands and
--              loads, no tally has reached its top
use Rattle.std.specs.Prelude.{◌≡◌, ℕ, ◌+◌, ◌*◌, ◌^◌, ◌≤◌, List, [], ◌∷◌, ◌++◌, length, take, drop}
use Rattle.ordered.specs.declared.calls.Answer.{Answer}
use Rattle.wire.specs.Reading.{code_of}
use Rattle.leases.specs.Commands.{change}
use Rattle.book.specs.Books.{BookView}
use Rattle.book.specs.Serving.{Served}
use Rattle.book.specs.Runs.{frames, changes, New, FromNew, Frames}
use Rattle.saves.specs.declared.season.Deed.{Deed}
use Rattle.saves.specs.declared.season.Deed.TheVariants.{Command, Load}
use Rattle.saves.specs.declared.season.Outcome.{Outcome}
use Rattle.saves.specs.declared.season.Outcome.TheVariants.{Answered, Loaded}
use Rattle.saves.specs.Loads.{Loads, Loaded as LoadAnswer}

abbrev pub long : Deed → ℕ
long (Command n) = n
long (Load n) = n

pub data Acted (b : BookView) (p : List ℕ) : Deed → Outcome → ℕ → ℕ → ℕ → BookView → Type 0 where
  command : {n : ℕ} {r : Answer} {b' : BookView} → Served b p r b' → Acted b p (Command n) (Answered r) r.frames 1 (change (code_of p) r.outcome) b'
  load : {n : ℕ} {l : LoadAnswer} {b' : BookView} → (d : Loads b p l b') → Acted b p (Load n) (Loaded l) (frames d.tried) (length d.tried) (changes d.tried) b'

pub record Acts (b : BookView) (p : List ℕ) (d : Deed) (o : Outcome) (b' : BookView) : Type 0 where
  pub frames : ℕ
  pub tried : ℕ
  pub changes : ℕ
  pub acted : Acted b p d o frames tried changes b'

pub data Season (b : BookView) (tape : List ℕ) : List Deed → List Outcome → ℕ → ℕ → ℕ → List ℕ → BookView → Type 0 where
  start : Season b tape [] [] 0 0 0 tape b
  more : {ds : List Deed} {os : List Outcome} {f n c : ℕ} {rest : List ℕ} {u b' : BookView} {d : Deed} {o : Outcome} {f' n' c' : ℕ} →
      Season b tape ds os f n c rest u → Acted u (take (long d) rest) d o f' n' c' b' → Season b tape (ds ++ (d ∷ [])) (os ++ (o ∷ [])) (f + f') (n + n') (c + c') (drop (long d) rest) b'

pub record Seasoned (b : BookView) (tape : List ℕ) (deeds : List Deed) (before after : List Outcome) (b' : BookView) : Type 0 where
  pub outcomes : List Outcome
  pub frames : ℕ
  pub tried : ℕ
  pub changes : ℕ
  pub left : List ℕ
  pub season : Season b tape deeds outcomes frames tried changes left b'
  pub law : Frames b frames tried changes b'
  pub most : tried ≤ 769 * length deeds
  pub new : New b → length deeds ≤ 2 ^ 48 → FromNew b frames tried changes b'
  pub front : take (length deeds) after ≡ outcomes
  pub rest : drop (length deeds) after ≡ drop (length deeds) before
