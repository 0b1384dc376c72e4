-- What the calls answer.
--
--   foremost, hindmost  the first and the last entry of a list, if it has one
--   Saw                 an entry, or none, and its visits, of which there are no more than the height
--   laid                a row with elements written one after another from a place on
use Rattle.std.specs.Prelude.{◌≡◌, ℕ, suc, ◌≤◌, cond, List, [], ◌∷◌, Some, None, Option, slice_set}
use Rattle.entry.specs.declared.Entry.{Entry}
use Rattle.entry.specs.Lists.{filled, first, final}
use Rattle.trees.specs.declared.Found.{Found}
use Rattle.trees.specs.Trees.{Tree, tall}

abbrev pub foremost : List Entry → Option Entry
foremost xs = cond (filled xs) (Some (first xs)) None

abbrev pub hindmost : List Entry → Option Entry
hindmost xs = cond (filled xs) (Some (final xs)) None

pub record Saw (r : Found) (e : Option Entry) (n : ℕ) (t : Tree) : Type 0 where
  pub entry : r.entry ≡ e
  pub visits : r.visits ≡ n
  pub few : r.visits ≤ tall t

abbrev pub laid : {X : Type 0} → List X → ℕ → List X → List X
laid xs n [] = xs
laid xs n (e ∷ es) = laid (slice_set xs n e) (suc n) es
