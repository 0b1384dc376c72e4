-- The level search, on the pairs that a dictionary holds.
--
--   held f w k j       the pairs f have one for the node of k at level j
--   Closed there w     where a level has a pair, each level from the root down to it has one
--   Deepest there w j  j is the deepest of the levels 0 to w that have a pair
use Rattle.std.specs.Prelude.{◌≡◌, ℕ, ◌<◌, ◌≤◌, Bool, true, false, is_some}
use Rattle.dictionary.specs.Pairs.{Pairs}
use Rattle.levels.specs.Nodes.{node_at}

abbrev pub held : Pairs → ℕ → ℕ → ℕ → Bool
held f w k j = is_some (f (node_at w k j))

abbrev pub Closed : (ℕ → Bool) → ℕ → Type 0
Closed there w = (i j : ℕ) → i ≤ j → j ≤ w → there j ≡ true → there i ≡ true

pub record Deepest (there : ℕ → Bool) (w level : ℕ) : Type 0 where
  pub within : level ≤ w
  pub pair : there level ≡ true
  pub none_below : (j : ℕ) → level < j → j ≤ w → there j ≡ false
