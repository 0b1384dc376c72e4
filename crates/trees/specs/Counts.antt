-- How often a number stands in a list: that indices differ and where they stand, as equations.
-- By recursion, so that arithmetic reads it element by element: std's count_by folds into a sum, and the
-- counts of joined lists did not close over it.
--
--   single m n   1 if m is n, else 0
--   times m xs   how often m stands in xs
use Rattle.std.specs.Prelude.{ℕ, ◌+◌, cond, List, [], ◌∷◌, ◌==◌}

abbrev pub single : ℕ → ℕ → ℕ
single m n = cond (m == n) 1 0

abbrev pub times : ℕ → List ℕ → ℕ
times m [] = 0
times m (x ∷ xs) = single m x + times m xs
