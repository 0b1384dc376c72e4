-- Heights of balanced trees.
--
--   fewest h    the fewest entries of a balanced tree of height h
--   table       these for the heights 1 to 10
--   recurs a b  after a and b each number is 1 more than the sum of the two before it
--   highest s   the largest height that s entries allow, for s up to 231
use Rattle.std.specs.Prelude.{ℕ, zero, suc, ◌+◌, Bool, true, ◌&&◌, List, [], ◌∷◌, length, filter, ◌==◌, nat_le}

abbrev pub fewest : ℕ → ℕ
fewest zero = 0
fewest (suc zero) = 1
fewest (suc (suc n)) = 1 + fewest (suc n) + fewest n

abbrev pub table : List ℕ
table = 1 ∷ 2 ∷ 4 ∷ 7 ∷ 12 ∷ 20 ∷ 33 ∷ 54 ∷ 88 ∷ 143 ∷ []

abbrev pub recurs : ℕ → ℕ → List ℕ → Bool
recurs a b [] = true
recurs a b (c ∷ cs) = c == 1 + b + a && recurs b c cs

unfoldable pub highest : ℕ → ℕ
highest s = length (filter (λ n. nat_le n s) table)
