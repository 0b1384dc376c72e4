-- The words of a dictionary's contract. A pair ties a node to two links, low and high.
--
--   Links            low and high
--   Pairs            the links of each node, or nothing where it has no pair
--   with_pair        the same pairs, but for one node
--   no_pairs         no node has a pair
--   among, apart     a number is in a list; no number is in it twice
--   top              the number at which a tally stops
--   raised           a tally after some frames more
--   accepts          whether a put is accepted: not for node 0, and not for a new node at the capacity
--   one_more         the number of pairs after an accepted put
--   one-less         the number of pairs after a drop
use Rattle.std.specs.Prelude.{ℕ, ◌+◌, ◌-◌, ◌^◌, min, Bool, true, false, cond, not, ◌&&◌, ◌||◌, List, [], ◌∷◌, is_some, None, Option, ◌==◌, nat_lt}

abbrev pub Links : Type 0
Links = ℕ × ℕ

abbrev pub Pairs : Type 0
Pairs = ℕ → Option Links

abbrev pub with_pair : Pairs → ℕ → Option Links → Pairs
with_pair f k w n = cond (n == k) w (f n)

abbrev pub no_pairs : Pairs
no_pairs n = None

abbrev pub among : ℕ → List ℕ → Bool
among n [] = false
among n (x ∷ xs) = n == x || among n xs

abbrev pub apart : List ℕ → Bool
apart [] = true
apart (x ∷ xs) = not (among x xs) && apart xs

abbrev pub top : ℕ
top = 2 ^ 64 - 1

abbrev pub raised : ℕ → ℕ → ℕ
raised tally frames = min (tally + frames) top

abbrev pub accepts : Pairs → ℕ → ℕ → ℕ → Bool
accepts f held capacity node = not (node == 0) && (is_some (f node) || nat_lt held capacity)

abbrev pub one_more : Option Links → ℕ → ℕ
one_more pair held = cond (is_some pair) held (held + 1)

abbrev pub one_less : Option Links → ℕ → ℕ
one_less pair held = cond (is_some pair) (held - 1) held
