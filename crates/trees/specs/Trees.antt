-- Search trees whose places carry the index of a node and an entry.
--
--   leaf, node       no tree; a place with its index, its entry, the left and the right subtree
--   top              the index at the root, 65535 for no tree
--   tall             the height
--   entries, places  the entries and the indices from left to right
--   Balanced         at each place the heights of the subtrees differ by 1 at most
--   seen k           the entries on the search path of the key k
--   low_way, high_way  the entries on the way to the first entry; to the last
use Rattle.std.specs.Prelude.{ℕ, ◌+◌, ◌≤◌, max, cond, List, [], ◌∷◌, ◌++◌, ◌==◌, nat_lt}
use Rattle.entry.specs.declared.Entry.{Entry}

pub data Tree : Type 0 where
  leaf : Tree
  node : ℕ → Entry → Tree → Tree → Tree

abbrev pub top : Tree → ℕ
top leaf = 65535
top (node i e l r) = i

abbrev pub tall : Tree → ℕ
tall leaf = 0
tall (node i e l r) = 1 + max (tall l) (tall r)

abbrev pub entries : Tree → List Entry
entries leaf = []
entries (node i e l r) = entries l ++ e ∷ entries r

abbrev pub places : Tree → List ℕ
places leaf = []
places (node i e l r) = places l ++ i ∷ places r

abbrev pub Balanced : Tree → Type 0
Balanced leaf = Unit {0}
Balanced (node i e l r) = (tall l ≤ 1 + tall r) × (tall r ≤ 1 + tall l) × Balanced l × Balanced r

abbrev pub seen : ℕ → Tree → ℕ
seen k leaf = 0
seen k (node i e l r) = 1 + cond (k == e.key) 0 (cond (nat_lt k e.key) (seen k l) (seen k r))

abbrev pub low_way : Tree → ℕ
low_way leaf = 0
low_way (node i e l r) = 1 + low_way l

abbrev pub high_way : Tree → ℕ
high_way leaf = 0
high_way (node i e l r) = 1 + high_way r
