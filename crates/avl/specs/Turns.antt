-- One node above two trees.
--
--   Ready    an index that a node can take for a child
--   hung     the pool after the node i got these children
--   Four     three nodes and four trees in the order a x b m c y d, none sharing a place
--   crowned  the tree with m above x and y, and these above the four trees
--   Crowned  it lies in the pool, and no other node was altered
--   Loose    two trees that can stand under the node i
--   Level    the tree u of the trees l and r and the node i with its entry e: balanced, and hardly higher
use Rattle.std.specs.Prelude.{◌≡◌, ℕ, ◌+◌, ◌<◌, ◌≤◌, max, List, [], ◌∷◌, ◌++◌, length, ◌≢◌, slice_set}
use Rattle.entry.specs.declared.Entry.{Entry}
use Rattle.entry.specs.Lists.{Rising}
use Rattle.trees.specs.declared.Node.{Node}
use Rattle.trees.specs.Counts.{single, times}
use Rattle.trees.specs.Trees.{Tree, node, tall, entries, places}
use Rattle.trees.specs.Pools.{node_at, entry_at, high, Lies, Stands, Standing, tree_at, entries_at, places_at, Kept}

abbrev pub Ready : List Node → ℕ → Type 0
Ready ns i = ((i ≢ 65535) → i < length ns) × (high ns i < 200)

abbrev pub hung : List Node → ℕ → ℕ → ℕ → List Node
hung ns i l r = slice_set ns i (record { key = (node_at ns i).key; note = (node_at ns i).note; left = l; right = r; height = 1 + max (high ns l) (high ns r) })

pub record Four (ns : List Node) (x m y a b c d : ℕ) : Type 0 where
  pub inside : (x < length ns) × (m < length ns) × (y < length ns)
  pub stand : Standing ns a × Standing ns b × Standing ns c × Standing ns d
  pub apart : (j : ℕ) → times j (places_at ns a) + single j x + times j (places_at ns b) + single j m + times j (places_at ns c) + single j y + times j (places_at ns d) ≤ 1

abbrev pub crowned : List Node → ℕ → ℕ → ℕ → ℕ → ℕ → ℕ → ℕ → Tree
crowned ns x m y a b c d = node m (entry_at ns m) (node x (entry_at ns x) (tree_at ns a) (tree_at ns b)) (node y (entry_at ns y) (tree_at ns c) (tree_at ns d))

pub record Crowned (ns ms : List Node) (x m y a b c d : ℕ) : Type 0 where
  pub lies : Lies ms (crowned ns x m y a b c d)
  pub kept : Kept ns ms (x ∷ m ∷ y ∷ [])

pub record Loose (ns : List Node) (i left right : ℕ) : Type 0 where
  pub inside : i < length ns
  pub lower : Standing ns left
  pub upper : Standing ns right
  pub apart : (j : ℕ) → times j (places_at ns left) + single j i + times j (places_at ns right) ≤ 1
  pub rising : Rising (entries_at ns left ++ entry_at ns i ∷ entries_at ns right)

pub record Level (ns ms : List Node) (i : ℕ) (e : Entry) (l r : Tree) (root : ℕ) (u : Tree) : Type 0 where
  pub stands : Stands ms root u
  pub holds : entries u ≡ entries l ++ e ∷ entries r
  pub spots : (j : ℕ) → times j (places u) ≡ times j (places l) + single j i + times j (places r)
  pub most : tall u ≤ 1 + max (tall l) (tall r)
  pub least : max (tall l) (tall r) ≤ tall u
  pub even : tall l ≤ 1 + tall r → tall r ≤ 1 + tall l → tall u ≡ 1 + max (tall l) (tall r)
  pub kept : Kept ns ms (places l ++ i ∷ places r)
