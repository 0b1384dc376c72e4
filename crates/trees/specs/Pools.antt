-- Trees in a pool of nodes.
--
--   no_node, node_at, entry_at   a node of zeros; the node at an index; its entry
--   high            the height that is stored at an index, 0 for no tree
--   Lies            each place of a tree is in the pool, with its entry, its children and its height
--   Stands          a tree lies in the pool under an index: balanced, keys rising, no index twice
--   tree_at          the tree under an index, read off the pool
--   left_at, right_at its subtrees
--   entries_at, places_at  its entries and its indices
--   Standing        the tree under an index stands
--   Kept            nothing but the nodes of some indices was altered
use Rattle.std.specs.Prelude.{◌≡◌, ℕ, zero, suc, ◌+◌, ◌<◌, ◌≤◌, max, true, false, cond, List, length, ◌==◌, slice_index_or}
use Rattle.entry.specs.declared.Entry.{Entry}
use Rattle.entry.specs.Lists.{Rising}
use Rattle.trees.specs.declared.Node.{Node}
use Rattle.trees.specs.Counts.{times}
use Rattle.trees.specs.Trees.{Tree, leaf, node, top, tall, entries, places, Balanced}

abbrev pub no_node : Node
no_node = record { key = 0; note = 0; left = 0; right = 0; height = 0 }

abbrev pub node_at : List Node → ℕ → Node
node_at ns i = slice_index_or ns i no_node

abbrev pub entry_in : Node → Entry
entry_in n = record { key = n.key; note = n.note }

abbrev pub entry_at : List Node → ℕ → Entry
entry_at ns i = entry_in (node_at ns i)

abbrev pub high : List Node → ℕ → ℕ
high ns i = cond (i == 65535) 0 (node_at ns i).height

abbrev pub Lies : List Node → Tree → Type 0
Lies ns leaf = Unit {0}
Lies ns (node i e l r) =
    (i < length ns)
    × (node_at ns i ≡ record { key = e.key; note = e.note; left = top l; right = top r; height = 1 + max (tall l) (tall r) })
    × Lies ns l × Lies ns r

pub record Stands (ns : List Node) (root : ℕ) (t : Tree) : Type 0 where
  pub lies : Lies ns t
  pub root_is : top t ≡ root
  pub balanced : Balanced t
  pub rising : Rising (entries t)
  pub apart : (m : ℕ) → times m (places t) ≤ 1
  pub few : length ns ≤ 512

-- read to a depth that no balanced tree of 512 nodes passes
unfoldable pub tree_for : ℕ → List Node → ℕ → Tree
tree_for zero ns i = leaf
tree_for (suc f) ns i = elim (i == 65535) [
  | true ↦ leaf
  | false ↦ node i (entry_at ns i) (tree_for f ns (node_at ns i).left) (tree_for f ns (node_at ns i).right)
]

unfoldable pub tree_at : List Node → ℕ → Tree
tree_at ns i = tree_for 12 ns i

abbrev pub left_at : List Node → ℕ → Tree
left_at ns i = tree_at ns (node_at ns i).left

abbrev pub right_at : List Node → ℕ → Tree
right_at ns i = tree_at ns (node_at ns i).right

abbrev pub entries_at : List Node → ℕ → List Entry
entries_at ns i = entries (tree_at ns i)

abbrev pub places_at : List Node → ℕ → List ℕ
places_at ns i = places (tree_at ns i)

abbrev pub Standing : List Node → ℕ → Type 0
Standing ns i = Stands ns i (tree_at ns i)

pub record Kept (ns ms : List Node) (ps : List ℕ) : Type 0 where
  pub long : length ms ≡ length ns
  pub same : (j : ℕ) → times j ps ≡ 0 → node_at ms j ≡ node_at ns j
