-- A tree of given nodes.
--
--   Lowest n h  h is the height of the lowest tree of n nodes
--   Order       different nodes of the pool, their keys rising
--   Built       the tree u has exactly these nodes and their entries, and is as low as can be; no other
--               node was altered
use Rattle.std.specs.Prelude.{◌≡◌, ℕ, ◌*◌, ◌^◌, ◌<◌, ◌≤◌, max, List, map, length}
use Rattle.entry.specs.Lists.{Rising}
use Rattle.trees.specs.declared.Node.{Node}
use Rattle.trees.specs.Counts.{times}
use Rattle.trees.specs.Trees.{Tree, tall, entries, places}
use Rattle.trees.specs.Pools.{entry_at, Stands, Kept}

abbrev pub Lowest : ℕ → ℕ → Type 0
Lowest n h = (n < 2 ^ h) × (2 ^ h ≤ max 1 (2 * n))

pub record Order (ns : List Node) (ps : List ℕ) : Type 0 where
  pub few : length ns ≤ 512
  pub inside : (m : ℕ) → 1 ≤ times m ps → m < length ns
  pub apart : (m : ℕ) → times m ps ≤ 1
  pub rising : Rising (map (entry_at ns) ps)

pub record Built (ns ms : List Node) (ps : List ℕ) (root : ℕ) (u : Tree) : Type 0 where
  pub stands : Stands ms root u
  pub holds : entries u ≡ map (entry_at ns) ps
  pub spots : (m : ℕ) → times m (places u) ≡ times m ps
  pub lowest : Lowest (length ps) (tall u)
  pub kept : Kept ns ms ps
