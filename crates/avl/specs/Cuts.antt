-- A tree that loses an entry.
--
--   Lost      the tree u has one node less than t, the one that went, and hardly less height; nothing but
--             nodes of u was altered
--   First     t lost its first entry
--   Rootless  a tree lost its root
--   Held      the tree stands, and an entry has the key
--   Shrank    t lost the key's entry, which the node that went holds; the visits are those of t
use Rattle.std.specs.Prelude.{◌≡◌, ℕ, ◌+◌, ◌≤◌, true, List, [], ◌∷◌, ◌++◌}
use Rattle.entry.specs.Lists.{at, without, filled}
use Rattle.trees.specs.declared.Node.{Node}
use Rattle.trees.specs.Counts.{single, times}
use Rattle.trees.specs.Trees.{Tree, tall, entries, places, seen}
use Rattle.trees.specs.Pools.{entry_at, Stands, Standing, tree_at, left_at, right_at, entries_at, Kept}
use Rattle.avl.specs.declared.cut.Shrunk.{Shrunk}

pub record Lost (ns ms : List Node) (gone root : ℕ) (t u : Tree) : Type 0 where
  pub stands : Stands ms root u
  pub spots : (m : ℕ) → times m (places u) + single m gone ≡ times m (places t)
  pub most : tall u ≤ tall t
  pub least : tall t ≤ 1 + tall u
  pub kept : Kept ns ms (places u)

pub record First (ns ms : List Node) (first root : ℕ) (t u : Tree) : Type 0 where
  pub lost : Lost ns ms first root t u
  pub holds : entries t ≡ entry_at ns first ∷ entries u

pub record Rootless (ns ms : List Node) (old root : ℕ) (u : Tree) : Type 0 where
  pub lost : Lost ns ms old root (tree_at ns old) u
  pub holds : entries u ≡ entries (left_at ns old) ++ entries (right_at ns old)

pub record Held (ns : List Node) (root key : ℕ) : Type 0 where
  pub stands : Standing ns root
  pub held : filled (at key (entries_at ns root)) ≡ true

pub record Shrank (ns ms : List Node) (r : Shrunk) (key : ℕ) (t u : Tree) : Type 0 where
  pub lost : Lost ns ms r.gone r.root t u
  pub holds : entries u ≡ without key (entries t)
  pub held : at key (entries t) ≡ entry_at ns r.gone ∷ []
  pub visits : r.visits ≡ seen key t
  pub few : r.visits ≤ tall t
