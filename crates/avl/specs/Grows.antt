-- A tree that gets an entry.
--
--   Fresh   the tree stands, the node is free for it, and no entry has the key
--   Grew    the tree u has one entry and one node more than t, and hardly more height; only nodes of it
--           were altered; the visits are those of t
use Rattle.std.specs.Prelude.{◌≡◌, ℕ, ◌+◌, ◌<◌, ◌≤◌, List, [], ◌∷◌, length}
use Rattle.entry.specs.declared.Entry.{Entry}
use Rattle.entry.specs.Lists.{at, put}
use Rattle.trees.specs.declared.Node.{Node}
use Rattle.trees.specs.Counts.{single, times}
use Rattle.trees.specs.Trees.{Tree, tall, entries, places, seen}
use Rattle.trees.specs.Pools.{Stands, Standing, entries_at, places_at, Kept}
use Rattle.avl.specs.declared.grow.Grown.{Grown}

pub record Fresh (ns : List Node) (root fresh key : ℕ) : Type 0 where
  pub stands : Standing ns root
  pub inside : fresh < length ns
  pub free : times fresh (places_at ns root) ≡ 0
  pub new : at key (entries_at ns root) ≡ []

pub record Grew (ns ms : List Node) (r : Grown) (fresh : ℕ) (e : Entry) (t u : Tree) : Type 0 where
  pub stands : Stands ms r.root u
  pub holds : entries u ≡ put e (entries t)
  pub spots : (m : ℕ) → times m (places u) ≡ times m (places t) + single m fresh
  pub most : tall u ≤ 1 + tall t
  pub least : tall t ≤ tall u
  pub kept : Kept ns ms (fresh ∷ places t)
  pub visits : r.visits ≡ seen e.key t
  pub few : r.visits ≤ tall t
