-- The trees of all buckets in one pool.
--
--   tree_of, items_of, places_of   the tree of a bucket's number, its entries and the indices of its nodes
--   row_of                         the buckets that stand, as the rules speak of them
--   grove_of                       their trees
--   used                           the indices of all their nodes
--   Forest                         each bucket's tree stands and its size is right; every node is in one tree, or free
--   KeptBut                        the order, the representatives and all other buckets' trees are as they were
--   Replanted                      a bucket's entries are others now, and nothing else
--   Halved                         a bucket kept its lower half, and the bucket behind it, empty so far, has the rest
--   United                         a bucket has its own entries and those of the bucket behind it, which is empty now
use Rattle.std.specs.Prelude.{◌≡◌, ℕ, ◌/◌, true, List, [], ◌∷◌, ◌++◌, map, length, take, drop, ◌≢◌}
use Rattle.dictionary.specs.Pairs.{among}
use Rattle.std.specs.List.{flat_map, AllByRecursion}
use Rattle.entry.specs.declared.Entry.{Entry}
use Rattle.rules.specs.Buckets.{Bucket}
use Rattle.rows.specs.Rows.{row}
use Rattle.buckets.specs.declared.Table.{Table}
use Rattle.buckets.specs.Tables.{rep_of, size_of, root_of, prev_of, next_of, order_of}
use Rattle.trees.specs.Trees.{Tree, entries, places}
use Rattle.trees.specs.Pools.{tree_at, Standing}
use Rattle.avl.specs.declared.pool.Pool.{Pool}
use Rattle.avl.specs.Spares.{free, Shared}

abbrev pub tree_of : Table → Pool → ℕ → Tree
tree_of t p n = tree_at p.nodes (root_of t n)

abbrev pub items_of : Table → Pool → ℕ → List Entry
items_of t p n = entries (tree_of t p n)

abbrev pub places_of : Table → Pool → ℕ → List ℕ
places_of t p n = places (tree_of t p n)

abbrev pub row_of : Table → Pool → List Bucket
row_of t p = row (rep_of t) (items_of t p) (order_of t)

abbrev pub grove_of : Table → Pool → List Tree
grove_of t p = map (tree_of t p) (order_of t)

abbrev pub used : Table → Pool → List ℕ
used t p = flat_map (places_of t p) (order_of t)

pub record Forest (t : Table) (p : Pool) : Type 0 where
  pub trees : AllByRecursion (λ n. Standing p.nodes (root_of t n)) (order_of t)
  pub sizes : AllByRecursion (λ n. size_of t n ≡ length (items_of t p n)) (order_of t)
  pub shared : Shared (used t p) (free p)

pub record KeptBut (t : Table) (p : Pool) (u : Table) (q : Pool) (ns : List ℕ) : Type 0 where
  pub order : order_of u ≡ order_of t
  pub rep : rep_of u ≡ rep_of t
  pub next : next_of u ≡ next_of t
  pub prev : prev_of u ≡ prev_of t
  pub others : (i : ℕ) → among i (order_of t) ≡ true → AllByRecursion (λ n. i ≢ n) ns → tree_of u q i ≡ tree_of t p i

pub record Replanted (t : Table) (p : Pool) (u : Table) (q : Pool) (n : ℕ) (es : List Entry) : Type 0 where
  pub kept : KeptBut t p u q (n ∷ [])
  pub items : items_of u q n ≡ es

pub record Halved (t : Table) (p : Pool) (u : Table) (q : Pool) (n m : ℕ) : Type 0 where
  pub kept : KeptBut t p u q (n ∷ m ∷ [])
  pub lower : items_of u q n ≡ take (length (items_of t p n) / 2) (items_of t p n)
  pub upper : items_of u q m ≡ drop (length (items_of t p n) / 2) (items_of t p n)

pub record United (t : Table) (p : Pool) (u : Table) (q : Pool) (n m : ℕ) : Type 0 where
  pub kept : KeptBut t p u q (n ∷ m ∷ [])
  pub all : items_of u q n ≡ items_of t p n ++ items_of t p m
  pub none : items_of u q m ≡ []
