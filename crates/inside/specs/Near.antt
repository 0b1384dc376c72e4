-- What is found near a key, from its bucket and the neighbour's.
--
--   Above r t p n k post   the lowest entry at or above k, of bucket n or of the first of post behind it, and its visits
--   Below r t p n k pre    the highest entry at or below k, of bucket n or of the last of pre before it, and its visits
use Rattle.std.specs.Prelude.{◌≡◌, ℕ, ◌+◌, cond, List, [], ◌++◌}
use Rattle.entry.specs.Lists.{from, upto, filled}
use Rattle.avl.specs.declared.pool.Pool.{Pool}
use Rattle.buckets.specs.declared.Table.{Table}
use Rattle.forest.specs.Forests.{tree_of, items_of}
use Rattle.rows.specs.Rows.{ahead, back}
use Rattle.trees.specs.declared.Found.{Found}
use Rattle.trees.specs.Trees.{leaf, seen, low_way, high_way}
use Rattle.trees.specs.Answers.{foremost, hindmost}

pub record Above (r : Found) (t : Table) (p : Pool) (n k : ℕ) (post : List ℕ) : Type 0 where
  pub entry : r.entry ≡ foremost (from k (items_of t p n) ++ ahead [] (items_of t p) post)
  pub visits : r.visits ≡ seen k (tree_of t p n) + cond (filled (from k (items_of t p n))) 0 (low_way (ahead leaf (tree_of t p) post))

pub record Below (r : Found) (t : Table) (p : Pool) (n k : ℕ) (pre : List ℕ) : Type 0 where
  pub entry : r.entry ≡ hindmost (back [] (items_of t p) pre ++ upto k (items_of t p n))
  pub visits : r.visits ≡ seen k (tree_of t p n) + cond (filled (upto k (items_of t p n))) 0 (high_way (back leaf (tree_of t p) pre))
