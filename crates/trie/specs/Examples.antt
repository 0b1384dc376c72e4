-- Worked examples at width 8, the width of a zone.
--
--   two        representatives: bucket 0 from 0, bucket 5 from 11
--   four       bucket 0 from 0, bucket 7 from 9, bucket 2 from 11 and bucket 5 from 200
--   Examples   nodes, links, the buckets of keys, and frames
use Rattle.std.specs.Prelude.{◌≡◌, ℕ, ◌+◌, cond, [], ◌∷◌, Some, None, ◌==◌}
use Rattle.levels.specs.Nodes.{node_at}
use Rattle.levels.specs.Counts.{searching, turning}
use Rattle.links.specs.Orders.{holder}
use Rattle.links.specs.Links.{links, node_count}

abbrev pub two : ℕ → ℕ
two i = cond (i == 5) 11 0

abbrev pub four : ℕ → ℕ
four i = cond (i == 7) 9 (cond (i == 2) 11 (cond (i == 5) 200 0))

pub record Examples : Type 0 where
  -- the way to zone 11
  pub root : node_at 8 11 0 ≡ 1
  pub fifth : node_at 8 11 5 ≡ 33
  pub leaf : node_at 8 11 8 ≡ 267
  -- with representatives 0 and 11: the root and the node of level 4 have both, below that each has its own
  pub root_links : links 8 two (0 ∷ 5 ∷ []) 1 ≡ Some (0, 5)
  pub shared_links : links 8 two (0 ∷ 5 ∷ []) 16 ≡ Some (0, 5)
  pub own_links : links 8 two (0 ∷ 5 ∷ []) 33 ≡ Some (5, 5)
  pub leaf_links : links 8 two (0 ∷ 5 ∷ []) 267 ≡ Some (5, 5)
  pub no_links : links 8 two (0 ∷ 5 ∷ []) 511 ≡ None
  pub no_node : links 8 two (0 ∷ 5 ∷ []) 0 ≡ None
  pub pairs : node_count 8 (0 ∷ 11 ∷ []) ≡ 13
  -- low and high are the first and the last in the order, whatever their numbers
  pub outer : links 8 four (0 ∷ 7 ∷ 2 ∷ 5 ∷ []) 1 ≡ Some (0, 5)
  pub inner : links 8 four (0 ∷ 7 ∷ 2 ∷ 5 ∷ []) 33 ≡ Some (7, 2)
  -- the bucket of a key
  pub before : holder two (0 ∷ 5 ∷ []) 10 ≡ 0
  pub at : holder two (0 ∷ 5 ∷ []) 11 ≡ 5
  pub between : holder four (0 ∷ 7 ∷ 2 ∷ 5 ∷ []) 10 ≡ 7
  -- frames of searches: over representative 0 alone, and over 0 and 11
  pub short : searching 8 (0 ∷ []) 48 ≡ 4
  pub whole : searching 8 (0 ∷ []) 0 ≡ 5
  pub beside : searching 8 (0 ∷ 11 ∷ []) 10 ≡ 5
  -- an add with a split that sets up 11, a remove with a merge that takes it away
  pub split : searching 8 (0 ∷ []) 21 + turning 8 (0 ∷ []) 11 ≡ 22
  pub merge : searching 8 (0 ∷ 11 ∷ []) 7 + turning 8 (0 ∷ 11 ∷ []) 11 ≡ 22
  -- 10 comes between 9 and 11: only the nodes of the last two levels are put
  pub middle : turning 8 (0 ∷ 9 ∷ 11 ∷ 200 ∷ []) 10 ≡ 11
