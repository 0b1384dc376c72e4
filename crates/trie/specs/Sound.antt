-- What ties an index's dictionary to its bucket table.
--
--   reps_of t     the representatives, in their order
--   Sound w f t   the representatives of the table rise from 0, and for every node the pairs f have what its order asks for
use Rattle.std.specs.Prelude.{◌≡◌, ℕ, List, map}
use Rattle.dictionary.specs.Pairs.{Pairs}
use Rattle.links.specs.Orders.{Ordered}
use Rattle.links.specs.Links.{links}
use Rattle.buckets.specs.declared.Table.{Table}
use Rattle.buckets.specs.Tables.{rep_of, order_of}

abbrev pub reps_of : Table → List ℕ
reps_of t = map (rep_of t) (order_of t)

pub record Sound (w : ℕ) (f : Pairs) (t : Table) : Type 0 where
  pub ordered : Ordered w (rep_of t) (order_of t)
  pub first : rep_of t 0 ≡ 0
  pub pairs : f ≡ links w (rep_of t) (order_of t)
