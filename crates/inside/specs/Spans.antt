-- The entries from a bucket on.
--
--   onward t p n    the entries of the buckets from number n on
--   over ys ps      places with ys written from the first on
--   kept_in o       the entries of an index: none where it is shut
use Rattle.std.specs.Prelude.{ℕ, List, [], ◌++◌, length, drop, Option, None, Some}
use Rattle.std.specs.List.{flat_map}
use Rattle.entry.specs.declared.Entry.{Entry}
use Rattle.avl.specs.declared.pool.Pool.{Pool}
use Rattle.buckets.specs.declared.Table.{Table}
use Rattle.buckets.specs.Tables.{order_of}
use Rattle.buckets.specs.Onwards.{since}
use Rattle.forest.specs.Forests.{items_of, row_of}
use Rattle.rules.specs.Buckets.{flat}
use Rattle.inside.specs.declared.Inside.{Inside}

unfoldable pub onward : Table → Pool → ℕ → List Entry
onward t p n = flat_map (items_of t p) (since n (order_of t))

abbrev pub over : List Entry → List Entry → List Entry
over ys ps = ys ++ drop (length ys) ps

abbrev pub kept_in : Option Inside → List Entry
kept_in None = []
kept_in (Some i) = flat (row_of i.grove.table i.grove.pool)
