-- The state of an index from its parts.
use Rattle.std.proofs.Common.{Some, ◌≡◌, ℕ, ◌^◌, ◌<◌, List, [], ◌∷◌, map, sym, refl}
use Rattle.std.specs.List.{AllByRecursion}
use Rattle.dictionary.specs.Pairs.{Pairs}
use Rattle.links.specs.Orders.{holder, ZeroFirst}
use Rattle.buckets.specs.declared.Table.{Table}
use Rattle.buckets.specs.Tables.{rep_of, root_of, order_of}
use Rattle.avl.specs.declared.pool.Pool.{Pool}
use Rattle.trees.specs.Pools.{Standing}
use Rattle.trie.specs.Sound.{Sound as TrieSound}
use Rattle.forest.specs.Forests.{Forest, tree_of, items_of, row_of, grove_of}
use Rattle.rules.specs.Buckets.{reps}
use Rattle.rows.specs.Rows.{row}
use Rattle.rows.proofs.Places.{row_reps}
use Rattle.rows.proofs.Served.{InRow}
use Rattle.rows.proofs.Holders.{in_row}
use Rattle.runs.specs.States.{Planted, Laid}
use Rattle.runs.specs.States.{Sound as StateSound}
use Rattle.inside.specs.declared.Inside.{Inside}
use Rattle.inside.specs.Whole.{Whole, state_of}

plant : (t : Table) (p : Pool) (order : List ℕ) → AllByRecursion (λ n. Standing p.nodes (root_of t n)) order → Planted (row (rep_of t) (items_of t p) order) (map (tree_of t p) order)
plant t p [] a = tt
plant t p (n ∷ ns) a = (refl, a.0.balanced, plant t p ns a.1)

pub planted : (t : Table) (p : Pool) → Forest t p → Planted (row_of t p) (grove_of t p)
planted t p fo = plant t p (order_of t) fo.trees

pub laid : (w : ℕ) (f : Pairs) (t : Table) (p : Pool) → TrieSound w f t → Laid w (reps (row_of t p)) f
laid w f t p so = record { numbers = order_of t; rep = rep_of t; named = sym (row_reps (rep_of t) (items_of t p) (order_of t)); tied = so.pairs }

zero_first : (t : Table) → rep_of t 0 ≡ 0 → ZeroFirst (rep_of t) (order_of t)
unfolding order_of
zero_first t e = e

pub held_in : (w : ℕ) (f : Pairs) (t : Table) → TrieSound w f t → (k : ℕ) → InRow (rep_of t) (order_of t) k (holder (rep_of t) (order_of t) k)
held_in w f t so k = in_row (rep_of t) (order_of t) k so.ordered.rises (zero_first t so.first)

pub sound_state : (w : ℕ) (f : Pairs) (room tally : ℕ) (i : Inside) → tally < 2 ^ 64 → Whole w f room tally i → StateSound w i.limit (state_of f tally (Some i))
sound_state w f room tally i h wh =
    record { buckets = wh.buckets; notes = wh.notes; planted = planted i.grove.table i.grove.pool i.grove.forest; laid = laid w f i.grove.table i.grove.pool wh.trie; counts = h }
