-- Where a node belongs among the 1,024 slots, and how far from there it stands.
--
--   home_of           the home of a node: the top 10 bits of the product's low 64
--   away_of           the displacement of a node at a slot
--   rank_of           0 of an empty slot, otherwise one more than the displacement
use Rattle.std.specs.Prelude.{ℕ, ◌+◌, ◌-◌, ◌*◌, ◌/◌, ◌%◌, ◌^◌, cond, ◌==◌}

unfoldable pub home_of : ℕ → ℕ
home_of node = (node * 0x9E3779B97F4A7C15) % 2 ^ 64 / 2 ^ 54

abbrev pub away_of : ℕ → ℕ → ℕ
away_of at node = (at + 1024 - home_of node) % 1024

unfoldable pub rank_of : ℕ → ℕ → ℕ
rank_of at node = cond (node == 0) 0 (away_of at node + 1)
