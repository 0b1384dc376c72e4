-- Where a node may stand in the two rows: slots 0 to 511 are row one, 512 to 1,023 row two.
--
--   first_of          the home of a node in row one: the top 9 bits of a product's low 64
--   second_of         its home in row two, by another product
--   home_of           its home in the row of a slot
--   other_of          its home in the other row
use Rattle.std.specs.Prelude.{ℕ, ◌+◌, ◌*◌, ◌/◌, ◌%◌, ◌^◌, cond, nat_lt}

unfoldable pub first_of : ℕ → ℕ
first_of node = (node * 0x9E3779B97F4A7C15) % 2 ^ 64 / 2 ^ 55

unfoldable pub second_of : ℕ → ℕ
second_of node = 512 + (node * 0xC2B2AE3D27D4EB4F) % 2 ^ 64 / 2 ^ 55

abbrev pub home_of : ℕ → ℕ → ℕ
home_of at node = cond (nat_lt at 512) (first_of node) (second_of node)

abbrev pub other_of : ℕ → ℕ → ℕ
other_of at node = cond (nat_lt at 512) (second_of node) (first_of node)
