-- The nodes and links with which a module is accepted.
--
--   factor          the factor by which the makes spread their nodes: a home is the top bits of the product
--   node_of i       the i-th node, whose product is home × 2^59 + i + 1: 24 homes for all of them
--   links_of i r    the links that the i-th node is given in round r
use Rattle.std.specs.Prelude.{ℕ, ◌+◌, ◌*◌, ◌%◌, ◌^◌, bit_xor}
use Rattle.dictionary.specs.Pairs.{Links}

abbrev pub factor : ℕ
factor = 0x9E3779B97F4A7C15

-- its inverse modulo 2^64
abbrev pub inverse : ℕ
inverse = 0xF1DE83E19937733D

unfoldable pub node_of : ℕ → ℕ
node_of i = (i % 24 * 2 ^ 59 + i + 1) * inverse % 2 ^ 64

unfoldable pub links_of : ℕ → ℕ → Links
links_of i round = ((i % 2 ^ 16 + round) % 2 ^ 16, bit_xor (i % 2 ^ 16 * 7 % 2 ^ 16) round)
