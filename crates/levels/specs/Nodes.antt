-- The nodes of keys at the levels 0 to w of a width w.
--
--   node_at w k j     the node of a key k at level j
--   under w k j r     r lies under the node of k at level j
--   present w rs k j  some number of rs lies under the node of k at level j
use Rattle.std.specs.Prelude.{ℕ, ◌+◌, ◌-◌, ◌/◌, ◌^◌, Bool, false, ◌||◌, List, [], ◌∷◌, ◌==◌}

unfoldable pub node_at : ℕ → ℕ → ℕ → ℕ
node_at w k j = 2 ^ j + k / 2 ^ (w - j)

abbrev pub under : ℕ → ℕ → ℕ → ℕ → Bool
under w k j r = node_at w r j == node_at w k j

abbrev pub any : (ℕ → Bool) → List ℕ → Bool
any p [] = false
any p (x ∷ xs) = p x || any p xs

abbrev pub present : ℕ → List ℕ → ℕ → ℕ → Bool
present w rs k j = any (under w k j) rs
