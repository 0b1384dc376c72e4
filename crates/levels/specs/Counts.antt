-- The frames that the levels cost, by the representatives that stand.
--
--   gets there lo hi   the gets of a search between two levels, where `there` tells which levels have a pair
--   searching w rs k   the frames of a level search for k: one for the root, then those between 0 and w + 1
--   at_end w rs r j    r is the least or the greatest of rs under its node at level j
--   ends w rs r j      at how many of the levels below j it is
--   turning w rs r     the frames of setting up r among rs, or of taking it away: a get a level, and a put or drop where it is at an end
use Rattle.std.specs.Prelude.{ℕ, zero, suc, ◌+◌, ◌-◌, ◌/◌, Bool, true, cond, not, ◌&&◌, ◌||◌, List, [], ◌∷◌, nat_le}
use Rattle.levels.specs.Nodes.{under, present}

-- the first number bounds the steps
unfoldable pub gets_by : ℕ → (ℕ → Bool) → ℕ → ℕ → ℕ
gets_by zero there lo hi = 0
gets_by (suc f) there lo hi =
    let mid = (lo + hi) / 2 in
    let up = gets_by f there mid hi in
    let down = gets_by f there lo mid in
    let on = 1 + cond (there mid) up down in
    cond (nat_le (hi - lo) 1) 0 on

abbrev pub gets : (ℕ → Bool) → ℕ → ℕ → ℕ
gets there lo hi = gets_by (hi - lo) there lo hi

abbrev pub searching : ℕ → List ℕ → ℕ → ℕ
searching w rs k = 1 + gets (present w rs k) 0 (w + 1)

abbrev pub every : (ℕ → Bool) → List ℕ → Bool
every p [] = true
every p (x ∷ xs) = p x && every p xs

abbrev pub at_end : ℕ → List ℕ → ℕ → ℕ → Bool
at_end w rs r j =
    every (λ x. not (under w r j x) || nat_le r x) rs ||
    every (λ x. not (under w r j x) || nat_le x r) rs

unfoldable pub ends : ℕ → List ℕ → ℕ → ℕ → ℕ
ends w rs r zero = 0
ends w rs r (suc j) = cond (at_end w rs r j) 1 0 + ends w rs r j

abbrev pub turning : ℕ → List ℕ → ℕ → ℕ
turning w rs r = (w + 1) + ends w rs r (w + 1)
