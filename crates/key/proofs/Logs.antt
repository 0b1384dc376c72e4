-- What follows from a width w of 8 to 60 bits: log2 rounded up is the least number that is enough, and
-- the bounds of m and q.
--
--   rounded_up     log_up n is the least k with n at most 2^k
--   half_within    m is from 4 to 30
--   most_within    q is from 5 to 7
--   nine_halves    four times w + 1 is at most nine times m
use Rattle.std.proofs.Common.{◌≡◌, ℕ, zero, suc, ◌+◌, ◌*◌, ◌/◌, ◌^◌, ◌≤◌, leb, refl, one-add, arith}
use native.Mathlib.Nat.{pow-succ'}
use Rattle.std.proofs.lemmas.Bool.{cond_both, leb-true, leb-false}
use Rattle.std.proofs.lemmas.Nat.{pow_pos}
use Rattle.key.specs.Widths.{half, halvings, log_up, LogUp, most}

pub doubled : (k : ℕ) → 2 ^ suc k ≡ 2 * 2 ^ k
doubled k = pow-succ' 2 k

under_pow : (n : ℕ) → n ≤ 2 ^ n
under_pow zero = omega arith
under_pow (suc n) = omega (arith, doubled n, under_pow n, pow_pos n)

-- n is at most 2 to the number of its halvings
reached : (f n : ℕ) → n ≤ 2 ^ f → n ≤ 2 ^ halvings f n
unfolding halvings
reached zero n h = h
reached (suc f) n h =
    cond_both (leb n 1) 0 (1 + halvings f ((n + 1) / 2)) (λ k. n ≤ 2 ^ k) (λ e. omega (arith, leb-true n 1 e)) (λ e.
    let p = doubled f in
    let q = doubled (halvings f ((n + 1) / 2)) in
    let r : (n + 1) / 2 ≤ 2 ^ halvings f ((n + 1) / 2) = reached f ((n + 1) / 2) (omega arith) in
    rw one-add (omega arith))

-- and no smaller number will do
least : (f n k : ℕ) → n ≤ 2 ^ k → halvings f n ≤ k
unfolding halvings
least zero n k h = omega arith
least (suc f) n zero h =
    cond_both (leb n 1) 0 (1 + halvings f ((n + 1) / 2)) (λ x. x ≤ 0) (λ _. omega arith) (λ e. omega (arith, leb-false n 1 e))
least (suc f) n (suc k) h =
    let p = doubled k in
    let r : halvings f ((n + 1) / 2) ≤ k = least f ((n + 1) / 2) k (omega arith) in
    cond_both (leb n 1) 0 (1 + halvings f ((n + 1) / 2)) (λ x. x ≤ suc k) (λ _. omega arith) (λ _. omega arith)

pub rounded_up : (n : ℕ) → LogUp n (log_up n)
rounded_up n = record { enough = reached n n (under_pow n); least = least n n }

pub half_within : (w : ℕ) → 8 ≤ w → w ≤ 60 → (4 ≤ half w) × (half w ≤ 30)
half_within w a b = (omega arith, omega arith)

-- log2 of 9 is above 3, and that of 61 is at most 6
pub most_within : (w : ℕ) → 8 ≤ w → w ≤ 60 → (5 ≤ most w) × (most w ≤ 7)
unfolding halvings
most_within w a b =
    let four : log_up 9 ≡ 4 = refl in
    let up = rounded_up (w + 1) in
    let high : log_up (w + 1) ≤ 6 = up.least 6 (omega arith) in
    let low : log_up 9 ≤ log_up (w + 1) = (rounded_up 9).least (log_up (w + 1)) (omega (arith, up.enough)) in
    (omega arith, omega arith)

pub nine_halves : (w : ℕ) → 8 ≤ w → 4 * (w + 1) ≤ 9 * half w
nine_halves w h = omega arith
