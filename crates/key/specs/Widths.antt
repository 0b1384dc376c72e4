-- What follows from a width w, the number of bits of a key.
--
--   half w             m, half the width rounded up: a bucket's sizes are counted in it
--   log_up n           log2 of n rounded up
--   LogUp n k          k is the least number with n at most 2^k
--   most w             q, the most frames that a level search takes
--   buckets_for w l    how many buckets a limit of l entries can ask for
--   needed w l         how many pairs they need in a dictionary
use Rattle.std.specs.Prelude.{ℕ, zero, suc, ◌+◌, ◌*◌, ◌/◌, ◌^◌, ◌≤◌, max, cond, nat_le}

abbrev pub half : ℕ → ℕ
half w = (w + 1) / 2

-- how often n must be halved, rounded up, until 1 is left; the first number bounds the steps
unfoldable pub halvings : ℕ → ℕ → ℕ
halvings zero n = 0
halvings (suc f) n = let r = halvings f ((n + 1) / 2) in cond (nat_le n 1) 0 (1 + r)

abbrev pub log_up : ℕ → ℕ
log_up n = halvings n n

pub record LogUp (n k : ℕ) : Type 0 where
  pub enough : n ≤ 2 ^ k
  pub least : (j : ℕ) → n ≤ 2 ^ j → k ≤ j

abbrev pub most : ℕ → ℕ
most w = 1 + log_up (w + 1)

abbrev pub buckets_for : ℕ → ℕ → ℕ
buckets_for w limit = max 1 (limit / half w)

abbrev pub needed : ℕ → ℕ → ℕ
needed w limit = (w + 1) * buckets_for w limit
