-- The nodes are told apart by their products.
use Rattle.std.proofs.Common.{◌≡◌, ℕ, ◌+◌, ◌*◌, ◌%◌, ◌^◌, ◌<◌, ◌≢◌, sym, ap, ◌∙◌, arith}
use Rattle.acceptance.specs.Nodes.{node_of, factor, inverse}

back : (x : ℕ) → x < 2 ^ 64 → (x * inverse % 2 ^ 64) * factor % 2 ^ 64 ≡ x
back x h = omega arith

pub product : (i : ℕ) → i < 2 ^ 32 → node_of i * factor % 2 ^ 64 ≡ i % 24 * 2 ^ 59 + i + 1
unfolding node_of
product i h = back (i % 24 * 2 ^ 59 + i + 1) (omega arith)

pub no_zero : (i : ℕ) → i < 2 ^ 32 → node_of i ≢ 0
no_zero i h = λ e.
    let p : 0 * factor % 2 ^ 64 ≡ i % 24 * 2 ^ 59 + i + 1 = ap (λ n. n * factor % 2 ^ 64) (sym e) ∙ product i h in
    omega (arith, p)

pub apart : (i j : ℕ) → i < 2 ^ 32 → j < 2 ^ 32 → i ≢ j → node_of i ≢ node_of j
apart i j h k ne = λ e.
    let p : i % 24 * 2 ^ 59 + i + 1 ≡ j % 24 * 2 ^ 59 + j + 1 = sym (product i h) ∙ (ap (λ n. n * factor % 2 ^ 64) e ∙ product j k) in
    ne (omega (arith, p))
