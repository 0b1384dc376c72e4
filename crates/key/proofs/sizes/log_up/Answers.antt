use Rattle.std.proofs.Common.{◌≡◌, ℕ, zero, suc, ◌*◌, ◌/◌, ◌^◌, ◌<◌, ◌≤◌, inl, inr, max, subst, arith, pow_mono}
use Rattle.std.proofs.lemmas.Bool.{cases_lt}
use Rattle.std.proofs.lemmas.Nat.{pow_pos, pow_below}
use Rattle.key.specs.Widths.{log_up, LogUp}
use Rattle.key.proofs.Logs.{doubled, rounded_up}
use Rattle.key.proofs.sizes.log_up.Goals as goal

-- of a power of two the logarithm is its exponent
exponent : (k r : ℕ) → 2 ^ r ≤ 2 ^ k → 2 ^ k < 2 * 2 ^ r → k ≡ r
exponent k r low high =
    elim (cases_lt r k) [
      | inl l ↦ (let e : 2 ^ suc r ≤ 2 ^ k = pow_mono l in absurd (omega (arith, doubled r)))
      | inr m ↦ elim (cases_lt k r) [ inl l ↦ absurd (omega (arith, pow_below k r l)) | inr n ↦ omega arith ]
    ]

-- and of the least power that reaches n it is that of n rounded up
least_power : (n k : ℕ) → n ≤ 2 ^ k → 2 ^ k / 2 < max 1 n → LogUp n k
least_power n zero low high = record { enough = low; least = λ j h. omega arith }
least_power n (suc k) low high = record {
  enough = low;
  least = λ j h. elim (cases_lt k j) [ inl l ↦ l | inr m ↦ (let e : 2 ^ j ≤ 2 ^ k = pow_mono m in absurd (omega (arith, doubled k, pow_pos k))) ];
}

pub returns : goal.returns
returns c =
    let n = c.args.n in
    let r = c.ilog2.result in
    let power = c.next_power_of_two.ensures in
    let k = power.power.0 in
    let e = power.power.1 in
    let least : LogUp n r = subst (LogUp n) (exponent k r (omega arith) (omega arith)) (least_power n k (omega arith) (omega arith)) in
    let up = rounded_up n in
    record { value = omega (arith, least.least (log_up n) up.enough, up.least r least.enough); least = least; small = least.least 6 (omega arith) }
