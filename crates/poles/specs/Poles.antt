-- Poles as keys.
--
--   pole_bits     a pole's bits: its number
--   pole_at       the pole of a number modulo 2^8
--   pole_of       the pole of some bits, if there is one
--   pole_before   numeric order
--   pole_same     poles with equal numbers are equal
--   poles         each pole has a number below 2^8, and each such number its pole
use Rattle.std.specs.Prelude.{◌≡◌, ℕ, ◌%◌, ◌^◌, ◌<◌, Bool, Option, nat_lt}
use Rattle.std.proofs.Common.{arith}
use mathlib.Core.HLevel.{is_prop→PathP}
use Rattle.std.proofs.Math.Bridge.{le_prop}
use Rattle.key.specs.Kinds.{within}
use Rattle.key.specs.Within.{Numbered}
use Rattle.poles.specs.declared.pole.Pole.{Pole}

abbrev pub pole_bits : Pole → ℕ
pole_bits p = p.number

abbrev pub pole_at : ℕ → Pole
pole_at n = record { number = n % 2 ^ 8; fits = omega arith }

abbrev pub pole_of : ℕ → Option Pole
pole_of n = within (2 ^ 8) pole_at n

abbrev pub pole_before : Pole → Pole → Bool
pole_before a b = nat_lt a.number b.number

pub pole_same : (a b : Pole) → a.number ≡ b.number → a ≡ b
pole_same a b e = λ i. record { number = e i; fits = is_prop→PathP (λ j. e j < 2 ^ 8) (λ j. le_prop) a.fits b.fits i }

pub poles : Numbered (2 ^ 8) pole_at pole_bits
poles = record { below = λ k. k.fits; back = λ n h. omega arith; same = λ k. pole_same _ _ (omega arith) }
