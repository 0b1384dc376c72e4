-- Numbers made of parts, the first one highest, and the order of such parts.
--
--   first_then     by a first number, then by a second
--   byte_by_byte   by the first byte in which two rows differ
--   seven          a number's last seven bytes, the first one highest
use Rattle.std.specs.Prelude.{ℕ, zero, suc, ◌/◌, ◌%◌, ◌^◌, ◌<◌, Bool, false, ◌&&◌, ◌||◌, List, [], ◌∷◌, ◌==◌, nat_lt, slice_index}
use Rattle.std.proofs.Common.{arith}

abbrev pub first_then : ℕ → ℕ → ℕ → ℕ → Bool
first_then a b c d = nat_lt a c || (a == c && nat_lt b d)

abbrev pub byte_by_byte : List ℕ → List ℕ → Bool
byte_by_byte [] ys = false
byte_by_byte (x ∷ xs) [] = false
byte_by_byte (x ∷ xs) (y ∷ ys) = nat_lt x y || (x == y && byte_by_byte xs ys)

abbrev pub seven : ℕ → List ℕ
seven n =
    (n / 2 ^ 48 % 256) ∷ (n / 2 ^ 40 % 256) ∷ (n / 2 ^ 32 % 256) ∷ (n / 2 ^ 24 % 256) ∷ (n / 2 ^ 16 % 256) ∷ (n / 2 ^ 8 % 256) ∷ (n % 256) ∷ []

-- each of the seven is a byte
pub seven_fits : (n i : ℕ) → slice_index (seven n) i < 2 ^ 8
seven_fits n zero = omega arith
seven_fits n (suc zero) = omega arith
seven_fits n (suc (suc zero)) = omega arith
seven_fits n (suc (suc (suc zero))) = omega arith
seven_fits n (suc (suc (suc (suc zero)))) = omega arith
seven_fits n (suc (suc (suc (suc (suc zero))))) = omega arith
seven_fits n (suc (suc (suc (suc (suc (suc zero)))))) = omega arith
seven_fits n (suc (suc (suc (suc (suc (suc (suc i))))))) = omega arith
