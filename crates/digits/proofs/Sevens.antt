-- Seven bytes and the number that they write.
use Rattle.std.proofs.Common.{◌≡◌, ℕ, ◌+◌, ◌*◌, ◌/◌, ◌%◌, ◌^◌, ◌<◌, List, [], ◌∷◌, length, get_or, arith}
use Rattle.std.specs.Int.Digits.{number_from_digits, AllBelowBase}
use Rattle.std.proofs.ByRecursion.{All-from_get_or}
use Rattle.digits.specs.Parts.{seven}

pub seven_back : (n : ℕ) → n < 2 ^ 56 → number_from_digits 256 (seven n) ≡ n
seven_back n h = omega arith

pub seven_of : (bs : List ℕ) → length bs ≡ 7 → ((i : ℕ) → get_or bs i 0 < 2 ^ 8) → seven (number_from_digits 256 bs) ≡ bs
seven_of [] e u = absurd (omega (arith, e))
seven_of (a ∷ []) e u = absurd (omega (arith, e))
seven_of (a ∷ b ∷ []) e u = absurd (omega (arith, e))
seven_of (a ∷ b ∷ c ∷ []) e u = absurd (omega (arith, e))
seven_of (a ∷ b ∷ c ∷ d ∷ []) e u = absurd (omega (arith, e))
seven_of (a ∷ b ∷ c ∷ d ∷ f ∷ []) e u = absurd (omega (arith, e))
seven_of (a ∷ b ∷ c ∷ d ∷ f ∷ g ∷ []) e u = absurd (omega (arith, e))
seven_of (a ∷ b ∷ c ∷ d ∷ f ∷ g ∷ h ∷ []) e u =
    let n = number_from_digits 256 (a ∷ b ∷ c ∷ d ∷ f ∷ g ∷ h ∷ []) in
    let ua : a < 256 = u 0 in
    let ub : b < 256 = u 1 in
    let uc : c < 256 = u 2 in
    let ud : d < 256 = u 3 in
    let uf : f < 256 = u 4 in
    let ug : g < 256 = u 5 in
    let uh : h < 256 = u 6 in
    let ea : n / 2 ^ 48 % 256 ≡ a = omega arith in
    let eb : n / 2 ^ 40 % 256 ≡ b = omega arith in
    let ec : n / 2 ^ 32 % 256 ≡ c = omega arith in
    let ed : n / 2 ^ 24 % 256 ≡ d = omega arith in
    let ef : n / 2 ^ 16 % 256 ≡ f = omega arith in
    let eg : n / 2 ^ 8 % 256 ≡ g = omega arith in
    let eh : n % 256 ≡ h = omega arith in
    cc
seven_of (a ∷ b ∷ c ∷ d ∷ f ∷ g ∷ h ∷ i ∷ is) e u = absurd (omega (arith, e))

pub bytes_under : (bs : List ℕ) → ((i : ℕ) → get_or bs i 0 < 2 ^ 8) → AllBelowBase 256 bs
bytes_under bs u = All-from_get_or (λ d. d < 256) bs 0 (λ i _. u i)

-- the number of seven bytes, written out
pub seven_weighs : (bs : List ℕ) → length bs ≡ 7 → number_from_digits 256 bs ≡ get_or bs 0 0 * 2 ^ 48 + get_or bs 1 0 * 2 ^ 40 + get_or bs 2 0 * 2 ^ 32 + get_or bs 3 0 * 2 ^ 24 + get_or bs 4 0 * 2 ^ 16 + get_or bs 5 0 * 2 ^ 8 + get_or bs 6 0
seven_weighs [] e = absurd (omega (arith, e))
seven_weighs (a ∷ []) e = absurd (omega (arith, e))
seven_weighs (a ∷ b ∷ []) e = absurd (omega (arith, e))
seven_weighs (a ∷ b ∷ c ∷ []) e = absurd (omega (arith, e))
seven_weighs (a ∷ b ∷ c ∷ d ∷ []) e = absurd (omega (arith, e))
seven_weighs (a ∷ b ∷ c ∷ d ∷ f ∷ []) e = absurd (omega (arith, e))
seven_weighs (a ∷ b ∷ c ∷ d ∷ f ∷ g ∷ []) e = absurd (omega (arith, e))
seven_weighs (a ∷ b ∷ c ∷ d ∷ f ∷ g ∷ h ∷ []) e = omega arith
seven_weighs (a ∷ b ∷ c ∷ d ∷ f ∷ g ∷ h ∷ i ∷ is) e = absurd (omega (arith, e))
