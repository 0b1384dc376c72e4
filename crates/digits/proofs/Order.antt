-- Numbers made of a higher and a lower part are in the order of their parts.
use Rattle.std.proofs.Common.{◌≡◌, Ordering, ℕ, zero, suc, ◌+◌, ◌*◌, ◌^◌, ◌<◌, true, false, ◌&&◌, ◌||◌, eqb, ltb, List, [], ◌∷◌, length, get_or, refl, ap, ◌∙◌, inl, inr, mul-le-mul_right, mul_assoc, add-mul, zero-mul, mul-one, arith}
use native.Mathlib.Nat.{pow-zero, pow-succ'}
use Rattle.std.specs.Int.Digits.{number_from_digits, number_from_digits_after, AllBelowBase}
use Rattle.std.proofs.lemmas.Int.Digits.{number_lt}
use Rattle.std.proofs.lemmas.Bool.{cases_lt}
use Rattle.std.proofs.lemmas.Bool.Decides.{nat_tests}
use Rattle.std.specs.Ordering.{ordering_then, is_lt, nat_cmp}
use Rattle.std.specs.Cmp.Lexicographic.{slice_cmp}
use Rattle.digits.specs.Parts.{first_then, byte_by_byte}

-- a higher part that is smaller decides
higher : (n a b c : ℕ) → b < n → a < c → a * n + b < c * n
higher n a b c h l = omega (arith, mul-le-mul_right {m = suc a} {n = c} n l, add-mul 1 a n)

pub first_then_bits : (n a b c d : ℕ) → b < n → d < n → first_then a b c d ≡ ltb (a * n + b) (c * n + d)
first_then_bits n a b c d h g =
    elim (cases_lt a c) [
      | inl l ↦ (let k = higher n a b c h l in grind (arith, nat_tests))
      | inr l ↦ elim (cases_lt c a) [
        | inl m ↦ (let k = higher n c d a g m in grind (arith, nat_tests))
        | inr m ↦ (let e : a ≡ c = omega arith in let f : a * n ≡ c * n = ap (λ z. z * n) e in grind (arith, nat_tests))
      ]
    ]

-- ---- digits, the first one highest
number_from : (b n : ℕ) (ds : List ℕ) → number_from_digits_after b n ds ≡ n * b ^ length ds + number_from_digits b ds
number_from b n [] = omega (arith, ap (λ z. n * z) (pow-zero b), mul-one n)
number_from b n (d ∷ ds) =
    rw (number_from b (n * b + d) ds, number_from b (0 * b + d) ds, pow-succ' b (length ds), add-mul (n * b) d (b ^ length ds), mul_assoc n b (b ^ length ds)) (omega arith)

number_first : (b d : ℕ) (ds : List ℕ) → number_from_digits b (d ∷ ds) ≡ d * b ^ length ds + number_from_digits b ds
number_first b d ds = number_from b (0 * b + d) ds ∙ ap (λ z. z * b ^ length ds + number_from_digits b ds) (omega (arith, zero-mul b))

pub bytes_order : (xs ys : List ℕ) → length xs ≡ length ys → AllBelowBase 256 xs → AllBelowBase 256 ys → byte_by_byte xs ys ≡ ltb (number_from_digits 256 xs) (number_from_digits 256 ys)
bytes_order [] [] e u v = refl
bytes_order [] (y ∷ ys) e u v = absurd (omega (arith, e))
bytes_order (x ∷ xs) [] e u v = absurd (omega (arith, e))
bytes_order (x ∷ xs) (y ∷ ys) e u v =
    let same : length xs ≡ length ys = omega (arith, e) in
    let small : number_from_digits 256 ys < 256 ^ length xs = rw same (number_lt 256 ys v.1) in
    let parts = first_then_bits (256 ^ length xs) x (number_from_digits 256 xs) y (number_from_digits 256 ys) (number_lt 256 xs u.1) small in
    rw (number_first 256 x xs, number_first 256 y ys, ← same, bytes_order xs ys same u.1 v.1) parts

-- the first difference decides
pub differ_at : (xs ys : List ℕ) (i : ℕ) → length xs ≡ length ys → i < length xs → ((j : ℕ) → j < i → get_or xs j 0 ≡ get_or ys j 0) → (get_or xs i 0 ≡ get_or ys i 0 → ⊥) → byte_by_byte xs ys ≡ ltb (get_or xs i 0) (get_or ys i 0)
differ_at [] ys i e h same other = absurd (omega arith)
differ_at (x ∷ xs) [] i e h same other = absurd (omega (arith, e))
differ_at (x ∷ xs) (y ∷ ys) zero e h same other = elim (cases_lt x y) [
  | inl l ↦ grind (arith, nat_tests)
  | inr l ↦ (let g : y < x = elim (cases_lt y x) [ inl m ↦ m | inr m ↦ absurd (other (omega arith)) ] in grind (arith, nat_tests))
]
differ_at (x ∷ xs) (y ∷ ys) (suc i) e h same other =
    let first : x ≡ y = same 0 (omega arith) in
    let rest = differ_at xs ys i (omega (arith, e)) (omega arith) (λ j l. same (suc j) (omega arith)) other in
    let same_first : ltb x y ≡ false = grind (arith, nat_tests) in
    let equal_first : eqb x y ≡ true = grind (arith, nat_tests) in
    ap (λ b. b || (eqb x y && byte_by_byte xs ys)) same_first ∙ (ap (λ b. b && byte_by_byte xs ys) equal_first ∙ rest)

pub differ_nowhere : (xs ys : List ℕ) → length xs ≡ length ys → ((j : ℕ) → j < length xs → get_or xs j 0 ≡ get_or ys j 0) → byte_by_byte xs ys ≡ false
differ_nowhere [] ys e same = refl
differ_nowhere (x ∷ xs) [] e same = refl
differ_nowhere (x ∷ xs) (y ∷ ys) e same =
    let first : x ≡ y = same 0 (omega arith) in
    let rest = differ_nowhere xs ys (omega (arith, e)) (λ j l. same (suc j) (omega arith)) in
    let same_first : ltb x y ≡ false = grind (arith, nat_tests) in
    let equal_first : eqb x y ≡ true = grind (arith, nat_tests) in
    ap (λ b. b || (eqb x y && byte_by_byte xs ys)) same_first ∙ (ap (λ b. b && byte_by_byte xs ys) equal_first ∙ rest)

first_compared : (x y : ℕ) (o : Ordering) → is_lt (ordering_then (nat_cmp x y) o) ≡ ltb x y || (eqb x y && is_lt o)
first_compared x y o = grind (arith, nat_tests)

-- comparing the bytes from the first on decides in the same way
pub bytes_compared : (xs ys : List ℕ) → length xs ≡ length ys → is_lt (slice_cmp nat_cmp xs ys) ≡ byte_by_byte xs ys
bytes_compared [] [] e = refl
bytes_compared [] (y ∷ ys) e = absurd (omega (arith, e))
bytes_compared (x ∷ xs) [] e = refl
bytes_compared (x ∷ xs) (y ∷ ys) e = rw (first_compared x y (slice_cmp nat_cmp xs ys), bytes_compared xs ys (omega (arith, e)))
