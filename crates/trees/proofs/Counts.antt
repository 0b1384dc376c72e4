-- How often a number stands in a list.
--
--   single_same, single_other, differ  the two cases
--   times_append               in joined lists
--   joins                      a number in front of others
--   times_all                  what holds of every number that stands in a list
--   distinct_few, whole_long   how long a list is in which each number below n stands once at most; once
use Rattle.std.proofs.Common.{◌≡◌, ℕ, zero, suc, ◌+◌, ◌<◌, ◌≤◌, eqb, List, [], ◌∷◌, ◌++◌, length, refl, ap, inl, inr, arith}
use Rattle.std.specs.List.{AllByRecursion}
use Rattle.std.proofs.lemmas.Bool.{eq-eqb, ne_eqb, cond-true, cond-false, cases_eq}
use Rattle.trees.specs.Counts.{single, times}

pub single_same : (m n : ℕ) → m ≡ n → single m n ≡ 1
single_same m n e = cond-true (eqb m n) 1 0 (eq-eqb m n e)

pub single_other : (m n : ℕ) → (m ≡ n → ⊥) → single m n ≡ 0
single_other m n ne = cond-false (eqb m n) 1 0 (ne_eqb m n ne)

pub differ : (m n : ℕ) → single m n ≡ 0 → m ≡ n → ⊥
differ m n z e = omega (arith, single_same m n e)

pub times_append : (m : ℕ) (xs ys : List ℕ) → times m (xs ++ ys) ≡ times m xs + times m ys
times_append m [] ys = omega arith
times_append m (x ∷ xs) ys = omega (arith, times_append m xs ys)

pub times_all : (P : ℕ → Type 0) (xs : List ℕ) → ((m : ℕ) → 1 ≤ times m xs → P m) → AllByRecursion P xs
times_all P [] h = tt
times_all P (x ∷ xs) h = (h x (omega (arith, single_same x x refl)), times_all P xs (λ m l. h m (omega arith)))

-- a number that is not in a list of different ones, in front of it
pub joins : (n : ℕ) (xs : List ℕ) → times n xs ≡ 0 → ((m : ℕ) → times m xs ≤ 1) → (m : ℕ) → single m n + times m xs ≤ 1
joins n xs out once m = elim (cases_eq m n) [
  | inl e ↦ omega (arith, single_same m n e, ap (λ q. times q xs) e)
  | inr ne ↦ omega (arith, single_other m n ne, once m)
]

-- the sum of the counts of the numbers below n
abbrev spread : ℕ → List ℕ → ℕ
spread zero xs = 0
spread (suc n) xs = spread n xs + times n xs

spread_none : (n : ℕ) → spread n [] ≡ 0
spread_none zero = refl
spread_none (suc n) = omega (arith, spread_none n)

spread_high : (n x : ℕ) (xs : List ℕ) → n ≤ x → spread n (x ∷ xs) ≡ spread n xs
spread_high zero x xs le = refl
spread_high (suc n) x xs le = omega (arith, spread_high n x xs (omega arith), single_other n x (omega arith))

spread_more : (n x : ℕ) (xs : List ℕ) → x < n → spread n (x ∷ xs) ≡ 1 + spread n xs
spread_more zero x xs lt = absurd (omega arith)
spread_more (suc n) x xs lt = elim (cases_eq n x) [
  | inl e ↦ omega (arith, spread_high n x xs (omega arith), single_same n x e)
  | inr e ↦ omega (arith, spread_more n x xs (omega arith), single_other n x e)
]

spread_all : (n : ℕ) (xs : List ℕ) → AllByRecursion (λ x. x < n) xs → spread n xs ≡ length xs
spread_all n [] h = spread_none n
spread_all n (x ∷ xs) h = omega (arith, spread_more n x xs h.0, spread_all n xs h.1)

spread_few : (n : ℕ) (xs : List ℕ) → ((m : ℕ) → times m xs ≤ 1) → spread n xs ≤ n
spread_few zero xs h = omega arith
spread_few (suc n) xs h = omega (arith, spread_few n xs h, h n)

spread_whole : (n : ℕ) (xs : List ℕ) → ((m : ℕ) → m < n → times m xs ≡ 1) → spread n xs ≡ n
spread_whole zero xs h = refl
spread_whole (suc n) xs h = omega (arith, spread_whole n xs (λ m lt. h m (omega arith)), h n (omega arith))

pub distinct_few : (n : ℕ) (xs : List ℕ) → AllByRecursion (λ x. x < n) xs → ((m : ℕ) → times m xs ≤ 1) → length xs ≤ n
distinct_few n xs in_n once = omega (arith, spread_all n xs in_n, spread_few n xs once)

pub whole_long : (n : ℕ) (xs : List ℕ) → AllByRecursion (λ x. x < n) xs → ((m : ℕ) → m < n → times m xs ≡ 1) → length xs ≡ n
whole_long n xs in_n once = omega (arith, spread_all n xs in_n, spread_whole n xs once)
