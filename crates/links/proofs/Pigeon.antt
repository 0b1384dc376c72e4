-- Numbers that are apart and all among others are no more than those.
--
--   pigeon         so are their numbers
--   among_append   a number is among two rows joined if it is among one of them
--   apart_append   two rows joined are apart if each is and they share no number
use Rattle.std.proofs.Common.{◌≡◌, ℕ, ◌+◌, ◌≤◌, true, false, cond, not, ◌||◌, eqb, List, [], ◌∷◌, ◌++◌, length, refl, subst, arith}
use Rattle.std.proofs.lemmas.Bool.{false≢true, and_parts, and_from, eq-eqb, or_left, or_right, or_from, not-true, not_from_false}
use Rattle.std.proofs.lemmas.Bool.Decides.{nat_tests}
use Rattle.dictionary.specs.Pairs.{among, apart}

-- the row with the first x in it taken out
less : ℕ → List ℕ → List ℕ
less x [] = []
less x (y ∷ ys) = cond (eqb x y) ys (y ∷ less x ys)

fewer : (x : ℕ) (ys : List ℕ) → among x ys ≡ true → length (less x ys) + 1 ≡ length ys
unfolding less
fewer x [] t = absurd (false≢true t)
fewer x (y ∷ ys) t = let more = fewer x ys in grind (arith, nat_tests)

stays : (x n : ℕ) (ys : List ℕ) → (n ≡ x → ⊥) → among n ys ≡ true → among n (less x ys) ≡ true
unfolding less
stays x n [] d t = t
stays x n (y ∷ ys) d t = let more = stays x n ys d in grind (arith, nat_tests)

pub pigeon : (xs ys : List ℕ) → apart xs ≡ true → ((n : ℕ) → among n xs ≡ true → among n ys ≡ true) → length xs ≤ length ys
pigeon [] ys a h = omega arith
pigeon (x ∷ xs) ys a h =
    let parts = and_parts (not (among x xs)) (apart xs) a in
    let here : among x ys ≡ true = h x (or_left (eqb x x) (among x xs) (eq-eqb x x refl)) in
    let rest = pigeon xs (less x ys) parts.1 (λ n t. stays x n ys (λ e. other n e t parts.0) (h n (or_right (eqb n x) (among n xs) t))) in
    omega (arith, rest, fewer x ys here)
  where
    other : (n : ℕ) → n ≡ x → among n xs ≡ true → not (among x xs) ≡ true → ⊥
    other n e t u = let v : among x xs ≡ true = subst (λ m. among m xs ≡ true) e t in grind (arith, nat_tests)

pub among_append : (n : ℕ) (xs ys : List ℕ) → among n (xs ++ ys) ≡ (among n xs || among n ys)
among_append n [] ys = refl
among_append n (x ∷ xs) ys = let more = among_append n xs ys in grind (arith, nat_tests)

pub apart_append : (xs ys : List ℕ) → apart xs ≡ true → apart ys ≡ true → ((n : ℕ) → among n xs ≡ true → among n ys ≡ false) → apart (xs ++ ys) ≡ true
apart_append [] ys a b h = b
apart_append (x ∷ xs) ys a b h =
    let parts = and_parts (not (among x xs)) (apart xs) a in
    let off : among x ys ≡ false = h x (or_left (eqb x x) (among x xs) (eq-eqb x x refl)) in
    let alone : among x (xs ++ ys) ≡ false = rw (among_append x xs ys) (or_from (among x xs) (among x ys) (not-true (among x xs) parts.0) off) in
    and_from (not (among x (xs ++ ys))) (apart (xs ++ ys)) (not_from_false (among x (xs ++ ys)) alone)
    (apart_append xs ys parts.1 b (λ n t. h n (or_right (eqb n x) (among n xs) t)))
