-- The first and the last of a row as one comes in between or goes.
--
--   empty                     a row has nothing in it
--   last_append, all_last     the last of two rows joined; what holds of all holds of the last
--   outermost_some            a row with something in it has a first and a last
--   join_rows, join_test      i comes in: its pair, and whether the pair alters
--   part_rows, part_test      i goes: the pair left, and whether it alters
use Rattle.std.proofs.Common.{◌≡◌, ℕ, ◌<◌, Bool, true, false, not, ◌||◌, eqb, List, [], ◌∷◌, ◌++◌, is_some, Some, refl, ap, arith}
use Rattle.std.specs.List.{AllByRecursion}
use Rattle.std.proofs.lemmas.List.{append-nil}
use Rattle.std.proofs.lemmas.Bool.{eq-eqb, ne_eqb, or_right, or_left, or_from, lt-ltb, le-ltb}
use Rattle.links.specs.Orders.{last_from}
use Rattle.links.specs.Links.{outermost, joined, joins, parted, parts}

abbrev pub empty : List ℕ → Bool
empty [] = true
empty (x ∷ xs) = false

pub last_append : (x : ℕ) (xs : List ℕ) (y : ℕ) (ys : List ℕ) → last_from x (xs ++ y ∷ ys) ≡ last_from y ys
last_append x [] y ys = refl
last_append x (z ∷ xs) y ys = last_append z xs y ys

pub all_last : (P : ℕ → Type 0) (x : ℕ) (xs : List ℕ) → P x → AllByRecursion P xs → P (last_from x xs)
all_last P x [] p all = p
all_last P x (y ∷ ys) p all = all_last P y ys all.0 all.1

pub outermost_some : (xs : List ℕ) → is_some (outermost xs) ≡ not (empty xs)
outermost_some [] = refl
outermost_some (x ∷ xs) = refl

module _ (rep : ℕ → ℕ) (i : ℕ) where
  pub join_rows : (xs ys : List ℕ) → AllByRecursion (λ x. rep x < rep i) xs → AllByRecursion (λ x. rep i < rep x) ys → outermost (xs ++ i ∷ ys) ≡ joined rep i (outermost (xs ++ ys))
  join_rows [] [] a b = refl
  join_rows [] (y ∷ ys) a b =
      let p = lt-ltb (rep i) (rep y) b.0 in
      let l = all_last (λ x. rep i < rep x) y ys b.0 b.1 in
      let q = le-ltb (rep (last_from y ys)) (rep i) (omega arith) in
      rw (p, q) refl
  join_rows (x ∷ xs) [] a b =
      let p = le-ltb (rep i) (rep x) (omega (arith, a.0)) in
      let l = all_last (λ x. rep x < rep i) x xs a.0 a.1 in
      let q = lt-ltb (rep (last_from x xs)) (rep i) l in
      rw (append-nil xs, p, q, last_append x xs i []) refl
  join_rows (x ∷ xs) (y ∷ ys) a b =
      let p = le-ltb (rep i) (rep x) (omega (arith, a.0)) in
      let l = all_last (λ x. rep i < rep x) y ys b.0 b.1 in
      let q = le-ltb (rep (last_from y ys)) (rep i) (omega arith) in
      rw (last_append x xs i (y ∷ ys), last_append x xs y ys, p, q) refl

  pub join_test : (xs ys : List ℕ) → AllByRecursion (λ x. rep x < rep i) xs → AllByRecursion (λ x. rep i < rep x) ys → joins rep i (outermost (xs ++ ys)) ≡ (empty xs || empty ys)
  join_test [] [] a b = refl
  join_test [] (y ∷ ys) a b = or_left _ _ (lt-ltb (rep i) (rep y) b.0)
  join_test (x ∷ xs) [] a b =
      let l = all_last (λ x. rep x < rep i) x xs a.0 a.1 in
      let q = lt-ltb (rep (last_from x xs)) (rep i) l in
      rw (append-nil xs) (or_right _ _ q)
  join_test (x ∷ xs) (y ∷ ys) a b =
      let p = le-ltb (rep i) (rep x) (omega (arith, a.0)) in
      let l = all_last (λ x. rep i < rep x) y ys b.0 b.1 in
      let q = le-ltb (rep (last_from y ys)) (rep i) (omega arith) in
      rw (last_append x xs y ys) (or_from _ _ p q)

  below_other : (x : ℕ) → rep x < rep i → eqb x i ≡ false
  below_other x h = ne_eqb x i (λ e. omega (arith, ap rep e))

  above_other : (x : ℕ) → rep i < rep x → eqb x i ≡ false
  above_other x h = ne_eqb x i (λ e. omega (arith, ap rep e))

  itself : eqb i i ≡ true
  itself = eq-eqb i i refl

  -- next and prev are the neighbours in the row
  pub part_rows : (next prev : ℕ) (xs ys : List ℕ) → AllByRecursion (λ x. rep x < rep i) xs → AllByRecursion (λ x. rep i < rep x) ys →
      ((y : ℕ) (zs : List ℕ) → ys ≡ y ∷ zs → y ≡ next) → ((x : ℕ) (zs : List ℕ) → xs ≡ x ∷ zs → last_from x zs ≡ prev) →
      outermost (xs ++ ys) ≡ parted next prev i (outermost (xs ++ i ∷ ys))
  part_rows next prev [] [] a b n p = rw itself refl
  part_rows next prev [] (y ∷ ys) a b n p =
      let q = above_other (last_from y ys) (all_last (λ x. rep i < rep x) y ys b.0 b.1) in
      rw (itself, q) (ap (λ z. Some (z, last_from y ys)) (n y ys refl))
  part_rows next prev (x ∷ xs) [] a b n p =
      let q = below_other x a.0 in
      rw (append-nil xs, last_append x xs i [], q, itself) (ap (λ z. Some (x, z)) (p x xs refl))
  part_rows next prev (x ∷ xs) (y ∷ ys) a b n p =
      let q = below_other x a.0 in
      let t = above_other (last_from y ys) (all_last (λ x. rep i < rep x) y ys b.0 b.1) in
      rw (last_append x xs i (y ∷ ys), last_append x xs y ys, q, t) refl

  pub part_test : (xs ys : List ℕ) → AllByRecursion (λ x. rep x < rep i) xs → AllByRecursion (λ x. rep i < rep x) ys → parts i (outermost (xs ++ i ∷ ys)) ≡ (empty xs || empty ys)
  part_test [] ys a b = or_left _ _ itself
  part_test (x ∷ xs) [] a b = rw (last_append x xs i []) (or_right _ _ itself)
  part_test (x ∷ xs) (y ∷ ys) a b =
      rw (last_append x xs i (y ∷ ys)) (or_from _ _ (below_other x a.0) (above_other (last_from y ys) (all_last (λ x. rep i < rep x) y ys b.0 b.1)))
