-- Orders of buckets. A bucket goes by its number, and rep tells each number's representative.
--
--   last_from x xs         the last of a row that begins with x
--   lastly                 the last of a row, 0 where it has none
--   without i order        the order with the bucket i taken out
--   put_after a n order    the order with the bucket n put in behind a
--   with_at f i v          a function with one value replaced
--   Rising rep order       the representatives rise
--   Ordered w rep order    they rise, and each is below 2^w
--   ZeroFirst rep order    there is a first bucket, and its representative is 0
--   Before, Behind         what stands before or behind a bucket is its neighbour; 0 comes behind the last
--   Neighbours             so it is for each bucket of an order
--   holder rep order k     the bucket that a key belongs to: the last whose representative is at most k
use Rattle.std.specs.Prelude.{◌≡◌, ℕ, ◌^◌, ◌<◌, cond, not, List, [], ◌∷◌, ◌++◌, filter, ◌==◌, nat_le}
use Rattle.std.specs.List.{AllByRecursion}

abbrev pub last_from : ℕ → List ℕ → ℕ
last_from x [] = x
last_from x (y ∷ ys) = last_from y ys

abbrev pub lastly : List ℕ → ℕ
lastly [] = 0
lastly (x ∷ xs) = last_from x xs

abbrev pub without : ℕ → List ℕ → List ℕ
without i order = filter (λ x. not (x == i)) order

abbrev pub put_after : ℕ → ℕ → List ℕ → List ℕ
put_after a n [] = []
put_after a n (x ∷ xs) = cond (x == a) (x ∷ n ∷ xs) (x ∷ put_after a n xs)

abbrev pub with_at : (ℕ → ℕ) → ℕ → ℕ → ℕ → ℕ
with_at f i v n = cond (n == i) v (f n)

abbrev pub Rising : (ℕ → ℕ) → List ℕ → Type 0
Rising rep [] = Unit {0}
Rising rep (x ∷ xs) = AllByRecursion (λ y. rep x < rep y) xs × Rising rep xs

pub record Ordered (w : ℕ) (rep : ℕ → ℕ) (order : List ℕ) : Type 0 where
  pub rises : Rising rep order
  pub fits : AllByRecursion (λ x. rep x < 2 ^ w) order

abbrev pub ZeroFirst : (ℕ → ℕ) → List ℕ → Type 0
ZeroFirst rep [] = ⊥
ZeroFirst rep (x ∷ xs) = rep x ≡ 0

abbrev pub Before : List ℕ → ℕ → Type 0
Before [] prev = Unit {0}
Before (x ∷ xs) prev = prev ≡ last_from x xs

abbrev pub Behind : List ℕ → ℕ → Type 0
Behind [] next = next ≡ 0
Behind (y ∷ ys) next = next ≡ y

abbrev pub Neighbours : (ℕ → ℕ) → (ℕ → ℕ) → List ℕ → Type 0
Neighbours next prev order = (pre : List ℕ) (x : ℕ) (post : List ℕ) → order ≡ pre ++ x ∷ post → Before pre (prev x) × Behind post (next x)

unfoldable pub holder : (ℕ → ℕ) → List ℕ → ℕ → ℕ
holder rep order k = lastly (filter (λ i. nat_le (rep i) k) order)
