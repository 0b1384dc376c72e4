-- Buckets go by their numbers in an index, and by their places in the rules.
--
--   bucket rep items n       the bucket of a number, by its representative and its entries
--   row rep items order      the buckets of an order of numbers
--   ahead d f post           what f gives for the number that comes first behind, or d where none does
--   back d f pre             what f gives for the number that comes last before, or d where none does
use Rattle.std.specs.Prelude.{ℕ, List, [], ◌∷◌, map}
use Rattle.entry.specs.declared.Entry.{Entry}
use Rattle.links.specs.Orders.{last_from}
use Rattle.rules.specs.Buckets.{Bucket}

abbrev pub bucket : (ℕ → ℕ) → (ℕ → List Entry) → ℕ → Bucket
bucket rep items n = record { rep = rep n; items = items n }

abbrev pub row : (ℕ → ℕ) → (ℕ → List Entry) → List ℕ → List Bucket
row rep items order = map (bucket rep items) order

abbrev pub ahead : {X : Type 0} → X → (ℕ → X) → List ℕ → X
ahead d f [] = d
ahead d f (y ∷ ys) = f y

abbrev pub back : {X : Type 0} → X → (ℕ → X) → List ℕ → X
back d f [] = d
back d f (x ∷ xs) = f (last_from x xs)
