-- Lists of entries in rising key order: what can be read from them, and done to them.
--
--   blank              key 0 and note 0
--   below, at, above   the entries below a key, at it, above it
--   from, upto         those at or above a key; at or below it
--   between            those from a first to a second key, both included
--   put, without       the list with an entry put in; without a key's entry
--   filled             whether a list has an element
--   first, final       the first and the last entry, or the blank one
--   Rising             keys rise
--   Over, Under        every key is above a number; below it
use Rattle.std.specs.Prelude.{ℕ, ◌<◌, Bool, true, false, List, [], ◌∷◌, ◌++◌, filter, nat_eq, nat_le, nat_lt}
use Rattle.std.specs.List.{AllByRecursion}
use Rattle.entry.specs.declared.Entry.{Entry}

abbrev pub blank : Entry
blank = record { key = 0; note = 0 }

abbrev pub below : ℕ → List Entry → List Entry
below k xs = filter (λ e. nat_lt e.key k) xs

abbrev pub at : ℕ → List Entry → List Entry
at k xs = filter (λ e. nat_eq e.key k) xs

abbrev pub above : ℕ → List Entry → List Entry
above k xs = filter (λ e. nat_lt k e.key) xs

abbrev pub from : ℕ → List Entry → List Entry
from k xs = filter (λ e. nat_le k e.key) xs

abbrev pub upto : ℕ → List Entry → List Entry
upto k xs = filter (λ e. nat_le e.key k) xs

abbrev pub between : ℕ → ℕ → List Entry → List Entry
between a b xs = from a (upto b xs)

abbrev pub put : Entry → List Entry → List Entry
put e xs = below e.key xs ++ (e ∷ above e.key xs)

abbrev pub without : ℕ → List Entry → List Entry
without k xs = below k xs ++ above k xs

abbrev pub filled : {A : Type 0} → List A → Bool
filled [] = false
filled (x ∷ xs) = true

abbrev pub first : List Entry → Entry
first [] = blank
first (x ∷ xs) = x

abbrev pub final : List Entry → Entry
final [] = blank
final (x ∷ []) = x
final (x ∷ y ∷ ys) = final (y ∷ ys)

abbrev pub Over : ℕ → List Entry → Type 0
Over k xs = AllByRecursion (λ (e : Entry). k < e.key) xs

abbrev pub Under : ℕ → List Entry → Type 0
Under k xs = AllByRecursion (λ (e : Entry). e.key < k) xs

abbrev pub Rising : List Entry → Type 0
Rising [] = Unit {0}
Rising (x ∷ xs) = Over x.key xs × Rising xs
