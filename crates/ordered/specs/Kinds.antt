-- The sorted list of a kind's own keys, in the kind's own order.
--
--   Kind K          a kind of keys: its width, a key's bits, the key of some bits, the own order
--   KindLaws        what makes a kind lawful
--   Item K          a key and a note
--   shown           an item by its bits
--   own_below, own_above, own_from, own_upto, own_between
--                   the items before a key; behind it; not before; not behind; from one key to another
--   own_put, own_without
--                   the items with one put in; without a key's
--   known           what is told of the key of some bits, or that they are none's
--   own_listed      the sorted list: what it tells of a call with the caller's places as they stood, and its items after
use Rattle.std.specs.Prelude.{◌≡◌, ℕ, ◌^◌, ◌<◌, ◌≤◌, Bool, true, cond, not, List, ◌∷◌, ◌++◌, map, length, is_some, Some, None, filter, Option, nat_lt}
use Rattle.entry.specs.declared.Entry.{Entry}
use Rattle.entry.specs.Lists.{first, final}
use Rattle.ordered.specs.declared.calls.Call.{Call}
use Rattle.ordered.specs.declared.calls.Call.TheVariants.{Add, Remove, Find, Next, Last, Range}
use Rattle.ordered.specs.declared.refusal.Refusal.TheVariants.{TooLarge, Order}
use Rattle.ordered.specs.Sorted.{Listed, refused, no_add, no_find, no_near, no_range, tells, writes, keeps}

pub record Kind (K : Type 0) : Type 0 where
  pub width : ℕ
  pub bits : K → ℕ
  pub key : ℕ → Option K
  pub before : K → K → Bool

pub record KindLaws {K : Type 0} (kind : Kind K) : Type 0 where
  pub wide : (8 ≤ kind.width) × (kind.width ≤ 60)
  pub below : (k : K) → kind.bits k < 2 ^ kind.width
  pub again : (k : K) → kind.key (kind.bits k) ≡ Some k
  pub exact : (n : ℕ) (k : K) → kind.key n ≡ Some k → kind.bits k ≡ n
  pub every : (n : ℕ) → n < 2 ^ kind.width → is_some (kind.key n) ≡ true
  pub ordered : (a b : K) → kind.before a b ≡ nat_lt (kind.bits a) (kind.bits b)

pub record Item (K : Type 0) : Type 0 where
  pub key : K
  pub note : ℕ

abbrev pub shown : {K : Type 0} → Kind K → Item K → Entry
shown kind x = record { key = kind.bits x.key; note = x.note }

-- ---- by the kind's own order
abbrev pub own_below : {K : Type 0} → Kind K → K → List (Item K) → List (Item K)
own_below kind k xs = filter (λ x. kind.before x.key k) xs

abbrev pub own_above : {K : Type 0} → Kind K → K → List (Item K) → List (Item K)
own_above kind k xs = filter (λ x. kind.before k x.key) xs

abbrev pub own_from : {K : Type 0} → Kind K → K → List (Item K) → List (Item K)
own_from kind k xs = filter (λ x. not (kind.before x.key k)) xs

abbrev pub own_upto : {K : Type 0} → Kind K → K → List (Item K) → List (Item K)
own_upto kind k xs = filter (λ x. not (kind.before k x.key)) xs

abbrev pub own_between : {K : Type 0} → Kind K → K → K → List (Item K) → List (Item K)
own_between kind a b xs = own_from kind a (own_upto kind b xs)

abbrev pub own_put : {K : Type 0} → Kind K → Item K → List (Item K) → List (Item K)
own_put kind x xs = own_below kind x.key xs ++ (x ∷ own_above kind x.key xs)

abbrev pub own_without : {K : Type 0} → Kind K → K → List (Item K) → List (Item K)
own_without kind k xs = own_below kind k xs ++ own_above kind k xs

-- ---- the list
abbrev pub known : {K : Type 0} → Option K → List Entry → List (Item K) → (K → Listed (Item K)) → Listed (Item K)
known None ps xs f = record { told = refused TooLarge ps; after = xs }
known (Some k) ps xs f = f k

abbrev pub own_add : {K : Type 0} → Kind K → ℕ → Item K → List Entry → List (Item K) → Listed (Item K)
own_add kind limit x ps xs =
    let no = no_add limit (own_between kind x.key x.key xs) (length xs) in
    record { told = tells no (shown kind x) ps; after = keeps no (own_put kind x xs) xs }

abbrev pub own_remove : {K : Type 0} → Kind K → K → List Entry → List (Item K) → Listed (Item K)
own_remove kind k ps xs =
    let found = map (shown kind) (own_between kind k k xs) in
    record { told = tells (no_find found) (first found) ps; after = keeps (no_find found) (own_without kind k xs) xs }

abbrev pub own_find : {K : Type 0} → Kind K → K → List Entry → List (Item K) → Listed (Item K)
own_find kind k ps xs =
    let found = map (shown kind) (own_between kind k k xs) in
    record { told = tells (no_find found) (first found) ps; after = xs }

abbrev pub own_next : {K : Type 0} → Kind K → K → List Entry → List (Item K) → Listed (Item K)
own_next kind k ps xs =
    let found = map (shown kind) (own_from kind k xs) in
    record { told = tells (no_near found) (first found) ps; after = xs }

abbrev pub own_last : {K : Type 0} → Kind K → K → List Entry → List (Item K) → Listed (Item K)
own_last kind k ps xs =
    let found = map (shown kind) (own_upto kind k xs) in
    record { told = tells (no_near found) (final found) ps; after = xs }

abbrev pub own_range : {K : Type 0} → Kind K → K → K → List Entry → List (Item K) → Listed (Item K)
own_range kind a b ps xs =
    let found = map (shown kind) (own_between kind a b xs) in
    let r : Listed (Item _) = record { told = writes (no_range (length found) (length ps)) found ps; after = xs } in
    cond (kind.before b a) (record { told = refused Order ps; after = xs }) r

unfoldable pub own_listed : {K : Type 0} → Kind K → ℕ → Call → List Entry → List (Item K) → Listed (Item K)
own_listed kind limit (Add n v) ps xs = known (kind.key n) ps xs (λ k. own_add kind limit (record { key = k; note = v }) ps xs)
own_listed kind limit (Remove n) ps xs = known (kind.key n) ps xs (λ k. own_remove kind k ps xs)
own_listed kind limit (Find n) ps xs = known (kind.key n) ps xs (λ k. own_find kind k ps xs)
own_listed kind limit (Next n) ps xs = known (kind.key n) ps xs (λ k. own_next kind k ps xs)
own_listed kind limit (Last n) ps xs = known (kind.key n) ps xs (λ k. own_last kind k ps xs)
own_listed kind limit (Range m n) ps xs = known (kind.key m) ps xs (λ a. known (kind.key n) ps xs (λ b. own_range kind a b ps xs))
