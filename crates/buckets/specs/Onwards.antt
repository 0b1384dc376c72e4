-- The buckets from one on.
--
--   since n order   the order from the number n on
--   coming t at     the numbers from this one on, none where it is none
--   left o          the numbers that a walk has before it
--   Stands o        the bucket that it is at stands
use Rattle.std.specs.Prelude.{◌≡◌, ℕ, true, cond, List, [], ◌∷◌, ◌==◌, IfSome, Some, None}
use Rattle.std.specs.declared.option.Option.{Option}
use Rattle.dictionary.specs.Pairs.{among}
use Rattle.buckets.specs.declared.Table.{Table}
use Rattle.buckets.specs.declared.onward.Onward.{Onward}
use Rattle.buckets.specs.Tables.{order_of}

abbrev pub since : ℕ → List ℕ → List ℕ
since n [] = []
since n (x ∷ xs) = cond (x == n) (x ∷ xs) (since n xs)

abbrev pub coming : Table → Option ℕ → List ℕ
coming t None = []
coming t (Some n) = since n (order_of t)

abbrev pub left : Onward → List ℕ
left o = coming o.table.now o.at

abbrev pub Stands : Onward → Type 0
Stands o = IfSome o.at (λ n. among n (order_of o.table.now) ≡ true)
