-- The numbers of the refusals and of the rebuildings.
--
--   number              a refusal's
--   rebuilding_number   a rebuilding's
--   rebuilt             1 for a rebuilding, 0 where there was none
use Rattle.std.specs.Prelude.{ℕ}
use Rattle.ordered.specs.declared.refusal.Refusal.{Refusal}
use Rattle.ordered.specs.declared.refusal.Refusal.TheVariants.{Limit, Capacity, Used, Shut, Standing, Length, Malformed, Sequence, TooLarge, Order, Piste, Held, Absent, Full, Nothing, Room, Shared, Holder, Later}
use Rattle.ordered.specs.declared.calls.Rebuilding.{Rebuilding}
use Rattle.ordered.specs.declared.calls.Rebuilding.TheVariants.{Unchanged, Split, Merge, MergeSplit}

abbrev pub number : Refusal → ℕ
number Limit = 1
number Capacity = 2
number Used = 3
number Shut = 4
number Standing = 5
number Length = 6
number Malformed = 7
number Sequence = 8
number TooLarge = 9
number Order = 10
number Piste = 11
number Held = 12
number Absent = 13
number Full = 14
number Nothing = 15
number Room = 16
number Shared = 17
number Holder = 18
number Later = 19

abbrev pub rebuilding_number : Rebuilding → ℕ
rebuilding_number Unchanged = 0
rebuilding_number Split = 1
rebuilding_number Merge = 2
rebuilding_number MergeSplit = 3

abbrev pub rebuilt : Rebuilding → ℕ
rebuilt Unchanged = 0
rebuilt Split = 1
rebuilt Merge = 1
rebuilt MergeSplit = 1
