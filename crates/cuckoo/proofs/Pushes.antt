-- A put that carries a pair from home to home.
use Rattle.std.proofs.Common.{rules, ◌≡◌, ℕ, ◌+◌, ◌<◌, List, length, get_or, set, arith}
use Rattle.slots.specs.declared.Slot.{Slot}
use Rattle.slots.specs.Slots.{blank, node_at, held, Apart, Absent}
use Rattle.slots.proofs.Carried.{Carried, carried_start, swapped}
use Rattle.cuckoo.specs.Homes.{first_of, home_of}
use Rattle.cuckoo.specs.Layout.{Placed, Packed}
use Rattle.cuckoo.proofs.Standing.{first_below, home_first, placed_set}
use Rattle.cuckoo.proofs.Packing.{packed_below, packed_few, packed_spill}

-- the pair c is carried to its home at
pub record Pushing (xs₀ : List Slot) (new : Slot) (n : ℕ) (xs : List Slot) (c : Slot) (at : ℕ) : Type 0 where
  pub carried : Carried 1792 xs₀ new xs c
  pub placed : Placed xs
  pub packed : Packed xs n
  pub below : at < 1024
  pub home : home_of at c.node ≡ at

pub push_start : (xs : List Slot) (n : ℕ) (c : Slot) (at : ℕ) → at ≡ first_of c.node → length xs ≡ 1792 → Placed xs → Packed xs n → Apart xs → 0 < c.node → Absent xs c.node → Pushing xs c n xs c at
push_start xs n c at is long placed packed apart some absent =
    record { carried = carried_start long apart some absent; placed = placed; packed = packed; below = omega (arith, first_below c.node); home = rw is (home_first c.node) }

module _ {xs₀ : List Slot} {new : Slot} {n : ℕ} {xs : List Slot} {c : Slot} {at : ℕ} (s : Pushing xs₀ new n xs c at) where
  pub at_within : at < length xs
  at_within = omega (arith, s.carried.long, s.below)

  pub put_placed : Placed (set xs at c)
  put_placed = placed_set xs at c at_within s.placed (λ pe. s.home)

  pub put_packed : Packed (set xs at c) n
  put_packed = packed_below xs n s.packed at c at_within s.below

  pub pushed : 0 < node_at xs at → (to : ℕ) → to < 1024 → home_of to (node_at xs at) ≡ to → Pushing xs₀ new n (set xs at c) (get_or xs at blank) to
  pushed taken to below home = record { carried = swapped s.carried at at_within taken; placed = put_placed; packed = put_packed; below = below; home = home }

  -- no push is left
  module _ (room : held xs₀ < 768) where
    pub spill_within : 1024 + n < length xs
    spill_within = omega (arith, s.carried.long, s.carried.count, packed_few xs n s.packed)

    pub spill_placed : Placed (set xs (1024 + n) c)
    spill_placed = search rules

    pub spill_packed : Packed (set xs (1024 + n) c) (n + 1)
    spill_packed = packed_spill xs n s.packed c spill_within s.carried.some

    pub spill_empty : node_at xs (1024 + n) ≡ 0
    spill_empty = s.packed.1 n (omega arith)
