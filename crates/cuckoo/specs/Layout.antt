-- Which slot a pair stands in. Slots 0 to 511 are row one, 512 to 1,023 row two, and 1,024 to 1,791
-- the overflow row.
--
--   Placed           in the two rows each node stands at its home
--   Packed           of the overflow row the first n slots are taken and the others empty
--   Settles          a pair c comes to its home at, with the row xs and n taken overflow slots, and at
--                    most k residents may yet be pushed: at last the row is ys, with m taken overflow
--                    slots. It rests in an empty slot. It takes the place of a resident, which is
--                    pushed and carried to its other home. Where no push is left, the pair carried is
--                    not tried at its home but spills to the first free overflow slot. So with k = 32
--                    the resident of the 32nd push goes to the overflow row, even where its other
--                    home is empty
--   Erased           what a drop from the slot at leaves, of n taken overflow slots m: a slot of the two
--                    rows is emptied; in the overflow row the last pair moves into the hole
use Rattle.std.specs.Prelude.{◌≡◌, ℕ, suc, ◌+◌, ◌-◌, ◌<◌, ◌≤◌, List, slice_index_or, slice_set}
use Rattle.slots.specs.declared.Slot.{Slot}
use Rattle.slots.specs.Slots.{blank, node_at}
use Rattle.cuckoo.specs.Homes.{home_of, other_of}

abbrev pub Placed : List Slot → Type 0
Placed xs = (i : ℕ) → (0 < node_at xs i) × (i < 1024) → home_of i (node_at xs i) ≡ i

abbrev pub Packed : List Slot → ℕ → Type 0
Packed xs n = ((k : ℕ) → k < n → 0 < node_at xs (1024 + k)) × ((k : ℕ) → n ≤ k → node_at xs (1024 + k) ≡ 0)

pub data Settles : ℕ → List Slot → ℕ → ℕ → Slot → List Slot → ℕ → Type 0 where
  rests : {k : ℕ} {xs : List Slot} {n at : ℕ} {c : Slot} → node_at xs at ≡ 0 → Settles (suc k) xs n at c (slice_set xs at c) n
  pushes : {k : ℕ} {xs : List Slot} {n at : ℕ} {c : Slot} {ys : List Slot} {m : ℕ} → 0 < node_at xs at → Settles k (slice_set xs at c) n (other_of at (node_at xs at)) (slice_index_or xs at blank) ys m → Settles (suc k) xs n at c ys m
  spills : {xs : List Slot} {n at : ℕ} {c : Slot} → Settles 0 xs n at c (slice_set xs (1024 + n) c) (n + 1)

pub record Erased (xs : List Slot) (n at : ℕ) (ys : List Slot) (m : ℕ) : Type 0 where
  pub emptied : at < 1024 → (ys ≡ slice_set xs at blank) × (m ≡ n)
  pub filled : 1024 ≤ at → (ys ≡ slice_set (slice_set xs at (slice_index_or xs (1024 + n - 1) blank)) (1024 + n - 1) blank) × (m + 1 ≡ n)
