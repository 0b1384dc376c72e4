-- Which slot a pair stands in. The ring is counted on from a slot, modulo 1,024, so that slot 0
-- follows slot 1,023. An empty slot has rank 0, a resident one more than its displacement.
--
--   rank_at           the rank of a slot of a row
--   Spread           from each slot to the next the rank rises by at most one
--   Passes           the walk for a node goes on past a slot: another node of no smaller displacement
--                    than the sought one would have there stands in it
--   Stops            the walk for a node stops at a slot: it is empty, or its resident has a smaller
--                    displacement than the sought node would have there
--   Reaches          the walk for a node, from its home on, passes every slot before this one
--   Settles          a pair c comes to the slot t with the row xs: at last the row is ys. It rests in
--                    an empty slot, stays in hand where the resident's displacement is no smaller, and
--                    swaps with a resident of smaller displacement, which is then carried on
--   Shifted          of a row xs, the followers of the slot from, k of them, moved back by one: each of
--                    them was away from its home, the last one's slot is empty, and all other slots
--                    are as they were. The row is then ys
--   Closes           what a drop from a slot leaves: its followers moved back, up to an empty slot or
--                    one of displacement 0
use Rattle.std.specs.Prelude.{◌≡◌, ℕ, ◌+◌, ◌%◌, ◌<◌, ◌≤◌, List, get_or, ◌≢◌, slice_index_or, slice_set}
use Rattle.slots.specs.declared.Slot.{Slot}
use Rattle.slots.specs.Slots.{blank, node_at}
use Rattle.robin_hood.specs.Homes.{home_of, away_of, rank_of}

abbrev pub rank_at : List Slot → ℕ → ℕ
rank_at xs i = rank_of i (node_at xs i)

abbrev pub Spread : List Slot → Type 0
Spread xs = (j : ℕ) → rank_at xs ((j + 1) % 1024) ≤ rank_at xs (j % 1024) + 1

abbrev pub Passes : List Slot → ℕ → ℕ → Type 0
Passes xs n at = (node_at xs at ≢ n) × (rank_of at n ≤ rank_at xs at)

abbrev pub Stops : List Slot → ℕ → ℕ → Type 0
Stops xs n at = rank_at xs at < rank_of at n

pub record Reaches (xs : List Slot) (n at : ℕ) : Type 0 where
  pub within : at < 1024
  pub before : (j : ℕ) → j < away_of at n → Passes xs n ((home_of n + j) % 1024)

pub data Settles : List Slot → ℕ → Slot → List Slot → Type 0 where
  rests : {xs : List Slot} {t : ℕ} {c : Slot} → node_at xs (t % 1024) ≡ 0 → Settles xs t c (slice_set xs (t % 1024) c)
  stays : {xs : List Slot} {t : ℕ} {c : Slot} {ys : List Slot} → 0 < node_at xs (t % 1024) → rank_of (t % 1024) c.node ≤ rank_at xs (t % 1024) → Settles xs (t + 1) c ys → Settles xs t c ys
  swaps : {xs : List Slot} {t : ℕ} {c : Slot} {ys : List Slot} → 0 < node_at xs (t % 1024) → rank_at xs (t % 1024) < rank_of (t % 1024) c.node → Settles (slice_set xs (t % 1024) c) (t + 1) (slice_index_or xs (t % 1024) blank) ys → Settles xs t c ys

pub record Shifted (xs : List Slot) (from k : ℕ) (ys : List Slot) : Type 0 where
  pub away : (j : ℕ) → j < k → 1 < rank_at xs ((from + j + 1) % 1024)
  pub moved : (j : ℕ) → j < k → slice_index_or ys ((from + j) % 1024) blank ≡ slice_index_or xs ((from + j + 1) % 1024) blank
  pub emptied : get_or ys ((from + k) % 1024) blank ≡ blank
  pub kept : (j : ℕ) → (k < j) × (j < 1024) → slice_index_or ys ((from + j) % 1024) blank ≡ slice_index_or xs ((from + j) % 1024) blank

pub record Closes (xs : List Slot) (from : ℕ) (ys : List Slot) : Type 0 where
  pub followers : ℕ
  pub few : followers < 1023
  pub shifted : Shifted xs from followers ys
  pub end : rank_at xs ((from + followers + 1) % 1024) ≤ 1
