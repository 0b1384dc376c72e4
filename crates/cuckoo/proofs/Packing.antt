-- The overflow row, which is packed at its front.
use Rattle.std.proofs.Common.{rules, ◌≡◌, ℕ, ◌+◌, ◌-◌, ◌<◌, ◌≤◌, List, length, drop, take, set, replicate, sym, ap, ◌∙◌, ⊎_elim, arith}
use Rattle.std.proofs.lemmas.List.{get_or-drop, get_or-take, length-drop, length-take-le}
use Rattle.std.proofs.lemmas.Bool.{cases_lt, cases_eq}
use Rattle.slots.specs.declared.Slot.{Slot}
use Rattle.slots.specs.Slots.{blank, node_at, held}
use Rattle.slots.proofs.Rows.{node_same, node_other, taken_within, fresh_node}
use Rattle.slots.proofs.Counts.{held_packed, held_drop}
use Rattle.cuckoo.specs.Layout.{Packed}

-- a row with the same nodes in its overflow part
packed_like : (xs ys : List Slot) (n : ℕ) → ((k : ℕ) → node_at ys (1024 + k) ≡ node_at xs (1024 + k)) → Packed xs n → Packed ys n
packed_like xs ys n like packed = (λ k h. omega (arith, like k, packed.0 k h), λ k h. like k ∙ packed.1 k h)

module _ (xs : List Slot) (n : ℕ) (packed : Packed xs n) where
  -- as many pairs stand there as slots are said to be taken
  pub packed_count : held (drop 1024 xs) ≡ n
  packed_count =
      let at : (k : ℕ) → node_at (drop 1024 xs) k ≡ node_at xs (1024 + k) = λ k. ap (λ (s : Slot). s.node) (get_or-drop 1024 xs k blank) in
      held_packed (drop 1024 xs) n (λ k h. omega (arith, at k, packed.0 k h)) (λ k h. at k ∙ packed.1 k h)

  pub packed_few : n ≤ held xs
  packed_few = omega (arith, packed_count, held_drop 1024 xs)

  pub packed_within : n ≤ length xs - 1024
  packed_within =
      ⊎_elim (λ (a : length xs - 1024 < n). omega (arith, taken_within xs (1024 + (length xs - 1024)) (packed.0 (length xs - 1024) a))) (λ (b : n ≤ length xs - 1024). b)
      (cases_lt (length xs - 1024) n)

  -- the taken slots as a row of their own, of m slots
  module _ (m : ℕ) (is : m ≡ n) where
    abbrev part : List Slot
    part = take m (drop 1024 xs)

    pub part_long : length part ≡ n
    part_long = length-take-le m (drop 1024 xs) (omega (arith, length-drop 1024 xs, packed_within)) ∙ is

    pub part_at : (k : ℕ) → k < n → node_at part k ≡ node_at xs (1024 + k)
    part_at k h = ap (λ (s : Slot). s.node) (get_or-take m (drop 1024 xs) k blank (omega arith) ∙ get_or-drop 1024 xs k blank)

  -- a slot of the two rows is written
  pub packed_below : (p : ℕ) (c : Slot) → p < length xs → p < 1024 → Packed (set xs p c) n
  packed_below p c within low = search rules

  -- a node gets new links
  pub packed_renew : (p : ℕ) (c : Slot) → p < length xs → node_at xs p ≡ c.node → Packed (set xs p c) n
  packed_renew p c within same =
      packed_like xs (set xs p c) n
      (λ k. ⊎_elim
      (λ (a : 1024 + k ≡ p). ap (node_at (set xs p c)) a ∙ node_same xs p c within ∙ sym same ∙ sym (ap (node_at xs) a))
      (λ (na : 1024 + k ≡ p → ⊥). node_other xs p c within (1024 + k) na)
      (cases_eq (1024 + k) p))
      packed

  -- a pair spills to the first free slot
  pub packed_spill : (c : Slot) → 1024 + n < length xs → 0 < c.node → Packed (set xs (1024 + n) c) (n + 1)
  packed_spill c within some = search rules

pub fresh_packed : (n : ℕ) → Packed (replicate n blank) 0
fresh_packed n = (λ k h. absurd (omega arith), λ k h. fresh_node n (1024 + k))
