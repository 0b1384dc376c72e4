-- How many slots of a row are taken, before and after one is written.
use Rattle.std.proofs.Common.{rules, ◌≡◌, ℕ, zero, suc, ◌+◌, ◌<◌, ◌≤◌, cond, eqb, List, [], ◌∷◌, length, drop, set, replicate, refl, arith}
use Rattle.std.proofs.lemmas.Bool.Decides.{nat_tests}
use Rattle.slots.specs.declared.Slot.{Slot}
use Rattle.slots.specs.Slots.{blank, node_at, nodes_of, held}

-- 1 for a slot that is taken
abbrev weight : ℕ → ℕ
weight n = cond (eqb n 0) 0 1

held_cons : (s : Slot) (ss : List Slot) → held (s ∷ ss) ≡ weight s.node + held ss
unfolding nodes_of
held_cons s ss = search rules

held_set : (xs : List Slot) (p : ℕ) (c : Slot) → p < length xs → held (set xs p c) + weight (node_at xs p) ≡ held xs + weight c.node
held_set [] p c h = absurd (omega arith)
held_set (s ∷ ss) zero c h = omega (arith, held_cons s ss, held_cons c ss)
held_set (s ∷ ss) (suc p) c h = omega (arith, held_set ss p c (omega arith), held_cons s ss, held_cons s (set ss p c))

module _ (xs : List Slot) (p : ℕ) (c : Slot) (within : p < length xs) where
  -- an empty slot is filled
  pub held_more : node_at xs p ≡ 0 → 0 < c.node → held (set xs p c) ≡ held xs + 1
  held_more empty pos = grind (arith, nat_tests, held_set xs p c within)

  -- a taken slot is emptied
  pub held_less : 0 < node_at xs p → c.node ≡ 0 → held (set xs p c) + 1 ≡ held xs
  held_less pos empty = grind (arith, nat_tests, held_set xs p c within)

  -- a taken slot stays taken
  pub held_same : 0 < node_at xs p → 0 < c.node → held (set xs p c) ≡ held xs
  held_same pos pos' = grind (arith, nat_tests, held_set xs p c within)

-- a row with no empty slot holds as many as it is long
pub held_all : (xs : List Slot) → ((i : ℕ) → i < length xs → 0 < node_at xs i) → held xs ≡ length xs
unfolding nodes_of
held_all [] all = refl
held_all (s ∷ ss) all =
    let r : held ss ≡ length ss = held_all ss (λ i h. all (suc i) (omega arith)) in
    let t : 0 < s.node = all zero (omega arith) in
    let e : held (s ∷ ss) ≡ weight s.node + held ss = held_cons s ss in
    grind (arith, nat_tests)

-- a row that is taken up to a slot and empty from there on
pub held_packed : (xs : List Slot) (n : ℕ) → ((k : ℕ) → k < n → 0 < node_at xs k) → ((k : ℕ) → n ≤ k → node_at xs k ≡ 0) → held xs ≡ n
unfolding nodes_of
held_packed [] zero taken free = refl
held_packed [] (suc n) taken free = absurd (omega (arith, taken zero (omega arith)))
held_packed (s ∷ ss) zero taken free =
    let more = held_packed ss zero (λ k h. absurd (omega arith)) (λ k h. free (suc k) (omega arith)) in
    let e = free zero (omega arith) in
    let c = held_cons s ss in
    grind (arith, nat_tests)
held_packed (s ∷ ss) (suc n) taken free =
    let more = held_packed ss n (λ k h. taken (suc k) (omega arith)) (λ k h. free (suc k) (omega arith)) in
    let e = taken zero (omega arith) in
    let c = held_cons s ss in
    grind (arith, nat_tests)

-- a part of a row holds no more than the row
pub held_drop : (k : ℕ) (xs : List Slot) → held (drop k xs) ≤ held xs
held_drop zero xs = omega arith
held_drop (suc k) [] = omega arith
held_drop (suc k) (s ∷ ss) = omega (arith, held_drop k ss, held_cons s ss)

-- a row of empty slots
pub fresh_nodes : (n : ℕ) → nodes_of (replicate n blank) ≡ []
unfolding nodes_of
fresh_nodes zero = refl
fresh_nodes (suc n) = fresh_nodes n
