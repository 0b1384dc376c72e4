-- Homes of nodes in the two rows, and the pairs that stand there.
use Rattle.std.proofs.Common.{rules, ◌≡◌, ℕ, ◌+◌, ◌-◌, ◌<◌, ◌≤◌, List, length, set, replicate, sym, ap, ◌∙◌, subst, ⊎_elim, arith}
use Rattle.std.proofs.lemmas.Bool.{cases_lt, lt-ltb, le-ltb, cond-true, cond-false}
use Rattle.slots.specs.declared.Slot.{Slot}
use Rattle.slots.specs.Slots.{blank, node_at, Absent}
use Rattle.slots.proofs.Rows.{fresh_node}
use Rattle.cuckoo.specs.Homes.{first_of, second_of, home_of}
use Rattle.cuckoo.specs.Layout.{Placed, Packed}

pub first_below : (n : ℕ) → first_of n < 512
unfolding first_of
first_below n = search rules

pub second_within : (n : ℕ) → (512 ≤ second_of n) × (second_of n < 1024)
unfolding second_of
second_within n = search rules

pub home_first : (n : ℕ) → home_of (first_of n) n ≡ first_of n
home_first n = cond-true _ _ _ (lt-ltb (first_of n) 512 (first_below n))

-- a node that is neither at its two homes nor in the taken part of the overflow row is nowhere
pub nowhere : (xs : List Slot) (n spilled : ℕ) → Placed xs → Packed xs spilled → 0 < n → (node_at xs (first_of n) ≡ n → ⊥) → (node_at xs (second_of n) ≡ n → ⊥) → ((k : ℕ) → (1024 ≤ k) × (k < 1024 + spilled) → node_at xs k ≡ n → ⊥) → Absent xs n
nowhere xs n spilled placed packed pos one two over i is =
    ⊎_elim
    (λ (a : i < 512). one (subst (λ (x : ℕ). node_at xs x ≡ n) (sym (placed i (omega arith, omega arith)) ∙ cond-true _ _ _ (lt-ltb i 512 a) ∙ ap first_of is) is))
    (λ (na : 512 ≤ i).
    ⊎_elim
    (λ (b : i < 1024). two (subst (λ (x : ℕ). node_at xs x ≡ n) (sym (placed i (omega arith, b)) ∙ cond-false _ _ _ (le-ltb i 512 na) ∙ ap second_of is) is))
    (λ (nb : 1024 ≤ i).
    ⊎_elim
    (λ (d : i < 1024 + spilled). over i (nb, d) is)
    (λ (nd : 1024 + spilled ≤ i).
    let e : 1024 + (i - 1024) ≡ i = omega arith in
    let z : node_at xs i ≡ 0 = rw e at (packed.1 (i - 1024) (omega arith)) in
    omega arith)
    (cases_lt i (1024 + spilled)))
    (cases_lt i 1024))
    (cases_lt i 512)

-- a slot is written with a pair at its home, or in the overflow row
pub placed_set : (xs : List Slot) (p : ℕ) (c : Slot) → p < length xs → Placed xs → ((0 < c.node) × (p < 1024) → home_of p c.node ≡ p) → Placed (set xs p c)
placed_set xs p c h placed home i pe = search rules

pub fresh_placed : (n : ℕ) → Placed (replicate n blank)
fresh_placed n i pe = absurd (omega (arith, fresh_node n i, pe.0))
