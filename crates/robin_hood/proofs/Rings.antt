-- Homes, displacements and ranks on the ring of 1,024 slots.
use Rattle.std.proofs.Common.{rules, ◌≡◌, ℕ, zero, suc, ◌+◌, ◌%◌, ◌<◌, ◌≤◌, ◌≢◌, List, length, set, replicate, sym, ap, ◌∙◌, ⊎_elim, arith}
use Rattle.std.proofs.lemmas.Bool.{cases_eq}
use Rattle.std.proofs.lemmas.Bool.Decides.{nat_tests}
use Rattle.slots.specs.declared.Slot.{Slot}
use Rattle.robin_hood.specs.Homes.{home_of, away_of, rank_of}
use Rattle.slots.specs.Slots.{blank, node_at}
use Rattle.robin_hood.specs.Layout.{rank_at, Spread}
use Rattle.slots.proofs.Rows.{fresh_node, node_other}

pub home_below : (n : ℕ) → home_of n < 1024
unfolding home_of
home_below n = search rules

-- a slot is its displacement away from the home
pub around : (i n : ℕ) → i < 1024 → (home_of n + away_of i n) % 1024 ≡ i
around i n h = omega (arith, home_below n)

pub away_at : (n k : ℕ) → k < 1024 → away_of ((home_of n + k) % 1024) n ≡ k
away_at n k h = omega (arith, home_below n)

pub rank_some : (i n : ℕ) → 0 < n → rank_of i n ≡ away_of i n + 1
unfolding rank_of
rank_some i n h = grind (arith, nat_tests)

pub rank_zero : (i n : ℕ) → n ≡ 0 → rank_of i n ≡ 0
unfolding rank_of
rank_zero i n h = grind (arith, nat_tests)

-- over e slots the rank rises by at most e
pub descent : (xs : List Slot) → Spread xs → (h e : ℕ) → rank_at xs ((h + e) % 1024) ≤ rank_at xs (h % 1024) + e
descent xs s h zero =
    let q : (h + zero) % 1024 ≡ h % 1024 = omega arith in
    rw q (omega arith)
descent xs s h (suc e) =
    let q : (h + suc e) % 1024 ≡ (h + e + 1) % 1024 = omega arith in
    rw q (omega (arith, s (h + e), descent xs s h e))

-- one slot on, the rank of a node rises by at most one
pub rank_step : (n j : ℕ) → rank_of ((j + 1) % 1024) n ≤ rank_of (j % 1024) n + 1
unfolding rank_of
rank_step n j = search rules

-- one slot back, a rank above 1 falls by one
pub rank_back : (n j : ℕ) → 1 < rank_of ((j + 1) % 1024) n → rank_of (j % 1024) n + 1 ≡ rank_of ((j + 1) % 1024) n
unfolding rank_of
rank_back n j = search rules

-- at its home a node has rank 1
pub rank_home : (n : ℕ) → rank_of (home_of n) n ≤ 1
unfolding rank_of
rank_home n = search rules

module _ (xs : List Slot) (p : ℕ) (c : Slot) (within : p < length xs) where
  pub rank_same : (i : ℕ) → i ≡ p → rank_at (set xs p c) i ≡ rank_of p c.node
  rank_same i e = search rules

  pub rank_other : (i : ℕ) → i ≢ p → rank_at (set xs p c) i ≡ rank_at xs i
  rank_other i ne = ap (rank_of i) (node_other xs p c within i ne)

-- the slot at t is written, and its rank falls neither below the old nor rises past what the slot before allows
pub spread_set : (xs : List Slot) (t : ℕ) (c : Slot) → length xs ≡ 1024 → Spread xs → rank_of (t % 1024) c.node ≤ rank_at xs ((t + 1023) % 1024) + 1 → rank_at xs (t % 1024) ≤ rank_of (t % 1024) c.node → Spread (set xs (t % 1024) c)
spread_set xs t c long s fits up j = search rules

-- the node in a slot stays
pub spread_same : (xs : List Slot) (p : ℕ) (c : Slot) → p < length xs → Spread xs → node_at xs p ≡ c.node → Spread (set xs p c)
spread_same xs p c within s same j =
    let like : (i : ℕ) → rank_at (set xs p c) i ≡ rank_at xs i = λ i.
    ⊎_elim (λ (a : i ≡ p). rank_same xs p c within i a ∙ ap (rank_of p) (sym same) ∙ sym (ap (rank_at xs) a)) (λ (na : i ≡ p → ⊥). rank_other xs p c within i na) (cases_eq i p) in
    omega (arith, s j, like ((j + 1) % 1024), like (j % 1024))

-- a row of empty slots
pub fresh_spread : (n : ℕ) → Spread (replicate n blank)
fresh_spread n j = omega (arith, rank_zero ((j + 1) % 1024) (node_at (replicate n blank) ((j + 1) % 1024)) (fresh_node n ((j + 1) % 1024)))
