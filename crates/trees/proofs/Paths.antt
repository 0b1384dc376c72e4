-- Search paths.
--
--   seen_here, seen_left, seen_right  the path at a place
--   seen_low, low_way_low, high_way_low  no path is longer than the height
use Rattle.std.proofs.Common.{◌≡◌, ℕ, ◌+◌, ◌<◌, ◌≤◌, max, cond, eqb, ltb, arith}
use Rattle.std.proofs.lemmas.Bool.{eq-eqb, ne_eqb, lt-ltb, le-ltb, cond_both}
use Rattle.entry.specs.declared.Entry.{Entry}
use Rattle.trees.specs.Trees.{Tree, leaf, node, tall, seen, low_way, high_way}

module _ (k i : ℕ) (e : Entry) (l r : Tree) where
  pub seen_here : k ≡ e.key → seen k (node i e l r) ≡ 1
  seen_here is = rw (eq-eqb k e.key is)

  pub seen_left : k < e.key → seen k (node i e l r) ≡ seen k l + 1
  seen_left lt = rw (ne_eqb k e.key (omega arith), lt-ltb k e.key lt) (omega arith)

  pub seen_right : e.key < k → seen k (node i e l r) ≡ seen k r + 1
  seen_right lt = rw (ne_eqb k e.key (omega arith), le-ltb k e.key (omega arith)) (omega arith)

pub seen_low : (k : ℕ) (t : Tree) → seen k t ≤ tall t
seen_low k leaf = omega arith
seen_low k (node i e l r) =
    let one : cond (eqb k e.key) 0 (cond (ltb k e.key) (seen k l) (seen k r)) ≤ max (tall l) (tall r) =
    cond_both (eqb k e.key) 0 _ (λ z. z ≤ max (tall l) (tall r)) (λ t. omega arith)
    (λ t. cond_both (ltb k e.key) (seen k l) (seen k r) (λ z. z ≤ max (tall l) (tall r)) (λ u. omega (arith, seen_low k l)) (λ u. omega (arith, seen_low k r))) in
    omega arith

pub low_way_low : (t : Tree) → low_way t ≤ tall t
low_way_low leaf = omega arith
low_way_low (node i e l r) = omega (arith, low_way_low l)

pub high_way_low : (t : Tree) → high_way t ≤ tall t
high_way_low leaf = omega arith
high_way_low (node i e l r) = omega (arith, high_way_low r)
