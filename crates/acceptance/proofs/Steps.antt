-- One step more of a stage.
use Rattle.std.proofs.Common.{◌≡◌, ℕ, ◌+◌, ◌≤◌, Bool, true, false, cond, Some, sym, arith}
use Rattle.dictionary.specs.Pairs.{Pairs, with_pair, accepts, one_more}
use Rattle.acceptance.specs.Nodes.{node_of, links_of}
use Rattle.acceptance.specs.Stages.{Filled, put, refused, Counted, none, more}

-- what each step keeps, from the state f on, the whole stage keeps
pub counted_keeps : {F : Type 0} {step : F → ℕ → Bool → F → Type 0} {f : F} (P : F → ℕ → ℕ → F → Type 0) → P f 0 0 f →
    ((i n : ℕ) (p q : F) (b : Bool) → P f i n p → step p i b q → P f (i + 1) (n + cond b 1 0) q) → (i n : ℕ) (q : F) → Counted step f i n q → P f i n q
counted_keeps P z s _ _ _ none = z
counted_keeps P z s _ _ _ (more {i} {n} {p} {q} b r e) = s i n p q b (counted_keeps P z s i n p r) e

-- a put is accepted or not
pub filled_more : {room round held i n h : ℕ} {f u : Pairs} (ok : Bool) → Filled room round f held i n u h → ok ≡ accepts u h room (node_of i) →
    Filled room round f held (i + 1) (n + cond ok 1 0) (cond ok (with_pair u (node_of i) (Some (links_of i round))) u) (cond ok (one_more (u (node_of i)) h) h)
filled_more true so e = put so (sym e)
filled_more {n} false so e = let z : n + 0 ≡ n = omega arith in rw z (refused so (sym e))

-- ---- what a branch counted
pub counted_one : (n m : ℕ) (b : Bool) → b ≡ true → m ≡ n + 1 → m ≡ n + cond b 1 0
counted_one n m b e k = rw e k

pub counted_none : (n m : ℕ) (b : Bool) → b ≡ false → m ≡ n → m ≡ n + cond b 1 0
counted_none n m b e k = rw e (omega arith)

pub counted_most : (n m i : ℕ) (b : Bool) → m ≡ n + cond b 1 0 → n ≤ i → m ≤ i + 1
counted_most n m i true e h = omega (arith, e)
counted_most n m i false e h = omega (arith, e)
