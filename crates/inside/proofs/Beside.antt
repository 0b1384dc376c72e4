-- The bucket behind another, and the entries of both.
use Rattle.std.proofs.Common.{◌≡◌, ℕ, suc, ◌<◌, ◌≤◌, true, List, [], ◌∷◌, ◌++◌, sym, ap, ◌∙◌, subst, arith}
use Rattle.std.proofs.ByRecursion.{All-weaker}
use Rattle.dictionary.specs.Pairs.{among}
use Rattle.entry.specs.declared.Entry.{Entry}
use Rattle.entry.specs.Lists.{Rising}
use Rattle.links.specs.Orders.{Behind}
use Rattle.links.proofs.Orders.{cut}
use Rattle.buckets.specs.declared.Table.{Table}
use Rattle.buckets.specs.Tables.{next_of, order_of}
use Rattle.buckets.proofs.Lays.{neighbours}
use Rattle.rules.specs.Buckets.{Rise, Spread, lowest}
use Rattle.rules.proofs.Spreads.{spread_parts, rise_join, in_rise}
use Rattle.rows.specs.Rows.{bucket, row}
use Rattle.rows.proofs.Cuts.{map_append}

pub record Pair (order : List ℕ) (n m : ℕ) : Type 0 where
  pub pre : List ℕ
  pub post : List ℕ
  pub is : order ≡ pre ++ n ∷ m ∷ post

pub pair : (t : Table) → (n : ℕ) → among n (order_of t) ≡ true → (next_of t n ≡ 0 → ⊥) → Pair (order_of t) n (next_of t n)
pair t n h ne =
    let c = cut (order_of t) n h in
    made c.pre c.post c.is (neighbours t c.pre n c.post c.is).1
  where
    made : (pre post : List ℕ) → order_of t ≡ pre ++ n ∷ post → Behind post (next_of t n) → Pair (order_of t) n (next_of t n)
    made pre [] is b = absurd (ne b)
    made pre (y ∷ ys) is b = record { pre = pre; post = ys; is = is ∙ ap (λ m. pre ++ n ∷ m ∷ ys) (sym b) }

rise_rising : (lo hi : ℕ) (xs : List Entry) → Rise lo hi xs → Rising xs
rise_rising lo hi [] h = tt
rise_rising lo hi (e ∷ es) h =
    (All-weaker (λ (x : Entry). (suc e.key ≤ x.key) × (x.key < hi)) (λ (x : Entry). e.key < x.key) (λ x p. omega arith) es (in_rise (suc e.key) hi es h.1), rise_rising (suc e.key) hi es h.1)

-- the entries of a bucket and of the one behind it rise
pub both_rise : (top : ℕ) (rep : ℕ → ℕ) (items : ℕ → List Entry) (n m : ℕ) (pre post : List ℕ) → Spread top (row rep items (pre ++ n ∷ m ∷ post)) → Rising (items n ++ items m)
both_rise top rep items n m pre post sp =
    let s = (spread_parts top (row rep items pre) (row rep items (n ∷ m ∷ post)) (subst (Spread top) (map_append (bucket rep items) pre (n ∷ m ∷ post)) sp)).1 in
    rise_rising (rep n) (lowest top (row rep items post)) (items n ++ items m) (rise_join (rep n) (rep m) (lowest top (row rep items post)) (items n) (items m) s.1.0 s.1.1.1.0)
