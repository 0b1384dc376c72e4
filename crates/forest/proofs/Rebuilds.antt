-- Trees built of the nodes that two buckets had.
--
--   Both, both   two buckets' trees were built of the nodes that both had
use Rattle.std.proofs.Common.{◌≡◌, ℕ, ◌+◌, true, List, [], ◌∷◌, length, sym, refl, ap, ◌∙◌, subst, arith}
use Rattle.dictionary.specs.Pairs.{among}
use Rattle.entry.specs.declared.Entry.{Entry}
use Rattle.links.specs.Orders.{with_at}
use Rattle.links.proofs.Orders.{with_same, with_other}
use Rattle.buckets.specs.declared.Table.{Table}
use Rattle.buckets.specs.Tables.{size_of, root_of, order_of}
use Rattle.trees.specs.Counts.{times}
use Rattle.trees.specs.Pools.{entries_at, places_at, Standing, Kept}
use Rattle.avl.specs.declared.pool.Pool.{Pool}
use Rattle.avl.specs.Spares.{free}
use Rattle.forest.specs.Forests.{items_of, places_of, Forest, KeptBut}
use Rattle.forest.proofs.Alters.{two_lone, Written, Altered, kept_but, planted, two_moved}

pub record Both (t : Table) (p : Pool) (u : Table) (q : Pool) (n k : ℕ) (es fs : List Entry) : Type 0 where
  pub forest : Forest u q
  pub kept : KeptBut t p u q (n ∷ k ∷ [])
  pub one : items_of u q n ≡ es
  pub other : items_of u q k ≡ fs

-- the roots and the sizes of two buckets were written, and the nodes that they had shared out anew
module _ (t : Table) (p : Pool) (u : Table) (q : Pool) (n k a b x y : ℕ) (ps : List ℕ) (f : Forest t p) (i : among n (order_of t) ≡ true) (j : among k (order_of t) ≡ true) (ne : n ≡ k → ⊥)
    (w : Written t u (with_at (with_at (root_of t) n a) k b) (with_at (with_at (size_of t) n x) k y)) (kept : Kept p.nodes q.nodes ps)
    (own : (m : ℕ) → times m ps ≡ times m (places_of t p n) + times m (places_of t p k))
    (new : (m : ℕ) → times m (places_at q.nodes a) + times m (places_at q.nodes b) ≡ times m ps)
    (sa : Standing q.nodes a) (sb : Standing q.nodes b) (es fs : List Entry) (ha : entries_at q.nodes a ≡ es) (hb : entries_at q.nodes b ≡ fs)
    (lx : x ≡ length es) (ly : y ≡ length fs) (same : free q ≡ free p) where
  with_first : (g : ℕ → ℕ) (v z : ℕ) → with_at (with_at g n v) k z n ≡ v
  with_first g v z = with_other (with_at g n v) k z n ne ∙ with_same g n v n refl

  with_far : (g : ℕ → ℕ) (v z c : ℕ) → (c ≡ n → ⊥) → (c ≡ k → ⊥) → with_at (with_at g n v) k z c ≡ g c
  with_far g v z c d e = with_other (with_at g n v) k z c e ∙ with_other g n v c d

  altered : Altered t p u q (with_at (with_at (root_of t) n a) k b) (with_at (with_at (size_of t) n x) k y) (n ∷ k ∷ []) ps
  altered = record {
    table = w;
    root_far = λ c h. with_far (root_of t) a b c h.0 h.1.0;
    size_far = λ c h. with_far (size_of t) x y c h.0 h.1.0;
    nodes = kept;
    out = λ c s h m. omega (arith, own m, two_lone t p f c n m s i h.0, two_lone t p f c k m s j h.1.0, two_lone t p f n k m i j ne);
  }

  root_one : root_of u n ≡ a
  root_one = ap (λ g. g n) w.root ∙ with_first (root_of t) a b

  root_other : root_of u k ≡ b
  root_other = ap (λ g. g k) w.root ∙ with_same (with_at (root_of t) n a) k b k refl

  items_one : items_of u q n ≡ es
  items_one = ap (entries_at q.nodes) root_one ∙ ha

  items_other : items_of u q k ≡ fs
  items_other = ap (entries_at q.nodes) root_other ∙ hb

  pub both : Both t p u q n k es fs
  both = record {
    forest = planted t p u q (n ∷ k ∷ []) ps f altered
        (subst (Standing q.nodes) (sym root_one) sa, (subst (Standing q.nodes) (sym root_other) sb, tt)) (
          ap (λ g. g n) w.size ∙ with_first (size_of t) x y ∙ lx ∙ ap length (sym items_one),
          (ap (λ g. g k) w.size ∙ with_same (with_at (size_of t) n x) k y k refl ∙ ly ∙ ap length (sym items_other), tt),
        )
        (λ m. omega (arith, two_moved t p u q (n ∷ k ∷ []) ps f altered n k refl i j ne m, f.shared m, own m, new m, ap (times m) same, ap (λ z. times m (places_at q.nodes z)) root_one, ap (λ z. times m (places_at q.nodes z)) root_other));
    kept = kept_but t p u q (n ∷ k ∷ []) ps f altered;
    one = items_one;
    other = items_other;
  }
