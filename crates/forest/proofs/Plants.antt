-- A bucket's tree that gets or loses an entry.
--
--   moved_count, replanted  how often an index is in use, and the forest, after one bucket's tree was altered
--   grow_ready     a free node can go into a bucket's tree
--   grown          the forest after it did
--   shrink_ready, give_ready  an entry can leave a bucket's tree; its node is in no tree then
--   one_more, left it had one entry more; the indices in use then
--   shrunk         the forest after it did
use Rattle.std.proofs.Common.{◌≡◌, ℕ, ◌+◌, ◌-◌, ◌≤◌, true, cond, eqb, List, [], ◌∷◌, length, sym, refl, ap, ◌∙◌, subst, arith}
use Rattle.std.specs.List.{flat_map}
use Rattle.std.proofs.lemmas.Bool.{eq-eqb, ne_eqb, cond-true, cond-false}
use Rattle.dictionary.specs.Pairs.{among}
use Rattle.entry.specs.declared.Entry.{Entry}
use Rattle.entry.specs.Lists.{at, put, without, filled}
use Rattle.entry.proofs.Filters.{put_long, without_long}
use Rattle.links.specs.Orders.{with_at}
use Rattle.links.proofs.Orders.{with_same, with_other}
use Rattle.buckets.specs.declared.Table.{Table}
use Rattle.buckets.specs.Tables.{size_of, root_of, order_of}
use Rattle.buckets.proofs.Lays.{all_apart}
use Rattle.trees.specs.declared.Node.{Node}
use Rattle.trees.specs.Counts.{times}
use Rattle.trees.specs.Trees.{entries, places}
use Rattle.trees.specs.Pools.{tree_at, Standing, Kept}
use Rattle.avl.specs.declared.pool.Pool.{Pool}
use Rattle.avl.specs.declared.grow.Grown.{Grown}
use Rattle.avl.specs.declared.cut.Shrunk.{Shrunk}
use Rattle.avl.specs.Spares.{free, Shared, Lent}
use Rattle.avl.specs.Grows.{Fresh, Grew}
use Rattle.avl.specs.Cuts.{Held, Shrank}
use Rattle.forest.specs.Forests.{tree_of, items_of, places_of, used, Forest, Replanted}
use Rattle.forest.proofs.Shares as shares
use Rattle.forest.proofs.Shares.{part, two_parts}
use Rattle.forest.proofs.Alters.{at_most, stand, sized, Written, Altered, kept_but, planted, one_moved}

-- the root and the size of one bucket were written
module _ (t : Table) (p : Pool) (u : Table) (q : Pool) (n root size : ℕ) (ps : List ℕ) (f : Forest t p) (i : among n (order_of t) ≡ true)
    (w : Written t u (with_at (root_of t) n root) (with_at (size_of t) n size)) (k : Kept p.nodes q.nodes ps)
    (out : (x : ℕ) → among x (order_of t) ≡ true → (x ≡ n → ⊥) → (m : ℕ) → times m (places_of t p x) + times m ps ≤ 1)
    (s : Standing q.nodes root) (es : List Entry) (holds : entries (tree_at q.nodes root) ≡ es) (long : size ≡ length es) where
  altered : Altered t p u q (with_at (root_of t) n root) (with_at (size_of t) n size) (n ∷ []) ps
  altered = record {
    table = w;
    root_far = λ x h. with_other (root_of t) n root x h.0;
    size_far = λ x h. with_other (size_of t) n size x h.0;
    nodes = k;
    out = λ x a h. out x a h.0;
  }

  root_is : root_of u n ≡ root
  root_is = ap (λ g. g n) w.root ∙ with_same (root_of t) n root n refl

  items_are : items_of u q n ≡ es
  items_are = ap (λ z. entries (tree_at q.nodes z)) root_is ∙ holds

  size_is : size_of u n ≡ length (items_of u q n)
  size_is = ap (λ g. g n) w.size ∙ with_same (size_of t) n size n refl ∙ long ∙ ap length (sym items_are)

  moved_count : (m : ℕ) → times m (used u q) + times m (places_of t p n) ≡ times m (used t p) + times m (places (tree_at q.nodes root))
  moved_count m = omega (arith, one_moved t p u q (n ∷ []) ps f altered n refl i m, ap (λ z. times m (places (tree_at q.nodes z))) root_is)

  replanted : Shared (used u q) (free q) → Forest u q × Replanted t p u q n es
  replanted sh = (
    planted t p u q (n ∷ []) ps f altered (subst (Standing q.nodes) (sym root_is) s, tt) (size_is, tt) sh,
    record { kept = kept_but t p u q (n ∷ []) ps f altered; items = items_are },
  )

module _ (t : Table) (p o : Pool) (n fresh root : ℕ) (e : Entry) (f : Forest t p) (i : among n (order_of t) ≡ true)
    (new : at e.key (items_of t p n) ≡ []) (same : o.nodes ≡ p.nodes) (l : Lent (used t p) (free o) fresh) (is : root ≡ root_of t n) where
  pub grow_ready : Fresh o.nodes root fresh e.key
  grow_ready = subst (λ ns. Fresh ns root fresh e.key) (sym same) (subst (λ x. Fresh p.nodes x fresh e.key) (sym is) (record {
    stands = stand t p f n i;
    inside = omega (arith, p.whole, l.inside);
    free = omega (arith, l.new, part (places_of t p) fresh (order_of t) n i);
    new = new;
  }))

  module _ (u : Table) (q : Pool) (size : ℕ) (r : Grown) (kept : free q ≡ free o) (g : Grew o.nodes q.nodes r fresh e (tree_at o.nodes root) (tree_at q.nodes r.root))
      (w : Written t u (with_at (root_of t) n r.root) (with_at (size_of t) n size)) (more : size ≡ size_of t n + 1) where
    grew : Grew p.nodes q.nodes r fresh e (tree_of t p n) (tree_at q.nodes r.root)
    grew = subst (λ x. Grew p.nodes q.nodes r fresh e (tree_at p.nodes x) (tree_at q.nodes r.root)) is
        (subst (λ ns. Grew ns q.nodes r fresh e (tree_at ns root) (tree_at q.nodes r.root)) same g)

    pub grown : Forest u q × Replanted t p u q n (put e (items_of t p n))
    grown =
        let out : (x : ℕ) → among x (order_of t) ≡ true → (x ≡ n → ⊥) → (m : ℕ) → times m (places_of t p x) + times m (fresh ∷ places_of t p n) ≤ 1 =
        λ x a ne m. omega (arith, two_parts (places_of t p) m (order_of t) x n a i ne, l.shared m, at_most m) in
        let long : size ≡ length (put e (items_of t p n)) = omega (arith, more, sized t p f n i, put_long e (items_of t p n) new) in
        let count = moved_count t p u q n r.root size (fresh ∷ places_of t p n) f i w grew.kept out grew.stands (put e (items_of t p n)) grew.holds long in
        replanted t p u q n r.root size (fresh ∷ places_of t p n) f i w grew.kept out grew.stands (put e (items_of t p n)) grew.holds long
        (λ m. omega (arith, count m, grew.spots m, l.shared m, ap (times m) kept))

module _ (t : Table) (p : Pool) (n root key : ℕ) (f : Forest t p) (i : among n (order_of t) ≡ true)
    (held : filled (at key (items_of t p n)) ≡ true) (is : root ≡ root_of t n) where
  pub shrink_ready : Held p.nodes root key
  shrink_ready = subst (λ x. Held p.nodes x key) (sym is) (record { stands = stand t p f n i; held = held })

  module _ (ms : List Node) (r : Shrunk) (g : Shrank p.nodes ms r key (tree_at p.nodes root) (tree_at ms r.root)) where
    shrank : Shrank p.nodes ms r key (tree_of t p n) (tree_at ms r.root)
    shrank = subst (λ x. Shrank p.nodes ms r key (tree_at p.nodes x) (tree_at ms r.root)) is g

    pub one_more : size_of t n ≡ length (without key (items_of t p n)) + 1
    one_more = omega (arith, sized t p f n i, without_long key (items_of t p n), ap length shrank.held)

    pub left : List ℕ
    left = flat_map (λ x. cond (eqb x n) (places (tree_at ms r.root)) (places_of t p x)) (order_of t)

    left_count : (m : ℕ) → times m left + times m (places_of t p n) ≡ times m (used t p) + times m (places (tree_at ms r.root))
    unfolding left
    left_count m =
        let ps : List ℕ = places (tree_at ms r.root) in
        let G : ℕ → List ℕ = λ x. cond (eqb x n) ps (places_of t p x) in
        let c = shares.moved m (places_of t p) G (order_of t) n (all_apart t) i (λ x _ ne. ap (times m) (cond-false (eqb x n) ps (places_of t p x) (ne_eqb x n ne))) in
        omega (arith, c, ap (times m) (cond-true (eqb n n) ps (places_of t p n) (eq-eqb n n refl)))

    pub give_ready : Shared (r.gone ∷ left) (free p)
    give_ready m = omega (arith, left_count m, shrank.lost.spots m, f.shared m)

    module _ (u : Table) (q : Pool) (size : ℕ) (ends : q.nodes ≡ ms) (sh : Shared left (free q)) (w : Written t u (with_at (root_of t) n r.root) (with_at (size_of t) n size)) (fewer : size ≡ size_of t n - 1) where
      pub shrunk : Forest u q × Replanted t p u q n (without key (items_of t p n))
      shrunk =
          let ps : List ℕ = places (tree_at ms r.root) in
          let out : (x : ℕ) → among x (order_of t) ≡ true → (x ≡ n → ⊥) → (m : ℕ) → times m (places_of t p x) + times m ps ≤ 1 =
          λ x a ne m. omega (arith, two_parts (places_of t p) m (order_of t) x n a i ne, f.shared m, at_most m, shrank.lost.spots m) in
          let long : size ≡ length (without key (items_of t p n)) = omega (arith, fewer, one_more) in
          let k : Kept p.nodes q.nodes ps = subst (λ xs. Kept p.nodes xs ps) (sym ends) shrank.lost.kept in
          let s : Standing q.nodes r.root = subst (λ xs. Standing xs r.root) (sym ends) shrank.lost.stands in
          let h : entries (tree_at q.nodes r.root) ≡ without key (items_of t p n) = ap (λ xs. entries (tree_at xs r.root)) ends ∙ shrank.holds in
          let count = moved_count t p u q n r.root size ps f i w k out s (without key (items_of t p n)) h long in
          replanted t p u q n r.root size ps f i w k out s (without key (items_of t p n)) h long
          (λ m. omega (arith, count m, left_count m, sh m, ap (λ xs. times m (places (tree_at xs r.root))) ends))
