-- A merge, as the rules say: two buckets' entries under the first, and the second is no more.
use Rattle.std.proofs.Common.{◌≡◌, ℕ, ◌+◌, ◌<◌, true, List, [], ◌∷◌, ◌++◌, map, length, take, drop, sym, refl, ap, ◌∙◌, subst, arith}
use Rattle.std.specs.List.{flat_map, AllByRecursion}
use Rattle.std.proofs.lemmas.List.{append_assoc}
use Rattle.dictionary.specs.Pairs.{among}
use Rattle.levels.specs.Counts.{turning}
use Rattle.links.specs.Orders.{without, Rising}
use Rattle.links.proofs.Orders.{Not, all_among, cut_without, rising_below, rising_parts}
use Rattle.trees.proofs.Pools.{places_long}
use Rattle.buckets.specs.declared.Table.{Table}
use Rattle.buckets.specs.Tables.{rep_of, size_of, root_of, order_of, Shows}
use Rattle.trees.specs.Trees.{Tree, entries, places}
use Rattle.trees.specs.Pools.{tree_at, Standing}
use Rattle.avl.specs.declared.pool.Pool.{Pool}
use Rattle.avl.specs.Spares.{free, Shared}
use Rattle.forest.specs.Forests.{tree_of, items_of, places_of, row_of, Forest, United}
use Rattle.rules.specs.Buckets.{Bucket, hollow, reps, here}
use Rattle.rules.specs.Changes.{merged, join_at}
use Rattle.rows.specs.Rows.{bucket}
use Rattle.rows.proofs.Cuts.{at_cut, ahead_cut, splice_cut}
use Rattle.rows.proofs.Places.{row_reps}
use Rattle.trie.specs.Sound.{reps_of}
use Rattle.inside.proofs.Splits.{same_bucket, among_left, among_right, all_in}

-- a number whose part is empty, taken out of the middle
joined_out : {X : Type 0} (f : ℕ → List X) (m : ℕ) (pre post : List ℕ) → f m ≡ [] → flat_map f (pre ++ m ∷ post) ≡ flat_map f (pre ++ post)
joined_out f m [] post z = ap (λ l. l ++ flat_map f post) z
joined_out f m (x ∷ pre) post z = ap (λ l. f x ++ l) (joined_out f m pre post z)

all_out : (P : ℕ → Type 0) (m : ℕ) (pre post : List ℕ) → AllByRecursion P (pre ++ m ∷ post) → AllByRecursion P (pre ++ post)
all_out P m [] post a = a.1
all_out P m (x ∷ pre) post a = (a.0, all_out P m pre post a.1)

empty_long : (xs : List ℕ) → length xs ≡ 0 → xs ≡ []
empty_long [] e = refl
empty_long (x ∷ xs) e = absurd (omega (arith, e))

places_none : (t : Tree) → entries t ≡ [] → places t ≡ []
places_none t e = empty_long (places t) (places_long t ∙ ap length e)

module _ (t u v : Table) (p q : Pool) (n m : ℕ) (pre post : List ℕ) (cut : order_of t ≡ pre ++ n ∷ m ∷ post) (rises : Rising (rep_of t) (order_of t))
    (fu : Forest u q) (un : United t p u q n m) (sh : Shows v (without m (order_of u)) (rep_of u) (size_of u) (root_of u)) where
  front_is : pre ++ n ∷ m ∷ post ≡ (pre ++ n ∷ []) ++ m ∷ post
  front_is = sym (append_assoc pre (n ∷ []) (m ∷ post))

  order_u : order_of u ≡ (pre ++ n ∷ []) ++ m ∷ post
  order_u = un.kept.order ∙ (cut ∙ front_is)

  pub order_v : order_of v ≡ pre ++ n ∷ post
  order_v =
      sh.order ∙ (ap (without m) order_u
      ∙ (cut_without (rep_of t) m (pre ++ n ∷ []) post (subst (Rising (rep_of t)) (cut ∙ front_is) rises) ∙ append_assoc pre (n ∷ []) post))

  tree_v : (x : ℕ) → tree_of v q x ≡ tree_of u q x
  tree_v x = ap (λ g. tree_at q.nodes (g x)) sh.root

  pub forest_v : Forest v q
  forest_v =
      let out : (P : ℕ → Type 0) → AllByRecursion P (order_of u) → AllByRecursion P (order_of v) = λ P a. subst (AllByRecursion P) (sym (order_v ∙ sym (append_assoc pre (n ∷ []) post))) (all_out P m (pre ++ n ∷ []) post (subst (AllByRecursion P) order_u a)) in
      record {
        trees = subst (λ (g : ℕ → ℕ). AllByRecursion (λ x. Standing q.nodes (g x)) (order_of v)) (sym sh.root) (out (λ x. Standing q.nodes (root_of u x)) fu.trees);
        sizes =
            subst (λ (h : ℕ → ℕ). AllByRecursion (λ x. h x ≡ length (items_of v q x)) (order_of v)) (sym sh.size)
            (subst (λ (g : ℕ → ℕ). AllByRecursion (λ x. size_of u x ≡ length (entries (tree_at q.nodes (g x)))) (order_of v)) (sym sh.root)
            (out (λ x. size_of u x ≡ length (items_of u q x)) fu.sizes));
        shared = subst (λ l. Shared l (free q)) (sym
            (ap (λ (g : ℕ → ℕ). flat_map (λ x. places (tree_at q.nodes (g x))) (order_of v)) sh.root
            ∙ (ap (flat_map (places_of u q)) (order_v ∙ sym (append_assoc pre (n ∷ []) post))
            ∙ (sym (joined_out (places_of u q) m (pre ++ n ∷ []) post (places_none (tree_of u q m) un.none))
            ∙ ap (flat_map (places_of u q)) (sym order_u))))) fu.shared;
      }

  -- ---- the row of buckets
  abbrev old : ℕ → Bucket
  old = bucket (rep_of t) (items_of t p)

  abbrev now_is : ℕ → Bucket
  now_is = bucket (rep_of v) (items_of v q)

  rep_v : rep_of v ≡ rep_of t
  rep_v = sh.rep ∙ un.kept.rep

  below : AllByRecursion (λ x. rep_of t x < rep_of t n) pre
  below = rising_below (rep_of t) pre n (m ∷ post) (subst (Rising (rep_of t)) cut rises)

  above : AllByRecursion (λ x. rep_of t n < rep_of t x) (m ∷ post)
  above = (rising_parts (rep_of t) pre (n ∷ m ∷ post) (subst (Rising (rep_of t)) cut rises)).1.0

  higher : AllByRecursion (λ x. rep_of t m < rep_of t x) post
  higher = (rising_parts (rep_of t) pre (n ∷ m ∷ post) (subst (Rising (rep_of t)) cut rises)).1.1.0

  kept_one : (x : ℕ) → among x (order_of t) ≡ true → Not n x → Not m x → now_is x ≡ old x
  kept_one x o a b = same_bucket (now_is x) (old x) (ap (λ g. g x) rep_v) (ap entries (tree_v x ∙ un.kept.others x o (a, (b, tt))))

  kept_pre : AllByRecursion (λ x. now_is x ≡ old x) pre
  kept_pre = all_in (λ x. now_is x ≡ old x) pre (λ x h.
      let l = all_among (λ y. rep_of t y < rep_of t n) pre x below h in
      kept_one x (subst (λ o. among x o ≡ true) (sym cut) (among_left x pre (n ∷ m ∷ post) h))
      (λ e. omega (arith, ap (rep_of t) e)) (λ e. omega (arith, ap (rep_of t) e, above.0)))

  kept_post : AllByRecursion (λ x. now_is x ≡ old x) post
  kept_post = all_in (λ x. now_is x ≡ old x) post (λ x h.
      let l = all_among (λ y. rep_of t n < rep_of t y) post x above.1 h in
      let k = all_among (λ y. rep_of t m < rep_of t y) post x higher h in
      kept_one x (subst (λ o. among x o ≡ true) (sym cut) (among_right x pre (n ∷ m ∷ post) (among_right x (n ∷ m ∷ []) post h)))
      (λ e. omega (arith, ap (rep_of t) e)) (λ e. omega (arith, ap (rep_of t) e)))

  here_left : here (length pre) (row_of t p) ≡ old n
  here_left = ap (λ l. here (length pre) (map old l)) cut ∙ at_cut old hollow pre n (m ∷ post)

  pub here_right : here (length pre + 1) (row_of t p) ≡ old m
  here_right = ap (λ l. here (length pre + 1) (map old l)) cut ∙ ahead_cut old hollow pre n (m ∷ post)

  one_is : now_is n ≡ merged (old n) (old m)
  one_is = same_bucket (now_is n) (merged (old n) (old m)) (ap (λ g. g n) rep_v) (ap entries (tree_v n) ∙ un.all)

  pub row_merged : (w : ℕ) → row_of v q ≡ (join_at w (length pre) (row_of t p)).after
  unfolding join_at
  row_merged w =
      ap (map now_is) order_v
      ∙ (splice_cut old now_is pre (n ∷ m ∷ []) (n ∷ []) post kept_pre kept_post
      ∙ (ap (λ (l : List ℕ). take (length pre) (map old l) ++ (map now_is (n ∷ []) ++ drop (length pre + 2) (map old l))) (sym cut)
      ∙ ap (λ (b : Bucket). take (length pre) (row_of t p) ++ ((b ∷ []) ++ drop (length pre + 2) (row_of t p)))
      (one_is ∙ (ap (λ b. merged b (old m)) (sym here_left) ∙ ap (merged (here (length pre) (row_of t p))) (sym here_right)))))

  pub frames_merged : (w : ℕ) → turning w (reps_of u) (rep_of u m) ≡ (join_at w (length pre) (row_of t p)).frames
  unfolding join_at
  frames_merged w =
      ap (λ (g : ℕ → ℕ). turning w (map g (order_of u)) (g m)) un.kept.rep
      ∙ (ap (λ (o : List ℕ). turning w (map (rep_of t) o) (rep_of t m)) un.kept.order
      ∙ (ap (λ l. turning w l (rep_of t m)) (sym (row_reps (rep_of t) (items_of t p) (order_of t)))
      ∙ ap (λ (b : Bucket). turning w (reps (row_of t p)) b.rep) (sym here_right)))
