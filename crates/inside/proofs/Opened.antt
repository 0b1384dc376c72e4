-- A bucket opened behind another: it has no tree yet, and all others are as they were.
use Rattle.std.proofs.Common.{◌≡◌, ℕ, false, eqb, List, [], ◌∷◌, ◌++◌, length, sym, refl, ap, ◌∙◌, subst, arith}
use Rattle.std.specs.List.{flat_map, AllByRecursion}
use Rattle.std.proofs.lemmas.Bool.{cond-true, cond-false, ne_eqb, eq-eqb}
use Rattle.dictionary.specs.Pairs.{among}
use Rattle.links.specs.Orders.{with_at, put_after}
use Rattle.links.proofs.Orders.{Not, with_same, with_other, apart_all}
use Rattle.buckets.specs.declared.Table.{Table}
use Rattle.buckets.specs.Tables.{rep_of, size_of, root_of, order_of, no_tree, Shows}
use Rattle.trees.specs.Trees.{leaf, entries, places}
use Rattle.trees.specs.Pools.{tree_at, Standing}
use Rattle.trees.proofs.Pools.{end_is, standing_none}
use Rattle.avl.specs.declared.pool.Pool.{Pool}
use Rattle.avl.specs.Spares.{free, Shared}
use Rattle.forest.specs.Forests.{tree_of, items_of, places_of, Forest}

pub put_behind : (n m : ℕ) (pre post : List ℕ) → AllByRecursion (Not n) pre → put_after n m (pre ++ n ∷ post) ≡ pre ++ n ∷ m ∷ post
put_behind n m [] post a = cond-true (eqb n n) _ _ (eq-eqb n n refl)
put_behind n m (x ∷ pre) post a = cond-false (eqb x n) _ _ (ne_eqb x n a.0) ∙ ap (λ l. x ∷ l) (put_behind n m pre post a.1)

all_on : (P Q : ℕ → Type 0) (m : ℕ) (xs : List ℕ) → ((x : ℕ) → Not m x → P x → Q x) → AllByRecursion (Not m) xs → AllByRecursion P xs → AllByRecursion Q xs
all_on P Q m [] g o a = tt
all_on P Q m (x ∷ xs) g o a = (g x o.0 a.0, all_on P Q m xs g o.1 a.1)

all_insert : (P Q : ℕ → Type 0) (n m : ℕ) (pre post : List ℕ) → ((x : ℕ) → Not m x → P x → Q x) → AllByRecursion (Not m) (pre ++ n ∷ post) → AllByRecursion P (pre ++ n ∷ post) → Q m → AllByRecursion Q (pre ++ n ∷ m ∷ post)
all_insert P Q n m [] post g o a q = (g n o.0 a.0, (q, all_on P Q m post g o.1 a.1))
all_insert P Q n m (x ∷ pre) post g o a q = (g x o.0 a.0, all_insert P Q n m pre post g o.1 a.1 q)

joined_on : {X : Type 0} (f g : ℕ → List X) (m : ℕ) (xs : List ℕ) → ((x : ℕ) → Not m x → g x ≡ f x) → AllByRecursion (Not m) xs → flat_map g xs ≡ flat_map f xs
joined_on f g m [] e o = refl
joined_on f g m (x ∷ xs) e o = ap (λ l. l ++ flat_map g xs) (e x o.0) ∙ ap (λ l. f x ++ l) (joined_on f g m xs e o.1)

joined_insert : {X : Type 0} (f g : ℕ → List X) (n m : ℕ) (pre post : List ℕ) → ((x : ℕ) → Not m x → g x ≡ f x) → AllByRecursion (Not m) (pre ++ n ∷ post) → g m ≡ [] → flat_map g (pre ++ n ∷ m ∷ post) ≡ flat_map f (pre ++ n ∷ post)
joined_insert f g n m [] post e o z = ap (λ l. l ++ (g m ++ flat_map g post)) (e n o.0) ∙ ap (λ l. f n ++ l) (ap (λ l. l ++ flat_map g post) z ∙ joined_on f g m post e o.1)
joined_insert f g n m (x ∷ pre) post e o z = ap (λ l. l ++ flat_map g (pre ++ n ∷ m ∷ post)) (e x o.0) ∙ ap (λ l. f x ++ l) (joined_insert f g n m pre post e o.1 z)

-- the table u after the bucket m was opened behind n
module _ (t u : Table) (p : Pool) (n m r : ℕ) (pre post : List ℕ) (fo : Forest t p) (cut : order_of t ≡ pre ++ n ∷ post) (before : AllByRecursion (Not n) pre)
    (new : among m (order_of t) ≡ false) (sh : Shows u (put_after n m (order_of t)) (with_at (rep_of t) m r) (with_at (size_of t) m 0) (with_at (root_of t) m no_tree)) where
  pub order_opened : order_of u ≡ pre ++ n ∷ m ∷ post
  order_opened = sh.order ∙ (ap (put_after n m) cut ∙ put_behind n m pre post before)

  others_not : AllByRecursion (Not m) (pre ++ n ∷ post)
  others_not = subst (AllByRecursion (Not m)) cut (apart_all m (order_of t) new)

  root_other : (x : ℕ) → Not m x → root_of u x ≡ root_of t x
  root_other x o = ap (λ g. g x) sh.root ∙ with_other (root_of t) m no_tree x o

  pub tree_other : (x : ℕ) → Not m x → tree_of u p x ≡ tree_of t p x
  tree_other x o = ap (tree_at p.nodes) (root_other x o)

  pub tree_new : tree_of u p m ≡ leaf
  tree_new = end_is p.nodes (root_of u m) (ap (λ g. g m) sh.root ∙ with_same (root_of t) m no_tree m refl)

  pub rep_other : (x : ℕ) → Not m x → rep_of u x ≡ rep_of t x
  rep_other x o = ap (λ g. g x) sh.rep ∙ with_other (rep_of t) m r x o

  pub rep_new : rep_of u m ≡ r
  rep_new = ap (λ g. g m) sh.rep ∙ with_same (rep_of t) m r m refl

  size_other : (x : ℕ) → Not m x → size_of u x ≡ size_of t x
  size_other x o = ap (λ g. g x) sh.size ∙ with_other (size_of t) m 0 x o

  size_new : size_of u m ≡ 0
  size_new = ap (λ g. g m) sh.size ∙ with_same (size_of t) m 0 m refl

  pub forest_opened : Forest u p
  forest_opened = record {
    trees = subst (AllByRecursion (λ x. Standing p.nodes (root_of u x))) (sym order_opened)
        (all_insert (λ x. Standing p.nodes (root_of t x)) (λ x. Standing p.nodes (root_of u x)) n m pre post
        (λ x o s. subst (Standing p.nodes) (sym (root_other x o)) s) others_not (subst (AllByRecursion (λ x. Standing p.nodes (root_of t x))) cut fo.trees)
        (subst (Standing p.nodes) (sym (ap (λ g. g m) sh.root ∙ with_same (root_of t) m no_tree m refl)) (standing_none p.nodes (omega (arith, p.whole)))));
    sizes = subst (AllByRecursion (λ x. size_of u x ≡ length (items_of u p x))) (sym order_opened)
        (all_insert (λ x. size_of t x ≡ length (items_of t p x)) (λ x. size_of u x ≡ length (items_of u p x)) n m pre post
        (λ x o s. size_other x o ∙ (s ∙ ap (λ v. length (entries v)) (sym (tree_other x o)))) others_not (subst (AllByRecursion (λ x. size_of t x ≡ length (items_of t p x))) cut fo.sizes)
        (size_new ∙ ap (λ v. length (entries v)) (sym tree_new)));
    shared = subst (λ l. Shared l (free p)) (sym
        (ap (flat_map (places_of u p)) order_opened
        ∙ (joined_insert (places_of t p) (places_of u p) n m pre post (λ x o. ap places (tree_other x o)) others_not (ap places tree_new)
        ∙ ap (flat_map (places_of t p)) (sym cut)))) fo.shared;
  }
