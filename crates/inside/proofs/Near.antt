-- The bucket behind a bucket and the one before it, and what is found there.
use Rattle.std.proofs.Common.{◌≡◌, ℕ, ◌+◌, ◌<◌, ◌≤◌, Bool, true, false, cond, List, [], ◌∷◌, ◌++◌, is_some, Some, sym, refl, ap, ◌∙◌, subst, append-nil, arith}
use Rattle.std.specs.List.{AllByRecursion}
use Rattle.std.proofs.lemmas.Bool.{cond-true, cond-false}
use Rattle.dictionary.specs.Pairs.{among}
use Rattle.entry.specs.declared.Entry.{Entry}
use Rattle.entry.specs.Lists.{from, upto, filled}
use Rattle.entry.proofs.Filters.{final_append}
use Rattle.links.specs.Orders.{Behind, Before}
use Rattle.links.proofs.Orders.{Not, all_among, all_parts}
use Rattle.avl.specs.declared.pool.Pool.{Pool}
use Rattle.buckets.specs.declared.Table.{Table}
use Rattle.buckets.specs.Tables.{next_of, prev_of, root_of, rest_of, order_of}
use Rattle.buckets.proofs.Chains.{next_all, prev_all}
use Rattle.buckets.proofs.Lays.{order_is, neighbours, later}
use Rattle.buckets.proofs.Onwards.{order_not_zero, later_not_zero}
use Rattle.forest.specs.Forests.{Forest, tree_of, items_of}
use Rattle.rows.specs.Rows.{ahead, back}
use Rattle.trees.specs.declared.Found.{Found}
use Rattle.trees.specs.Trees.{leaf, tall, seen, low_way, high_way}
use Rattle.trees.specs.Pools.{Standing, tree_at, entries_at}
use Rattle.trees.specs.Answers.{Saw, foremost, hindmost}
use Rattle.trees.proofs.Pools.{low}
use Rattle.inside.specs.Near.{Above, Below}

-- ---- neighbours
module _ (t : Table) where
  -- what holds of each bucket holds of a neighbour
  pub next_has : (P : ℕ → Type 0) (n : ℕ) → among n (order_of t) ≡ true → AllByRecursion P (order_of t) → P (next_of t n)
  next_has P n held a =
      let b = subst (AllByRecursion P) (order_is t) a in
      next_all (next_of t) (prev_of t) P n 0 (rest_of t) 0 t.stands.ring (sym (ap (among n) (order_is t)) ∙ held) b.1 b.0

  pub prev_has : (P : ℕ → Type 0) (n : ℕ) → among n (order_of t) ≡ true → 0 < n → AllByRecursion P (order_of t) → P (prev_of t n)
  prev_has P n held h a =
      let b = subst (AllByRecursion P) (order_is t) a in
      prev_all (next_of t) (prev_of t) P n 0 (rest_of t) 0 t.stands.ring (later t n h held) b.0 b.1

  module _ (pre : List ℕ) (n : ℕ) (post : List ℕ) (is : order_of t ≡ pre ++ n ∷ post) where
    cut_is : 0 ∷ rest_of t ≡ pre ++ n ∷ post
    cut_is = sym (order_is t) ∙ is

    -- nothing is behind where the next number is 0, and otherwise that number is
    pub none_behind : next_of t n ≡ 0 → post ≡ []
    none_behind z = go post (neighbours t pre n post is).1 (later_not_zero t pre n post is)
      where
        go : (ys : List ℕ) → Behind ys (next_of t n) → AllByRecursion (Not 0) ys → ys ≡ []
        go [] b a = refl
        go (y ∷ ys) b a = absurd (a.0 (sym b ∙ z))

    pub some_behind : (next_of t n ≡ 0 → ⊥) → {X : Type 0} (d : X) (f : ℕ → X) → ahead d f post ≡ f (next_of t n)
    some_behind z d f = go post (neighbours t pre n post is).1
      where
        go : (ys : List ℕ) → Behind ys (next_of t n) → ahead d f ys ≡ f (next_of t n)
        go [] b = absurd (z b)
        go (y ∷ ys) b = ap f (sym b)

    -- nothing is before number 0
    pub none_before : n ≡ 0 → pre ≡ []
    none_before z = go pre cut_is
      where
        go : (xs : List ℕ) → 0 ∷ rest_of t ≡ xs ++ n ∷ post → xs ≡ []
        go [] e = refl
        go (x ∷ xs) e = let q : rest_of t ≡ xs ++ n ∷ post = cc in absurd ((all_parts (Not 0) xs (n ∷ post) (subst (AllByRecursion (Not 0)) q (order_not_zero t))).1.0 z)

    pub some_before : 0 < n → {X : Type 0} (d : X) (f : ℕ → X) → back d f pre ≡ f (prev_of t n)
    some_before h d f = go pre cut_is (neighbours t pre n post is).0
      where
        go : (xs : List ℕ) → 0 ∷ rest_of t ≡ xs ++ n ∷ post → Before xs (prev_of t n) → back d f xs ≡ f (prev_of t n)
        go [] e b = absurd (let q : 0 ≡ n = cc in omega arith)
        go (x ∷ xs) e b = ap f (sym b)

-- ---- lists with an entry or without
filled_first : (xs : List Entry) → is_some (foremost xs) ≡ filled xs
filled_first [] = refl
filled_first (x ∷ xs) = refl

filled_last : (xs : List Entry) → is_some (hindmost xs) ≡ filled xs
filled_last [] = refl
filled_last (x ∷ xs) = refl

front_first : (xs ys : List Entry) → filled xs ≡ true → foremost xs ≡ foremost (xs ++ ys)
front_first [] ys h = absurd (let z : ◌≡◌ {A = ℕ} 0 1 = cc in omega arith)
front_first (x ∷ xs) ys h = refl

front_none : (xs ys : List Entry) → filled xs ≡ false → foremost ys ≡ foremost (xs ++ ys)
front_none [] ys h = refl
front_none (x ∷ xs) ys h = absurd (let z : ◌≡◌ {A = ℕ} 0 1 = cc in omega arith)

filled_rear : (ys : List Entry) (x : Entry) (xs : List Entry) → filled (ys ++ x ∷ xs) ≡ true
filled_rear [] x xs = refl
filled_rear (y ∷ ys) x xs = refl

rear_first : (ys xs : List Entry) → filled xs ≡ true → hindmost xs ≡ hindmost (ys ++ xs)
rear_first ys [] h = absurd (let z : ◌≡◌ {A = ℕ} 0 1 = cc in omega arith)
rear_first ys (x ∷ xs) h = sym (cond-true _ _ _ (filled_rear ys x xs) ∙ ap Some (final_append ys x xs))

rear_none : (ys xs : List Entry) → filled xs ≡ false → hindmost ys ≡ hindmost (ys ++ xs)
rear_none ys [] h = ap hindmost (sym (append-nil ys))
rear_none ys (x ∷ xs) h = absurd (let z : ◌≡◌ {A = ℕ} 0 1 = cc in omega arith)

nothing_else : (b : Bool) → ◌≡◌ {A = ℕ} (cond b 0 0) 0
nothing_else true = refl
nothing_else false = refl

-- ---- trees of a forest
module _ (t : Table) (p : Pool) (fo : Forest t p) (n : ℕ) (held : among n (order_of t) ≡ true) where
  pub here_stands : (r : ℕ) → r ≡ root_of t n → Standing p.nodes r
  here_stands r e = subst (Standing p.nodes) (sym e) (all_among (λ m. Standing p.nodes (root_of t m)) (order_of t) n fo.trees held)

  pub next_stands : (m r : ℕ) → m ≡ next_of t n → r ≡ root_of t m → Standing p.nodes r
  next_stands m r em e = subst (Standing p.nodes) (sym (e ∙ ap (root_of t) em)) (next_has t (λ m. Standing p.nodes (root_of t m)) n held fo.trees)

  pub prev_stands : (m r : ℕ) → 0 < n → m ≡ prev_of t n → r ≡ root_of t m → Standing p.nodes r
  prev_stands m r h em e = subst (Standing p.nodes) (sym (e ∙ ap (root_of t) em)) (prev_has t (λ m. Standing p.nodes (root_of t m)) n held h fo.trees)

-- the visits of two trees fit
pub few_visits : (p : Pool) (r₁ r₂ v₁ v₂ : ℕ) → Standing p.nodes r₁ → Standing p.nodes r₂ → v₁ ≤ tall (tree_at p.nodes r₁) → v₂ ≤ tall (tree_at p.nodes r₂) → v₁ + v₂ ≤ 24
few_visits p r₁ r₂ v₁ v₂ s₁ s₂ h₁ h₂ = omega (arith, low p.nodes r₁ _ s₁, low p.nodes r₂ _ s₂)

-- ---- the entry near a key
module _ (t : Table) (p : Pool) (fo : Forest t p) (n k : ℕ) (pre post : List ℕ) (is : order_of t ≡ pre ++ n ∷ post) where
  abbrev HereAbove : Found → ℕ → Type 0
  HereAbove h r = Saw h (foremost (from k (entries_at p.nodes r))) (seen k (tree_at p.nodes r)) (tree_at p.nodes r)

  abbrev HereBelow : Found → ℕ → Type 0
  HereBelow h r = Saw h (hindmost (upto k (entries_at p.nodes r))) (seen k (tree_at p.nodes r)) (tree_at p.nodes r)

  pub above_here : (h : Found) (r : ℕ) → r ≡ root_of t n → HereAbove h r → is_some h.entry ≡ true → Above h t p n k post
  above_here h r e w some =
      let xs = from k (items_of t p n) in
      let v = subst (HereAbove h) e w in
      let f : filled xs ≡ true = sym (filled_first xs) ∙ (sym (ap is_some v.entry) ∙ some) in
      record { entry = v.entry ∙ front_first xs _ f; visits = omega (arith, v.visits, cond-true (filled xs) 0 (low_way (ahead leaf (tree_of t p) post)) f) }

  pub above_end : (h : Found) (r m : ℕ) → r ≡ root_of t n → HereAbove h r → m ≡ next_of t n → m ≡ 0 → Above h t p n k post
  above_end h r m e w em z =
      let xs = from k (items_of t p n) in
      let v = subst (HereAbove h) e w in
      subst (Above h t p n k) (sym (none_behind t pre n post is (sym em ∙ z)))
      (record { entry = v.entry ∙ ap foremost (sym (append-nil xs)); visits = omega (arith, v.visits, nothing_else (filled xs)) })

  pub above_there : (h g : Found) (r m q : ℕ) → r ≡ root_of t n → HereAbove h r → is_some h.entry ≡ false → m ≡ next_of t n → (m ≡ 0 → ⊥) →
      q ≡ root_of t m → Saw g (foremost (entries_at p.nodes q)) (low_way (tree_at p.nodes q)) (tree_at p.nodes q) →
      Above (record { entry = g.entry; visits = h.visits + g.visits }) t p n k post
  above_there h g r m q e w none em z eq u =
      let xs = from k (items_of t p n) in
      let v = subst (HereAbove h) e w in
      let f : filled xs ≡ false = sym (filled_first xs) ∙ (sym (ap is_some v.entry) ∙ none) in
      let at : q ≡ root_of t (next_of t n) = eq ∙ ap (root_of t) em in
      let y = subst (λ r. Saw g (foremost (entries_at p.nodes r)) (low_way (tree_at p.nodes r)) (tree_at p.nodes r)) at u in
      let there : next_of t n ≡ 0 → ⊥ = λ e. z (em ∙ e) in
      record {
        entry = y.entry ∙ (ap foremost (sym (some_behind t pre n post is there [] (items_of t p))) ∙ front_none xs _ f);
        visits = omega (arith, v.visits, y.visits, ap low_way (some_behind t pre n post is there leaf (tree_of t p)), cond-false (filled xs) 0 (low_way (ahead leaf (tree_of t p) post)) f);
      }

  pub below_here : (h : Found) (r : ℕ) → r ≡ root_of t n → HereBelow h r → is_some h.entry ≡ true → Below h t p n k pre
  below_here h r e w some =
      let xs = upto k (items_of t p n) in
      let v = subst (HereBelow h) e w in
      let f : filled xs ≡ true = sym (filled_last xs) ∙ (sym (ap is_some v.entry) ∙ some) in
      record { entry = v.entry ∙ rear_first _ xs f; visits = omega (arith, v.visits, cond-true (filled xs) 0 (high_way (back leaf (tree_of t p) pre)) f) }

  pub below_end : (h : Found) (r : ℕ) → r ≡ root_of t n → HereBelow h r → n ≡ 0 → Below h t p n k pre
  below_end h r e w z =
      let xs = upto k (items_of t p n) in
      let v = subst (HereBelow h) e w in
      subst (Below h t p n k) (sym (none_before t pre n post is z))
      (record { entry = v.entry; visits = omega (arith, v.visits, nothing_else (filled xs)) })

  pub below_there : (h g : Found) (r m q : ℕ) → r ≡ root_of t n → HereBelow h r → is_some h.entry ≡ false → 0 < n → m ≡ prev_of t n →
      q ≡ root_of t m → Saw g (hindmost (entries_at p.nodes q)) (high_way (tree_at p.nodes q)) (tree_at p.nodes q) →
      Below (record { entry = g.entry; visits = h.visits + g.visits }) t p n k pre
  below_there h g r m q e w none z em eq u =
      let xs = upto k (items_of t p n) in
      let v = subst (HereBelow h) e w in
      let f : filled xs ≡ false = sym (filled_last xs) ∙ (sym (ap is_some v.entry) ∙ none) in
      let at : q ≡ root_of t (prev_of t n) = eq ∙ ap (root_of t) em in
      let y = subst (λ r. Saw g (hindmost (entries_at p.nodes r)) (high_way (tree_at p.nodes r)) (tree_at p.nodes r)) at u in
      record {
        entry = y.entry ∙ (ap hindmost (sym (some_before t pre n post is z [] (items_of t p))) ∙ rear_none _ xs f);
        visits = omega (arith, v.visits, y.visits, ap high_way (some_before t pre n post is z leaf (tree_of t p)), cond-false (filled xs) 0 (high_way (back leaf (tree_of t p) pre)) f);
      }
