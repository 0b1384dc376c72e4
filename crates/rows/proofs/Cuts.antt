-- What a function gives over an order of numbers, cut at one of them.
--
--   at_cut, ahead_cut, back_cut   what stands at the number's place, behind it, before it
--   set_cut                       one number's value replaced
--   split-cut                     a number put in behind it, and its own value replaced
--   join-cut                      the number behind it taken out, and its own value replaced
--   take_cut, drop_cut            the part before it; the part from it on
use Rattle.std.proofs.Common.{◌≡◌, ℕ, suc, ◌+◌, List, [], ◌∷◌, ◌++◌, map, length, get_or, take, drop, set, sym, refl, ap, ◌∙◌, subst, arith}
use Rattle.std.specs.List.{AllByRecursion}
use Rattle.links.specs.Orders.{last_from}
use Rattle.rows.specs.Rows.{ahead}

module _ {X : Type 0} (f : ℕ → X) where
  pub map_append : (xs ys : List ℕ) → map f (xs ++ ys) ≡ map f xs ++ map f ys
  map_append [] ys = refl
  map_append (x ∷ xs) ys = ap (λ l. f x ∷ l) (map_append xs ys)

  pub at_cut : (d : X) (pre : List ℕ) (n : ℕ) (post : List ℕ) → get_or (map f (pre ++ n ∷ post)) (length pre) d ≡ f n
  at_cut d [] n post = refl
  at_cut d (x ∷ pre) n post = at_cut d pre n post

  pub ahead_cut : (d : X) (pre : List ℕ) (n : ℕ) (post : List ℕ) → get_or (map f (pre ++ n ∷ post)) (length pre + 1) d ≡ ahead d f post
  ahead_cut d [] n [] = refl
  ahead_cut d [] n (y ∷ post) = refl
  ahead_cut d (x ∷ pre) n post =
      let e : suc (length pre + 1) ≡ suc (length pre) + 1 = omega arith in
      subst (λ i. get_or (map f (x ∷ pre ++ n ∷ post)) i d ≡ ahead d f post) e (ahead_cut d pre n post)

  pub back_cut : (d : X) (x : ℕ) (pre : List ℕ) (r : List ℕ) → get_or (map f (x ∷ pre ++ r)) (length pre) d ≡ f (last_from x pre)
  back_cut d x [] r = refl
  back_cut d x (y ∷ pre) r = back_cut d y pre r

  pub take_cut : (pre : List ℕ) (r : List ℕ) → take (length pre) (map f (pre ++ r)) ≡ map f pre
  take_cut [] r = refl
  take_cut (x ∷ pre) r = ap (λ l. f x ∷ l) (take_cut pre r)

  pub drop_cut : (pre : List ℕ) (r : List ℕ) → drop (length pre) (map f (pre ++ r)) ≡ map f r
  drop_cut [] r = refl
  drop_cut (x ∷ pre) r = drop_cut pre r

  -- past some more numbers
  pub drop_past : (pre mid r : List ℕ) → drop (length pre + length mid) (map f (pre ++ (mid ++ r))) ≡ map f r
  drop_past [] mid r =
      let e : length mid ≡ 0 + length mid = omega arith in
      subst (λ i. drop i (map f (mid ++ r)) ≡ map f r) e (drop_cut mid r)
  drop_past (x ∷ pre) mid r =
      let e : suc (length pre + length mid) ≡ suc (length pre) + length mid = omega arith in
      subst (λ i. drop i (map f (x ∷ pre ++ (mid ++ r))) ≡ map f r) e (drop_past pre mid r)

pub map_same : {X : Type 0} (f g : ℕ → X) (xs : List ℕ) → AllByRecursion (λ x. g x ≡ f x) xs → map g xs ≡ map f xs
map_same f g [] a = refl
map_same f g (x ∷ xs) a = ap (λ y. y ∷ map g xs) a.0 ∙ ap (λ l. f x ∷ l) (map_same f g xs a.1)

module _ {X : Type 0} (f g : ℕ → X) where
  pub set_cut : (pre : List ℕ) (n : ℕ) (post : List ℕ) → AllByRecursion (λ x. g x ≡ f x) pre → AllByRecursion (λ x. g x ≡ f x) post →
      map g (pre ++ n ∷ post) ≡ set (map f (pre ++ n ∷ post)) (length pre) (g n)
  set_cut [] n post a b = ap (λ l. g n ∷ l) (map_same f g post b)
  set_cut (x ∷ pre) n post a b = ap (λ y. y ∷ map g (pre ++ n ∷ post)) a.0 ∙ ap (λ l. f x ∷ l) (set_cut pre n post a.1 b)

  -- some numbers in the middle make way for others
  pub splice_cut : (pre mid new post : List ℕ) → AllByRecursion (λ x. g x ≡ f x) pre → AllByRecursion (λ x. g x ≡ f x) post →
      map g (pre ++ (new ++ post)) ≡ take (length pre) (map f (pre ++ (mid ++ post))) ++ (map g new ++ drop (length pre + length mid) (map f (pre ++ (mid ++ post))))
  splice_cut pre mid new post a b =
      map_append g pre (new ++ post)
      ∙ (ap (λ l. l ++ map g (new ++ post)) (map_same f g pre a ∙ sym (take_cut f pre (mid ++ post)))
      ∙ ap (λ l. take (length pre) (map f (pre ++ (mid ++ post))) ++ l)
      (map_append g new post ∙ ap (λ l. map g new ++ l) (map_same f g post b ∙ sym (drop_past f pre mid post))))
