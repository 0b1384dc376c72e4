-- Orders and functions on their numbers: what lemmas on them share.
--
--   Not x                            to be another number than x
--   all_parts, all_both, all_among   a fact of two rows joined, two facts together, a fact of one of a row
--   further, apart_all, apart_parts  a number among a row, or apart from it
--   with_same, with_other            a function with one value replaced
--   rising_parts, rising_below       both parts of a rising row rise, and what stands before i is below it
--   rising_kept, ordered_without     what is kept of a rising row rises
--   Cut, cut, cut_at                 an order cut at a bucket in it, or at a place
--   cut_put, cut_without             with a bucket put in behind that one, and without that one
use Rattle.std.proofs.Common.{◌≡◌, ℕ, zero, suc, ◌<◌, Bool, true, false, not, ◌||◌, eqb, List, [], ◌∷◌, ◌++◌, length, get_or, filter, sym, refl, ap, ◌∙◌, subst, inl, inr, arith}
use Rattle.std.specs.List.{AllByRecursion}
use Rattle.std.proofs.lemmas.List.Elements.{filter-append}
use Rattle.std.proofs.ByRecursion.{all_kept_by}
use Rattle.std.proofs.lemmas.Bool.{cases_eq, eq-eqb, ne_eqb, eqb-false, cond-true, cond-false, cond_both, or_parts, and_parts, not-true, not_from_false, not_from_true, false≢true}
use Rattle.dictionary.specs.Pairs.{among, apart}
use Rattle.links.specs.Orders.{with_at, put_after, without, Rising, Ordered}

abbrev pub Not : ℕ → ℕ → Type 0
Not x m = m ≡ x → ⊥

pub with_same : (f : ℕ → ℕ) (i v n : ℕ) → n ≡ i → with_at f i v n ≡ v
with_same f i v n e = cond-true (eqb n i) v (f n) (eq-eqb n i e)

pub with_other : (f : ℕ → ℕ) (i v n : ℕ) → Not i n → with_at f i v n ≡ f n
with_other f i v n e = cond-false (eqb n i) v (f n) (ne_eqb n i e)

pub all_both : (P Q R : ℕ → Type 0) → ((x : ℕ) → P x → Q x → R x) → (xs : List ℕ) → AllByRecursion P xs → AllByRecursion Q xs → AllByRecursion R xs
all_both P Q R g [] a b = tt
all_both P Q R g (x ∷ xs) a b = (g x a.0 b.0, all_both P Q R g xs a.1 b.1)

pub further : (a x : ℕ) (ys : List ℕ) → Not x a → among a (x ∷ ys) ≡ true → among a ys ≡ true
further a x ys e t = sym (ap (λ b. b || among a ys) (ne_eqb a x e)) ∙ t

pub all_among : (P : ℕ → Type 0) (xs : List ℕ) (a : ℕ) → AllByRecursion P xs → among a xs ≡ true → P a
all_among P [] a all t = absurd (false≢true t)
all_among P (x ∷ xs) a all t = elim (cases_eq a x) [
  | inl e ↦ subst P (sym e) all.0
  | inr e ↦ all_among P xs a all.1 (further a x xs e t)
]

pub apart_all : (x : ℕ) (xs : List ℕ) → among x xs ≡ false → AllByRecursion (Not x) xs
apart_all x [] t = tt
apart_all x (y ∷ ys) t =
    let p = or_parts (eqb x y) (among x ys) t in
    ((λ e. eqb-false x y p.0 (sym e)), apart_all x ys p.1)

pub apart_parts : (x : ℕ) (xs : List ℕ) → apart (x ∷ xs) ≡ true → AllByRecursion (Not x) xs × (apart xs ≡ true)
apart_parts x xs t = let p = and_parts (not (among x xs)) (apart xs) t in (apart_all x xs (not-true _ p.0), p.1)

pub all_parts : (P : ℕ → Type 0) (xs ys : List ℕ) → AllByRecursion P (xs ++ ys) → AllByRecursion P xs × AllByRecursion P ys
all_parts P [] ys a = (tt, a)
all_parts P (x ∷ xs) ys a = let r = all_parts P xs ys a.1 in ((a.0, r.0), r.1)

pub rising_parts : (rep : ℕ → ℕ) (xs ys : List ℕ) → Rising rep (xs ++ ys) → Rising rep xs × Rising rep ys
rising_parts rep [] ys a = (tt, a)
rising_parts rep (x ∷ xs) ys a = let r = rising_parts rep xs ys a.1 in (((all_parts _ xs ys a.0).0, r.0), r.1)

pub rising_below : (rep : ℕ → ℕ) (xs : List ℕ) (i : ℕ) (ys : List ℕ) → Rising rep (xs ++ i ∷ ys) → AllByRecursion (λ x. rep x < rep i) xs
rising_below rep [] i ys a = tt
rising_below rep (x ∷ xs) i ys a = ((all_parts (λ y. rep x < rep y) xs (i ∷ ys) a.0).1.0, rising_below rep xs i ys a.1)

rising_kept : (rep : ℕ → ℕ) (t : ℕ → Bool) (xs : List ℕ) → Rising rep xs → Rising rep (filter t xs)
rising_kept rep t [] r = tt
rising_kept rep t (x ∷ xs) r =
    cond_both (t x) (x ∷ filter t xs) (filter t xs) (Rising rep) (λ _. (all_kept_by t _ xs r.0, rising_kept rep t xs r.1)) (λ _. rising_kept rep t xs r.1)

pub ordered_without : (w : ℕ) (rep : ℕ → ℕ) (order : List ℕ) (n : ℕ) → Ordered w rep order → Ordered w rep (without n order)
ordered_without w rep order n o = record { rises = rising_kept rep _ order o.rises; fits = all_kept_by _ _ order o.fits }

pub record Cut (order : List ℕ) (i : ℕ) : Type 0 where
  pub pre : List ℕ
  pub post : List ℕ
  pub is : order ≡ pre ++ i ∷ post

pub cut : (order : List ℕ) (i : ℕ) → among i order ≡ true → Cut order i
cut [] i t = absurd (false≢true t)
cut (x ∷ xs) i t = elim (cases_eq i x) [
  | inl e ↦ (record { pre = []; post = xs; is = ap (λ z. z ∷ xs) (sym e) })
  | inr e ↦ (
      let c = cut xs i (rw (ne_eqb i x e) at t) in
      record { pre = x ∷ c.pre; post = c.post; is = ap (λ z. x ∷ z) c.is })
]

-- the same by a place in the order
pub cut_at : (order : List ℕ) (n : ℕ) → n < length order → (c : Cut order (get_or order n 0)) × (length c.pre ≡ n)
cut_at [] n h = absurd (omega arith)
cut_at (x ∷ xs) zero h = (record { pre = []; post = xs; is = refl }, refl)
cut_at (x ∷ xs) (suc n) h =
    let m = cut_at xs n (omega arith) in
    (record { pre = x ∷ m.0.pre; post = m.0.post; is = ap (λ l. x ∷ l) m.0.is }, ap suc m.1)

-- an order with n put in behind a, cut at a
pub cut_put : (a n : ℕ) (pre post : List ℕ) → AllByRecursion (Not a) pre → put_after a n (pre ++ a ∷ post) ≡ pre ++ a ∷ n ∷ post
cut_put a n [] post s = cond-true (eqb a a) (a ∷ n ∷ post) (a ∷ put_after a n post) (eq-eqb a a refl)
cut_put a n (x ∷ xs) post s =
    cond-false (eqb x a) (x ∷ n ∷ (xs ++ a ∷ post)) (x ∷ put_after a n (xs ++ a ∷ post)) (ne_eqb x a s.0) ∙ ap (λ l. x ∷ l) (cut_put a n xs post s.1)

module _ (rep : ℕ → ℕ) (i : ℕ) where
  keeps_below : (xs : List ℕ) → AllByRecursion (λ x. rep x < rep i) xs → without i xs ≡ xs
  keeps_below [] a = refl
  keeps_below (x ∷ xs) a = cond-true _ _ _ (not_from_false _ (ne_eqb x i (λ e. omega (arith, ap rep e, a.0)))) ∙ ap (λ l. x ∷ l) (keeps_below xs a.1)

  keeps_above : (xs : List ℕ) → AllByRecursion (λ x. rep i < rep x) xs → without i xs ≡ xs
  keeps_above [] a = refl
  keeps_above (x ∷ xs) a = cond-true _ _ _ (not_from_false _ (ne_eqb x i (λ e. omega (arith, ap rep e, a.0)))) ∙ ap (λ l. x ∷ l) (keeps_above xs a.1)

  pub cut_without : (pre post : List ℕ) → Rising rep (pre ++ i ∷ post) → without i (pre ++ i ∷ post) ≡ pre ++ post
  cut_without pre post r =
      let low = rising_below rep pre i post r in
      let high = (rising_parts rep pre (i ∷ post) r).1.0 in
      let t : ℕ → Bool = λ x. not (eqb x i) in
      filter-append t pre (i ∷ post)
      ∙ (ap (λ l. l ++ without i (i ∷ post)) (keeps_below pre low)
      ∙ ap (λ l. pre ++ l) (cond-false (t i) (i ∷ without i post) (without i post) (not_from_true _ (eq-eqb i i refl)) ∙ keeps_above post high))
