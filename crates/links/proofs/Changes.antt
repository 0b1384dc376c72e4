-- Orders as a bucket comes in, and the pairs and costs that follow.
--
--   links_same, links_all           the pairs see only the order's own representatives, and name only its own buckets
--   ordered_open, without_put, ..   an order with a bucket put in behind another: it rises, has it, and without it is as before
--   turning_put                     a representative costs the same counted with it in the list or without it
--   links_none, own_ends            no bucket asks for no pair; the only representative is at an end at each level
use Rattle.std.proofs.Common.{◌≡◌, ℕ, zero, suc, ◌+◌, ◌^◌, ◌<◌, Bool, true, false, cond, not, ◌&&◌, ◌||◌, eqb, leb, List, [], ◌∷◌, ◌++◌, map, length, Some, None, filter, Option, sym, refl, ap, ◌∙◌, subst, inl, inr, arith}
use mathlib.Core.Path.{fun_ext}
use Rattle.std.specs.List.{AllByRecursion}
use Rattle.std.proofs.ByRecursion.{all_kept_by, All-weaker}
use Rattle.std.proofs.lemmas.Bool.{cases_eq, eq-eqb, ne_eqb, cond-true, cond-false, cond_both, le-leb, or_left, or_right, not_from_true, not_from_false, false≢true}
use Rattle.dictionary.specs.Pairs.{Links, among, no_pairs}
use Rattle.levels.specs.Nodes.{under}
use Rattle.levels.specs.Counts.{every, at_end, ends, turning}
use Rattle.links.specs.Orders.{Rising, Ordered, with_at, put_after, without}
use Rattle.links.specs.Links.{lies, outermost, under_node, links}
use Rattle.links.proofs.Rows.{all_last}
use Rattle.links.proofs.Orders.{Not, with_same, with_other, all_both, further, all_among}

abbrev pub low_of : Option Links → ℕ
low_of None = 0
low_of (Some p) = p.0

abbrev pub high_of : Option Links → ℕ
high_of None = 0
high_of (Some p) = p.1

kept_same : (s t : ℕ → Bool) (xs : List ℕ) → AllByRecursion (λ x. s x ≡ t x) xs → filter s xs ≡ filter t xs
kept_same s t [] a = refl
kept_same s t (x ∷ xs) a =
    ap (λ b. cond b (x ∷ filter s xs) (filter s xs)) a.0 ∙ ap (λ l. cond (t x) (x ∷ l) l) (kept_same s t xs a.1)

pub links_same : (w : ℕ) (rep rep' : ℕ → ℕ) (order : List ℕ) → AllByRecursion (λ x. rep x ≡ rep' x) order → links w rep order ≡ links w rep' order
unfolding links
links_same w rep rep' order a = fun_ext (λ n. ap outermost (kept_same _ _ order (All-weaker _ _ (λ x e. ap (λ r. lies w r n) e) order a)))

-- the links are numbers of the order
ends_all : (P : ℕ → Type 0) (xs : List ℕ) (low high : ℕ) → AllByRecursion P xs → outermost xs ≡ Some (low, high) → P low × P high
ends_all P [] low high a e = absurd (let z : ◌≡◌ {A = ℕ} 0 1 = cc in omega arith)
ends_all P (x ∷ xs) low high a e = (subst P (ap low_of e) a.0, subst P (ap high_of e) (all_last P x xs a.0 a.1))

pub links_all : (P : ℕ → Type 0) (w : ℕ) (rep : ℕ → ℕ) (order : List ℕ) (n low high : ℕ) → AllByRecursion P order → links w rep order n ≡ Some (low, high) → P low × P high
unfolding links
links_all P w rep order n low high a e = ends_all P (under_node w rep n order) low high (all_kept_by _ P order a) e

-- ---- a bucket n of representative r comes in behind a
module _ (rep : ℕ → ℕ) (a n r : ℕ) where
  abbrev rep' : ℕ → ℕ
  rep' = with_at rep n r

  pub same_reps : (xs : List ℕ) → AllByRecursion (Not n) xs → AllByRecursion (λ x. rep x ≡ rep' x) xs
  same_reps xs = All-weaker (Not n) _ (λ x h. sym (with_other rep n r x h)) xs

  rising_same : (xs : List ℕ) → AllByRecursion (Not n) xs → Rising rep xs → Rising rep' xs
  rising_same [] s h = tt
  rising_same (x ∷ xs) s h =
      let e = with_other rep n r x s.0 in
      (all_both (Not n) (λ y. rep x < rep y) (λ y. rep' x < rep' y) (λ y k l. let f = with_other rep n r y k in omega arith) xs s.1 h.0, rising_same xs s.1 h.1)

  all_after : (P : ℕ → Type 0) (xs : List ℕ) → P n → AllByRecursion P xs → AllByRecursion P (put_after a n xs)
  all_after P [] p all = tt
  all_after P (x ∷ xs) p all = cond_both (eqb x a) (x ∷ n ∷ xs) (x ∷ put_after a n xs) (AllByRecursion P) (λ _. (all.0, (p, all.1))) (λ _. (all.0, all_after P xs p all.1))

  rising_open : (order : List ℕ) → Rising rep order → AllByRecursion (Not n) order → among a order ≡ true → rep a < r →
      ((pre post : List ℕ) → order ≡ pre ++ a ∷ post → AllByRecursion (λ y. r < rep y) post) → Rising rep' (put_after a n order)
  rising_open [] h s t l up = tt
  rising_open (x ∷ xs) h s t l up =
      let ex = with_other rep n r x s.0 in
      let en = with_same rep n r n refl in
      let rest = rising_same xs s.1 h.1 in
      elim (cases_eq x a) [
        | inl e ↦ (
            let above = up [] xs (ap (λ z. z ∷ xs) e) in
            let ea : rep x ≡ rep a = ap rep e in
            let here : rep' x < rep' n = omega (arith, ex, en, ea) in
            let far : AllByRecursion (λ y. rep' x < rep' y) xs = all_both (Not n) (λ y. rep x < rep y) _ (λ y k m. let f = with_other rep n r y k in omega (arith, ex)) xs s.1 h.0 in
            let on : AllByRecursion (λ y. rep' n < rep' y) xs = all_both (Not n) (λ y. r < rep y) _ (λ y k m. let f = with_other rep n r y k in omega (arith, en)) xs s.1 above in
            subst (Rising rep') (sym (cond-true (eqb x a) (x ∷ n ∷ xs) (x ∷ put_after a n xs) (eq-eqb x a e))) ((here, far), (on, rest)))
        | inr e ↦ (
            let t' = further a x xs (λ q. e (sym q)) t in
            let under : rep x < rep a = all_among (λ y. rep x < rep y) xs a h.0 t' in
            let far : AllByRecursion (λ y. rep' x < rep' y) xs = all_both (Not n) (λ y. rep x < rep y) _ (λ y k m. let f = with_other rep n r y k in omega (arith, ex)) xs s.1 h.0 in
            subst (Rising rep') (sym (cond-false (eqb x a) (x ∷ n ∷ xs) (x ∷ put_after a n xs) (ne_eqb x a e))) (
              all_after (λ y. rep' x < rep' y) xs (omega (arith, ex, en, under)) far,
              rising_open xs h.1 s.1 t' l (λ pre post q. up (x ∷ pre) post (ap (λ z. x ∷ z) q)),
            ))
      ]

  pub ordered_open : (w : ℕ) (order : List ℕ) → Ordered w rep order → AllByRecursion (Not n) order → among a order ≡ true → rep a < r → r < 2 ^ w →
      ((pre post : List ℕ) → order ≡ pre ++ a ∷ post → AllByRecursion (λ y. r < rep y) post) → Ordered w rep' (put_after a n order)
  ordered_open w order o s t l fit up = record {
    rises = rising_open order o.rises s t l up;
    fits = all_after (λ y. rep' y < 2 ^ w) order (let en = with_same rep n r n refl in omega arith)
        (all_both (Not n) (λ y. rep y < 2 ^ w) _ (λ y k m. let f = with_other rep n r y k in omega arith) order s o.fits);
  }

  pub among_put : (order : List ℕ) → among a order ≡ true → among n (put_after a n order) ≡ true
  among_put [] t = t
  among_put (x ∷ xs) t = elim (cases_eq x a) [
    | inl e ↦ (ap (among n) (cond-true (eqb x a) (x ∷ n ∷ xs) (x ∷ put_after a n xs) (eq-eqb x a e)) ∙ or_right (eqb n x) _ (or_left _ (among n xs) (eq-eqb n n refl)))
    | inr e ↦ (ap (among n) (cond-false (eqb x a) (x ∷ n ∷ xs) (x ∷ put_after a n xs) (ne_eqb x a e)) ∙ or_right (eqb n x) _ (among_put xs (further a x xs (λ q. e (sym q)) t)))
  ]

  keeps : (x : ℕ) (xs : List ℕ) → Not n x → without n (x ∷ xs) ≡ x ∷ without n xs
  keeps x xs h = cond-true (not (eqb x n)) (x ∷ without n xs) (without n xs) (not_from_false _ (ne_eqb x n h))

  drops : (xs : List ℕ) → without n (n ∷ xs) ≡ without n xs
  drops xs = cond-false (not (eqb n n)) (n ∷ without n xs) (without n xs) (not_from_true _ (eq-eqb n n refl))

  none : (xs : List ℕ) → AllByRecursion (Not n) xs → without n xs ≡ xs
  none [] s = refl
  none (x ∷ xs) s = keeps x xs s.0 ∙ ap (λ l. x ∷ l) (none xs s.1)

  pub without_put : (order : List ℕ) → AllByRecursion (Not n) order → among a order ≡ true → without n (put_after a n order) ≡ order
  without_put [] s t = refl
  without_put (x ∷ xs) s t = elim (cases_eq x a) [
    | inl e ↦ (ap (without n) (cond-true (eqb x a) (x ∷ n ∷ xs) (x ∷ put_after a n xs) (eq-eqb x a e)) ∙ keeps x (n ∷ xs) s.0 ∙ ap (λ l. x ∷ l) (drops xs ∙ none xs s.1))
    | inr e ↦ (ap (without n) (cond-false (eqb x a) (x ∷ n ∷ xs) (x ∷ put_after a n xs) (ne_eqb x a e)) ∙ keeps x (put_after a n xs) s.0 ∙ ap (λ l. x ∷ l) (without_put xs s.1 (further a x xs (λ q. e (sym q)) t)))
  ]

  pub length_put : (order : List ℕ) → among a order ≡ true → length (put_after a n order) ≡ length order + 1
  length_put [] t = absurd (false≢true t)
  length_put (x ∷ xs) t = elim (cases_eq x a) [
    | inl e ↦ (ap length (cond-true (eqb x a) (x ∷ n ∷ xs) (x ∷ put_after a n xs) (eq-eqb x a e)) ∙ omega arith)
    | inr e ↦ (let more = length_put xs (further a x xs (λ q. e (sym q)) t) in ap length (cond-false (eqb x a) (x ∷ n ∷ xs) (x ∷ put_after a n xs) (ne_eqb x a e)) ∙ omega arith)
  ]

-- the cost of a representative is the same with and without it in the list
module _ (rep : ℕ → ℕ) (a n r : ℕ) where
  map_other : (xs : List ℕ) → AllByRecursion (Not n) xs → map (with_at rep n r) xs ≡ map rep xs
  map_other [] s = refl
  map_other (x ∷ xs) s = ap (λ y. y ∷ map (with_at rep n r) xs) (with_other rep n r x s.0) ∙ ap (λ l. rep x ∷ l) (map_other xs s.1)

  every_put : (p : ℕ → Bool) (xs : List ℕ) → AllByRecursion (Not n) xs → among a xs ≡ true → p r ≡ true → every p (map (with_at rep n r) (put_after a n xs)) ≡ every p (map rep xs)
  every_put p [] s t e = refl
  every_put p (x ∷ xs) s t e = elim (cases_eq x a) [
    | inl q ↦ (
        ap (λ l. every p (map (with_at rep n r) l)) (cond-true (eqb x a) (x ∷ n ∷ xs) (x ∷ put_after a n xs) (eq-eqb x a q))
        ∙ ap (λ y. p y && (p (with_at rep n r n) && every p (map (with_at rep n r) xs))) (with_other rep n r x s.0)
        ∙ ap (λ b. p (rep x) && (b && every p (map (with_at rep n r) xs))) (ap p (with_same rep n r n refl) ∙ e)
        ∙ ap (λ l. p (rep x) && every p l) (map_other xs s.1))
    | inr q ↦ (
        ap (λ l. every p (map (with_at rep n r) l)) (cond-false (eqb x a) (x ∷ n ∷ xs) (x ∷ put_after a n xs) (ne_eqb x a q))
        ∙ ap (λ y. p y && every p (map (with_at rep n r) (put_after a n xs))) (with_other rep n r x s.0)
        ∙ ap (λ b. p (rep x) && b) (every_put p xs s.1 (further a x xs (λ z. q (sym z)) t) e))
  ]

  module _ (w : ℕ) (order : List ℕ) (s : AllByRecursion (Not n) order) (t : among a order ≡ true) where
    end_put : (j : ℕ) → at_end w (map (with_at rep n r) (put_after a n order)) r j ≡ at_end w (map rep order) r j
    end_put j =
        let p : ℕ → Bool = λ x. not (under w r j x) || leb r x in
        let q : ℕ → Bool = λ x. not (under w r j x) || leb x r in
        let own = le-leb r r (omega arith) in
        let l : p r ≡ true = ap (λ b. not (under w r j r) || b) own ∙ always (not (under w r j r)) in
        ap (λ b. b || every q (map (with_at rep n r) (put_after a n order))) (every_put p order s t l) ∙ ap (λ b. every p (map rep order) || b) (every_put q order s t l)
      where
        always : (b : Bool) → (b || true) ≡ true
        always true = refl
        always false = refl

    ends_put : (j : ℕ) → ends w (map (with_at rep n r) (put_after a n order)) r j ≡ ends w (map rep order) r j
    unfolding ends
    ends_put zero = refl
    ends_put (suc j) = ap (λ b. cond b 1 0 + ends w (map (with_at rep n r) (put_after a n order)) r j) (end_put j) ∙ ap (λ m. cond (at_end w (map rep order) r j) 1 0 + m) (ends_put j)

    pub turning_put : turning w (map (with_at rep n r) (put_after a n order)) r ≡ turning w (map rep order) r
    turning_put = ap (λ m. (w + 1) + m) (ends_put (w + 1))

-- ---- the first representative, over no pair
pub links_none : (w : ℕ) (rep : ℕ → ℕ) → links w rep [] ≡ no_pairs
unfolding links
links_none w rep = refl

own_end : (w x j : ℕ) → at_end w (x ∷ []) x j ≡ true
own_end w x j = rw (le-leb x x (omega arith)) (always (not (under w x j x)))
  where
    always : (b : Bool) → (((b || true) && true) || ((b || true) && true)) ≡ true
    always true = refl
    always false = refl

pub own_ends : (w x j : ℕ) → ends w (x ∷ []) x j ≡ j
unfolding ends
own_ends w x zero = refl
own_ends w x (suc j) = ap (λ b. cond b 1 0 + ends w (x ∷ []) x j) (own_end w x j) ∙ omega (arith, own_ends w x j)
