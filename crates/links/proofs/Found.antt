-- What a level search over the pairs of an order answers: the bucket of the key.
--
--   First, Last                the first or the last of an order that passes a test, with what stands beside
--   holder_at, holder_before   the bucket of a key, by a cut of the order
--   holder_splits              the order cut at the bucket of a key
--   chosen_holds               from the deepest level and its links a search chooses the bucket of the key
use Rattle.std.proofs.Common.{◌≡◌, ℕ, ◌+◌, ◌-◌, ◌/◌, ◌%◌, ◌^◌, ◌<◌, ◌≤◌, Bool, true, false, eqb, leb, ◌⊎◌, List, [], ◌∷◌, ◌++◌, map, Some, filter, sym, refl, ap, ◌∙◌, subst, inl, inr, div-one, arith}
use Rattle.std.specs.List.{AllByRecursion}
use Rattle.std.proofs.lemmas.List.{append-nil}
use Rattle.std.proofs.lemmas.Nat.{shr-shr}
use Rattle.std.proofs.lemmas.List.Elements.{filter-append}
use Rattle.std.proofs.ByRecursion.{All-weaker}
use Rattle.std.proofs.lemmas.Bool.{or_left, or_right, cases_order, cases_Bool, eq-eqb, eqb-true, eqb-false, cond-true, cond-false, cond_both, le-leb, lt-leb, true≢false}
use Rattle.dictionary.specs.Pairs.{Pairs}
use Rattle.levels.specs.Nodes.{node_at, under, any}
use Rattle.levels.specs.Search.{held, Deepest}
use Rattle.links.specs.Orders.{last_from, lastly, holder, Rising, Ordered, Before, Neighbours, ZeroFirst}
use Rattle.links.specs.Links.{lies, outermost, links, chosen}
use Rattle.links.proofs.Rows.{last_append}
use Rattle.links.proofs.Nodes.{lies_node, less_by}
use Rattle.links.proofs.Orders.{all_parts, all_both, rising_parts, rising_below}
use Rattle.links.proofs.Present.{held_present}
use Rattle.links.proofs.Changes.{low_of, high_of}

-- ---- the first and the last that pass, and what stands beside
pub record First (t : ℕ → Bool) (order : List ℕ) (x : ℕ) : Type 0 where
  pub pre : List ℕ
  pub post : List ℕ
  pub is : order ≡ pre ++ x ∷ post
  pub passes : t x ≡ true
  pub none : AllByRecursion (λ y. t y ≡ false) pre

pub record Last (t : ℕ → Bool) (order : List ℕ) (x : ℕ) : Type 0 where
  pub pre : List ℕ
  pub post : List ℕ
  pub is : order ≡ pre ++ x ∷ post
  pub passes : t x ≡ true
  pub none : AllByRecursion (λ y. t y ≡ false) post

module _ (t : ℕ → Bool) where
  none_kept : (xs : List ℕ) → filter t xs ≡ [] → AllByRecursion (λ y. t y ≡ false) xs
  none_kept [] e = tt
  none_kept (x ∷ xs) e = elim (cases_Bool (t x)) [
    | inl u ↦ absurd (let c = cond-true (t x) (x ∷ filter t xs) (filter t xs) u in let z : ◌≡◌ {A = ℕ} 0 1 = cc in omega arith)
    | inr u ↦ (u, none_kept xs (sym (cond-false (t x) (x ∷ filter t xs) (filter t xs) u) ∙ e))
  ]

  first_kept : (xs : List ℕ) (y : ℕ) (ys : List ℕ) → filter t xs ≡ y ∷ ys → First t xs y
  first_kept [] y ys e = absurd (let z : ◌≡◌ {A = ℕ} 0 1 = cc in omega arith)
  first_kept (x ∷ xs) y ys e = elim (cases_Bool (t x)) [
    | inl u ↦ (
        let q : y ≡ x = (let c = cond-true (t x) (x ∷ filter t xs) (filter t xs) u in cc) in
        record { pre = []; post = xs; is = ap (λ z. z ∷ xs) (sym q); passes = ap t q ∙ u; none = tt })
    | inr u ↦ (
        let m = first_kept xs y ys (sym (cond-false (t x) (x ∷ filter t xs) (filter t xs) u) ∙ e) in
        record { pre = x ∷ m.pre; post = m.post; is = ap (λ z. x ∷ z) m.is; passes = m.passes; none = (u, m.none) })
  ]

  final_kept : (xs : List ℕ) (y : ℕ) (ys : List ℕ) → filter t xs ≡ y ∷ ys → Last t xs (last_from y ys)
  final_kept [] y ys e = absurd (let z : ◌≡◌ {A = ℕ} 0 1 = cc in omega arith)
  final_kept (x ∷ xs) y ys e = elim (cases_Bool (t x)) [
    | inl u ↦ (
        let c = cond-true (t x) (x ∷ filter t xs) (filter t xs) u in
        let q : y ≡ x = cc in
        let r : filter t xs ≡ ys = cc in
        here x y xs ys u q r (λ z zs r'. final_kept xs z zs r'))
    | inr u ↦ (
        let m = final_kept xs y ys (sym (cond-false (t x) (x ∷ filter t xs) (filter t xs) u) ∙ e) in
        record { pre = x ∷ m.pre; post = m.post; is = ap (λ z. x ∷ z) m.is; passes = m.passes; none = m.none })
  ]
    where
      here : (x y : ℕ) (xs ys : List ℕ) → t x ≡ true → y ≡ x → filter t xs ≡ ys → ((z : ℕ) (zs : List ℕ) → filter t xs ≡ z ∷ zs → Last t xs (last_from z zs)) → Last t (x ∷ xs) (last_from y ys)
      here x y xs [] u q r f = record { pre = []; post = xs; is = ap (λ z. z ∷ xs) (sym q); passes = ap t q ∙ u; none = none_kept xs r }
      here x y xs (z ∷ zs) u q r f =
          let m = f z zs r in
          record { pre = x ∷ m.pre; post = m.post; is = ap (λ z. x ∷ z) m.is; passes = m.passes; none = m.none }

  ends_first : (xs : List ℕ) (low high : ℕ) → outermost (filter t xs) ≡ Some (low, high) → First t xs low
  ends_first xs low high e = go (filter t xs) refl e
    where
      go : (l : List ℕ) → filter t xs ≡ l → outermost l ≡ Some (low, high) → First t xs low
      go [] q f = absurd (let z : ◌≡◌ {A = ℕ} 0 1 = cc in omega arith)
      go (y ∷ ys) q f = let z : y ≡ low = ap low_of f in subst (First t xs) z (first_kept xs y ys q)

  ends_last : (xs : List ℕ) (low high : ℕ) → outermost (filter t xs) ≡ Some (low, high) → Last t xs high
  ends_last xs low high e = go (filter t xs) refl e
    where
      go : (l : List ℕ) → filter t xs ≡ l → outermost l ≡ Some (low, high) → Last t xs high
      go [] q f = absurd (let z : ◌≡◌ {A = ℕ} 0 1 = cc in omega arith)
      go (y ∷ ys) q f = let z : last_from y ys ≡ high = ap high_of f in subst (Last t xs) z (final_kept xs y ys q)

-- ---- the holder of a key, by a cut of the order
module _ (rep : ℕ → ℕ) (k : ℕ) where
  keeps_none : (xs : List ℕ) → AllByRecursion (λ x. k < rep x) xs → filter (λ i. leb (rep i) k) xs ≡ []
  keeps_none [] a = refl
  keeps_none (x ∷ xs) a = cond-false _ _ _ (lt-leb (rep x) k a.0) ∙ keeps_none xs a.1

  keeps_all : (xs : List ℕ) → AllByRecursion (λ x. rep x ≤ k) xs → filter (λ i. leb (rep i) k) xs ≡ xs
  keeps_all [] a = refl
  keeps_all (x ∷ xs) a = cond-true _ _ _ (le-leb (rep x) k a.0) ∙ ap (λ l. x ∷ l) (keeps_all xs a.1)

  lastly_append : (zs : List ℕ) (x : ℕ) → lastly (zs ++ x ∷ []) ≡ x
  lastly_append [] x = refl
  lastly_append (z ∷ zs) x = last_append z zs x []

  pub holder_at : (pre : List ℕ) (x : ℕ) (post : List ℕ) → rep x ≤ k → AllByRecursion (λ y. k < rep y) post → holder rep (pre ++ x ∷ post) k ≡ x
  unfolding holder
  holder_at pre x post h a =
      let t : ℕ → Bool = λ i. leb (rep i) k in
      let c : filter t (x ∷ post) ≡ x ∷ [] = cond-true _ _ _ (le-leb (rep x) k h) ∙ ap (λ l. x ∷ l) (keeps_none post a) in
      ap lastly (filter-append t pre (x ∷ post) ∙ ap (λ l. filter t pre ++ l) c) ∙ lastly_append (filter t pre) x

  holder_before : (pre post : List ℕ) → AllByRecursion (λ x. rep x ≤ k) pre → AllByRecursion (λ y. k < rep y) post → holder rep (pre ++ post) k ≡ lastly pre
  unfolding holder
  holder_before pre post a b =
      let t : ℕ → Bool = λ i. leb (rep i) k in
      ap lastly (filter-append t pre post ∙ (ap (λ l. l ++ filter t post) (keeps_all pre a) ∙ ap (λ l. pre ++ l) (keeps_none post b)) ∙ append-nil pre)

  -- the order cut at the holder: its representative is at most k, and those behind are above
  pub holder_splits : (order : List ℕ) → ZeroFirst rep order → Last (λ i. leb (rep i) k) order (holder rep order k)
  unfolding holder
  holder_splits [] z = absurd z
  holder_splits (x ∷ xs) z =
      let t : ℕ → Bool = λ i. leb (rep i) k in
      let c = cond-true (t x) (x ∷ filter t xs) (filter t xs) (le-leb (rep x) k (omega arith)) in
      subst (Last t (x ∷ xs)) (sym (ap lastly c)) (final_kept t (x ∷ xs) x (filter t xs) c)

-- ---- keys beside a node
same_part : (w j r k : ℕ) → node_at w r j ≡ node_at w k j → r / 2 ^ (w - j) ≡ k / 2 ^ (w - j)
unfolding node_at
same_part w j r k e = omega arith

other_part : (w j r k : ℕ) → (node_at w r j ≡ node_at w k j → ⊥) → r / 2 ^ (w - j) ≡ k / 2 ^ (w - j) → ⊥
unfolding node_at
other_part w j r k e s = e (ap (λ x. 2 ^ j + x) s)

half_part : (w j r : ℕ) → j < w → r / 2 ^ (w - (j + 1)) / 2 ≡ r / 2 ^ (w - j)
half_part w j r h =
    let e : w - j ≡ w - (j + 1) + 1 = omega arith in
    rw e (shr-shr r (w - (j + 1)) 1)

side : (w j r k : ℕ) → j < w → node_at w r j ≡ node_at w k j → (node_at w r (j + 1) ≡ node_at w k (j + 1) → ⊥) →
    ((k / 2 ^ (w - (j + 1)) % 2 ≡ 1) × (r < k)) ⊎ ((k / 2 ^ (w - (j + 1)) % 2 ≡ 0) × (k < r))
side w j r k h a b =
    let x = r / 2 ^ (w - (j + 1)) in
    let y = k / 2 ^ (w - (j + 1)) in
    let p = same_part w j r k a in
    let q = other_part w (j + 1) r k b in
    let u = half_part w j r h in
    let v = half_part w j k h in
    elim (cases_order x y) [
      | inl e ↦ absurd (q e)
      | inr (inl l) ↦ inl (omega arith, less_by (w - (j + 1)) r k l)
      | inr (inr l) ↦ inr (omega arith, less_by (w - (j + 1)) k r l)
    ]

beside_up : (w j r s k : ℕ) → node_at w r j ≡ node_at w k j → (node_at w s j ≡ node_at w k j → ⊥) → r < s → k < s
beside_up w j r s k a b l =
    let p = same_part w j r k a in
    let h = w - j in
    elim (cases_order (k / 2 ^ h) (s / 2 ^ h)) [
      | inl e ↦ absurd (other_part w j s k b (sym e))
      | inr (inl q) ↦ less_by h k s q
      | inr (inr q) ↦ (let z : s < r = less_by h s r (omega arith) in omega arith)
    ]

beside_down : (w j r s k : ℕ) → node_at w r j ≡ node_at w k j → (node_at w s j ≡ node_at w k j → ⊥) → s < r → s < k
beside_down w j r s k a b l =
    let p = same_part w j r k a in
    let h = w - j in
    elim (cases_order (k / 2 ^ h) (s / 2 ^ h)) [
      | inl e ↦ absurd (other_part w j s k b (sym e))
      | inr (inl q) ↦ (let z : r < s = less_by h r s (omega arith) in omega arith)
      | inr (inr q) ↦ less_by h s k q
    ]

same_last : (w r k : ℕ) → node_at w r w ≡ node_at w k w → r ≡ k
same_last w r k e =
    let z : w - w ≡ 0 = omega arith in
    let p : r / 2 ^ 0 ≡ k / 2 ^ 0 = rw z at (same_part w w r k e) in
    sym (div-one r) ∙ (p ∙ div-one k)

any_at : (p : ℕ → Bool) (rep : ℕ → ℕ) (pre : List ℕ) (x : ℕ) (post : List ℕ) → p (rep x) ≡ true → any p (map rep (pre ++ x ∷ post)) ≡ true
any_at p rep [] x post t = or_left (p (rep x)) (any p (map rep post)) t
any_at p rep (y ∷ ys) x post t = or_right (p (rep y)) (any p (map rep (ys ++ x ∷ post))) (any_at p rep ys x post t)

-- ---- the answer
module _ (w : ℕ) (rep : ℕ → ℕ) (order : List ℕ) (k : ℕ) (o : Ordered w rep order) (z : ZeroFirst rep order) (kw : k < 2 ^ w) where
  abbrev f : Pairs
  f = links w rep order

  abbrev test : ℕ → ℕ → Bool
  test j i = lies w (rep i) (node_at w k j)

  reads : (j : ℕ) → j ≤ w → (x : ℕ) → rep x < 2 ^ w → test j x ≡ true → node_at w (rep x) j ≡ node_at w k j
  reads j h x s t = eqb-true _ _ (sym (lies_node w (rep x) k j s kw h) ∙ t)

  reads_not : (j : ℕ) → j ≤ w → (x : ℕ) → rep x < 2 ^ w → test j x ≡ false → node_at w (rep x) j ≡ node_at w k j → ⊥
  reads_not j h x s t e = eqb-false _ _ (sym (lies_node w (rep x) k j s kw h) ∙ t) e

  -- where a level has no pair no bucket lies under its node
  missing : (j : ℕ) → j ≤ w → held f w k j ≡ false → (pre : List ℕ) (x : ℕ) (post : List ℕ) → order ≡ pre ++ x ∷ post → node_at w (rep x) j ≡ node_at w k j → ⊥
  missing j h t pre x post is e =
      let some = any_at (under w k j) rep pre x post (eq-eqb _ _ e) in
      true≢false (sym (subst (λ l. any (under w k j) (map rep l) ≡ true) (sym is) some) ∙ sym (held_present w rep order k kw o.fits j h) ∙ t)

  small : (pre : List ℕ) (x : ℕ) (post : List ℕ) → order ≡ pre ++ x ∷ post → AllByRecursion (λ y. rep y < 2 ^ w) (pre ++ x ∷ post)
  small pre x post is = subst (AllByRecursion (λ y. rep y < 2 ^ w)) is o.fits

  rises : (pre : List ℕ) (x : ℕ) (post : List ℕ) → order ≡ pre ++ x ∷ post → Rising rep (pre ++ x ∷ post)
  rises pre x post is = subst (Rising rep) is o.rises

  module _ (level low high : ℕ) (pair : f (node_at w k level) ≡ Some (low, high)) (d : Deepest (held f w k) w level) where
    pair_ends : outermost (filter (test level) order) ≡ Some (low, high)
    unfolding links
    pair_ends = pair

    at_last : level ≡ w → holder rep order k ≡ low
    at_last e =
        let c = ends_first (test level) order low high pair_ends in
        let s = all_parts _ c.pre (low ∷ c.post) (small c.pre low c.post c.is) in
        let r = (rising_parts rep c.pre (low ∷ c.post) (rises c.pre low c.post c.is)).1.0 in
        let same : rep low ≡ k = same_last w (rep low) k (subst (λ j. node_at w (rep low) j ≡ node_at w k j) e (reads level d.within low s.1.0 c.passes)) in
        ap (λ l. holder rep l k) c.is ∙ holder_at rep k c.pre low c.post (omega arith) (All-weaker _ _ (λ y h. omega arith) c.post r)

    at_high : level < w → k / 2 ^ (w - (level + 1)) % 2 ≡ 1 → holder rep order k ≡ high
    at_high lw bit =
        let c = ends_last (test level) order low high pair_ends in
        let s = all_parts _ c.pre (high ∷ c.post) (small c.pre high c.post c.is) in
        let r = (rising_parts rep c.pre (high ∷ c.post) (rises c.pre high c.post c.is)).1.0 in
        let on = reads level d.within high s.1.0 c.passes in
        let off = missing (level + 1) (omega arith) (d.none_below (level + 1) (omega arith) (omega arith)) c.pre high c.post c.is in
        let less : rep high < k = elim (side w level (rep high) k lw on off) [ inl h ↦ h.1 | inr h ↦ absurd (omega (arith, h.0)) ] in
        let up = all_both (λ y. rep high < rep y) (λ y. (test level y ≡ false) × (rep y < 2 ^ w)) (λ y. k < rep y)
        (λ y a b. beside_up w level (rep high) (rep y) k on (reads_not level d.within y b.1 b.0) a) c.post r
        (all_both (λ y. test level y ≡ false) (λ y. rep y < 2 ^ w) _ (λ y a b. (a, b)) c.post c.none s.1.1) in
        ap (λ l. holder rep l k) c.is ∙ holder_at rep k c.pre high c.post (omega arith) up

    at_low : (next prev : ℕ → ℕ) → Neighbours next prev order → level < w → k / 2 ^ (w - (level + 1)) % 2 ≡ 0 → holder rep order k ≡ prev low
    at_low next prev n lw bit =
        let c = ends_first (test level) order low high pair_ends in
        let s = all_parts _ c.pre (low ∷ c.post) (small c.pre low c.post c.is) in
        let r = (rising_parts rep c.pre (low ∷ c.post) (rises c.pre low c.post c.is)).1.0 in
        let under = rising_below rep c.pre low c.post (rises c.pre low c.post c.is) in
        let on = reads level d.within low s.1.0 c.passes in
        let off = missing (level + 1) (omega arith) (d.none_below (level + 1) (omega arith) (omega arith)) c.pre low c.post c.is in
        let more : k < rep low = elim (side w level (rep low) k lw on off) [ inl h ↦ absurd (omega (arith, h.0)) | inr h ↦ h.1 ] in
        let down = all_both (λ y. rep y < rep low) (λ y. (test level y ≡ false) × (rep y < 2 ^ w)) (λ y. rep y ≤ k)
        (λ y a b. let q = beside_down w level (rep low) (rep y) k on (reads_not level d.within y b.1 b.0) a in omega arith) c.pre under
        (all_both (λ y. test level y ≡ false) (λ y. rep y < 2 ^ w) _ (λ y a b. (a, b)) c.pre c.none s.0) in
        ap (λ l. holder rep l k) c.is
        ∙ holder_before rep k c.pre (low ∷ c.post) down (more, All-weaker _ _ (λ y h. omega arith) c.post r)
        ∙ ends_with c.pre low c.post c.is more (n c.pre low c.post c.is).0
      where
        ends_with : (pre : List ℕ) (x : ℕ) (post : List ℕ) → order ≡ pre ++ x ∷ post → k < rep x → Before pre (prev x) → lastly pre ≡ prev x
        ends_with [] x post is more b = absurd (omega (arith, subst (ZeroFirst rep) is z))
        ends_with (p ∷ ps) x post is more b = sym b

    pub chosen_holds : (next prev : ℕ → ℕ) → Neighbours next prev order → chosen w k level low high prev ≡ holder rep order k
    chosen_holds next prev n =
        cond_both (eqb level w) low _ (λ x. x ≡ holder rep order k) (λ t. sym (at_last (eqb-true _ _ t)))
        (λ t. let lw : level < w = omega (arith, d.within, eqb-false level w t) in
        cond_both (eqb (k / 2 ^ (w - (level + 1)) % 2) 1) high (prev low) (λ x. x ≡ holder rep order k)
        (λ u. sym (at_high lw (eqb-true _ _ u)))
        (λ u. sym (at_low next prev n lw (let v = eqb-false _ _ u in omega arith))))
