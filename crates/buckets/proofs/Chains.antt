-- Rings of numbers linked both ways, as one is put in or taken out.
--
--   seg_frame, row_frame           links that alter elsewhere leave a ring or a chain as it is
--   next_all, prev_all             what holds of a ring's numbers holds of a neighbour
--   seg_row, row_row               a ring or a chain is the row that its links give
--   seg_neighbours                 each number's neighbours are those beside it
--   put_behind, seg_insert, ..     a number put in behind another
--   linked_past, seg_remove, ..    a number taken out
use Rattle.std.proofs.Common.{◌≡◌, ℕ, ◌+◌, true, cond, ◌||◌, eqb, List, [], ◌∷◌, ◌++◌, length, sym, refl, ap, ◌∙◌, subst, inl, inr, arith}
use Rattle.std.specs.List.{AllByRecursion}
use Rattle.std.proofs.ByRecursion.{All-weaker}
use Rattle.std.proofs.lemmas.Bool.{cases_eq, cases_Bool, eq-eqb, ne_eqb, cond-true, cond-false, or_right, not_from_true, not_from_false, false≢true}
use Rattle.dictionary.specs.Pairs.{among, apart}
use Rattle.links.specs.Orders.{last_from, Behind, Neighbours, without, with_at, put_after}
use Rattle.links.proofs.Orders.{Not, with_same, with_other, all_both, further, apart_parts}
use Rattle.buckets.specs.Rings.{row, Seg, Row}

module _ (next prev : ℕ → ℕ) where
  pub seg_frame : (next' prev' : ℕ → ℕ) (x : ℕ) (ys : List ℕ) (z : ℕ) → AllByRecursion (λ n. next' n ≡ next n) (x ∷ ys) → AllByRecursion (λ n. prev' n ≡ prev n) ys → prev' z ≡ prev z → Seg next prev x ys z → Seg next' prev' x ys z
  seg_frame next' prev' x [] z a b c s = (a.0 ∙ s.0, c ∙ s.1)
  seg_frame next' prev' x (y ∷ ys) z a b c s = (a.0 ∙ s.0, b.0 ∙ s.1, seg_frame next' prev' y ys z a.1 b.1 c s.2)

  pub row_frame : (next' : ℕ → ℕ) (x : ℕ) (ys : List ℕ) → AllByRecursion (λ n. next' n ≡ next n) ys → Row next x ys → Row next' x ys
  row_frame next' x [] a r = tt
  row_frame next' x (y ∷ ys) a r = (r.0, row_frame next' (next' y) ys a.1 (subst (λ z. Row next z ys) (sym a.0) r.1))

  -- what a holds next is further on
  pub next_all : (P : ℕ → Type 0) (a x : ℕ) (ys : List ℕ) (z : ℕ) → Seg next prev x ys z → among a (x ∷ ys) ≡ true → AllByRecursion P ys → P z → P (next a)
  next_all P a x [] z s t all pz = elim (cases_eq a x) [
    | inl e ↦ subst P (sym (ap next e ∙ s.0)) pz
    | inr e ↦ absurd (false≢true (sym (ne_or a x [] e) ∙ t))
  ]
    where
      ne_or : (a x : ℕ) (l : List ℕ) → Not x a → among a (x ∷ l) ≡ among a l
      ne_or a x l e = ap (λ b. b || among a l) (ne_eqb a x e)
  next_all P a x (y ∷ ys) z s t all pz = elim (cases_eq a x) [
    | inl e ↦ subst P (sym (ap next e ∙ s.0)) all.0
    | inr e ↦ next_all P a y ys z s.2 (sym (ap (λ b. b || among a (y ∷ ys)) (ne_eqb a x e)) ∙ t) all.1 pz
  ]

  -- what n holds before it is further back
  pub prev_all : (P : ℕ → Type 0) (n x : ℕ) (ys : List ℕ) (z : ℕ) → Seg next prev x ys z → among n ys ≡ true → P x → AllByRecursion P ys → P (prev n)
  prev_all P n x [] z s t px all = absurd (false≢true t)
  prev_all P n x (y ∷ ys) z s t px all = elim (cases_eq n y) [
    | inl e ↦ subst P (sym (ap prev e ∙ s.1)) px
    | inr e ↦ prev_all P n y ys z s.2 (sym (ap (λ b. b || among n ys) (ne_eqb n y e)) ∙ t) all.0 all.1
  ]

  pub seg_row : (x : ℕ) (ys : List ℕ) (z : ℕ) → Seg next prev x ys z → row next (length ys) (next x) ≡ ys
  seg_row x [] z s = refl
  seg_row x (y ∷ ys) z s =
      ap (λ m. m ∷ row next (length ys) (next m)) s.0 ∙ ap (λ l. y ∷ l) (seg_row y ys z s.2)

  pub row_row : (x : ℕ) (ys : List ℕ) → Row next x ys → row next (length ys) x ≡ ys
  row_row x [] r = refl
  row_row x (y ∷ ys) r = ap (λ m. m ∷ row next (length ys) (next m)) r.0 ∙ ap (λ l. y ∷ l) (row_row (next y) ys r.1)

  ahead : (x : ℕ) (ys : List ℕ) → Seg next prev x ys 0 → Behind ys (next x)
  ahead x [] s = s.0
  ahead x (y ∷ ys) s = s.0

  beside : (x : ℕ) (ys : List ℕ) → Seg next prev x ys 0 → (ps : List ℕ) (y : ℕ) (post : List ℕ) → ys ≡ ps ++ y ∷ post → (prev y ≡ last_from x ps) × Behind post (next y)
  beside x [] s [] y post e = absurd (let z : ◌≡◌ {A = ℕ} 0 1 = cc in omega arith)
  beside x [] s (p ∷ ps) y post e = absurd (let z : ◌≡◌ {A = ℕ} 0 1 = cc in omega arith)
  beside x (v ∷ vs) s [] y post e =
      let q : v ≡ y = cc in
      let r : vs ≡ post = cc in
      (ap prev (sym q) ∙ s.1, subst (λ l. Behind l (next y)) r (subst (λ m. Behind vs (next m)) q (ahead v vs s.2)))
  beside x (v ∷ vs) s (p ∷ ps) y post e =
      let q : v ≡ p = cc in
      let r : vs ≡ ps ++ y ∷ post = cc in
      let more = beside v vs s.2 ps y post r in
      (more.0 ∙ ap (λ m. last_from m ps) q, more.1)

  -- in a ring through 0 the neighbours are those beside in the order
  pub seg_neighbours : (ys : List ℕ) → Seg next prev 0 ys 0 → Neighbours next prev (0 ∷ ys)
  seg_neighbours ys s [] y post e =
      let q : 0 ≡ y = cc in
      let r : ys ≡ post = cc in
      (tt, subst (λ l. Behind l (next y)) r (subst (λ m. Behind ys (next m)) q (ahead 0 ys s)))
  seg_neighbours ys s (p ∷ ps) y post e =
      let q : 0 ≡ p = cc in
      let r : ys ≡ ps ++ y ∷ post = cc in
      let more = beside 0 ys s ps y post r in
      (more.0 ∙ ap (λ m. last_from m ps) q, more.1)

-- what stands behind x once n stands behind a
abbrev pub put_behind : ℕ → ℕ → ℕ → List ℕ → List ℕ
put_behind a n x [] = cond (eqb x a) (n ∷ []) []
put_behind a n x (y ∷ ys) = cond (eqb x a) (n ∷ y ∷ ys) (y ∷ put_behind a n y ys)

pub put_after_is : (a n x : ℕ) (ys : List ℕ) → put_after a n (x ∷ ys) ≡ x ∷ put_behind a n x ys
put_after_is a n x [] = elim (cases_Bool (eqb x a)) [ inl t ↦ rw t refl | inr t ↦ rw t refl ]
put_after_is a n x (y ∷ ys) = elim (cases_Bool (eqb x a)) [ inl t ↦ rw t refl | inr t ↦ rw t (ap (λ l. x ∷ l) (put_after_is a n y ys)) ]

pub length_behind : (a n x : ℕ) (ys : List ℕ) → among a (x ∷ ys) ≡ true → length (put_behind a n x ys) ≡ length ys + 1
length_behind a n x [] t = elim (cases_eq x a) [
  | inl e ↦ ap length (cond-true (eqb x a) (n ∷ []) [] (eq-eqb x a e))
  | inr e ↦ absurd (false≢true (further a x [] (λ q. e (sym q)) t))
]
length_behind a n x (y ∷ ys) t = elim (cases_eq x a) [
  | inl e ↦ (ap length (cond-true (eqb x a) (n ∷ y ∷ ys) (y ∷ put_behind a n y ys) (eq-eqb x a e)) ∙ omega arith)
  | inr e ↦ (
      let more = length_behind a n y ys (further a x (y ∷ ys) (λ q. e (sym q)) t) in
      ap length (cond-false (eqb x a) (n ∷ y ∷ ys) (y ∷ put_behind a n y ys) (ne_eqb x a e)) ∙ omega arith)
]

module _ (next prev : ℕ → ℕ) (a n : ℕ) where
  abbrev pub linked : ℕ → ℕ
  linked = with_at (with_at next n (next a)) a n

  abbrev pub back : ℕ → ℕ
  back = with_at (with_at prev n a) (next a) n

  pub linked_other : (m : ℕ) → Not a m → Not n m → linked m ≡ next m
  linked_other m p q = with_other (with_at next n (next a)) a n m p ∙ with_other next n (next a) m q

  linked_new : Not a n → linked n ≡ next a
  linked_new p = with_other (with_at next n (next a)) a n n p ∙ with_same next n (next a) n refl

  back_other : (m : ℕ) → Not (next a) m → Not n m → back m ≡ prev m
  back_other m p q = with_other (with_at prev n a) (next a) n m p ∙ with_other prev n a m q

  back_new : Not (next a) n → back n ≡ a
  back_new p = with_other (with_at prev n a) (next a) n n p ∙ with_same prev n a n refl

  -- n comes behind a
  pub seg_insert : (x : ℕ) (ys : List ℕ) (z : ℕ) → Seg next prev x ys z → among a (x ∷ ys) ≡ true → apart (x ∷ ys) ≡ true → AllByRecursion (Not z) ys → AllByRecursion (Not n) (x ∷ ys) → Not n z →
      Seg linked back x (put_behind a n x ys) z
  seg_insert x [] z s t d nz nn zn = elim (cases_eq x a) [
    | inl e ↦ (
        let c : next a ≡ z = ap next (sym e) ∙ s.0 in
        let na : Not a n = λ q. nn.0 (e ∙ sym q) in
        subst (λ l. Seg linked back x l z) (sym (cond-true (eqb x a) (n ∷ []) [] (eq-eqb x a e)))
        (with_same (with_at next n (next a)) a n x e, back_new (λ q. zn (sym c ∙ sym q)) ∙ sym e, (linked_new na ∙ c, with_same (with_at prev n a) (next a) n z (sym c))))
    | inr e ↦ absurd (false≢true (further a x [] (λ q. e (sym q)) t))
  ]
  seg_insert x (y ∷ ys) z s t d nz nn zn = elim (cases_eq x a) [
    | inl e ↦ (
        let c : next a ≡ y = ap next (sym e) ∙ s.0 in
        let na : Not a n = λ q. nn.0 (e ∙ sym q) in
        let p = apart_parts x (y ∷ ys) d in
        let r = apart_parts y ys p.1 in
        let off_a : AllByRecursion (Not a) (y ∷ ys) = All-weaker (Not x) (Not a) (λ m h q. h (q ∙ sym e)) (y ∷ ys) p.0 in
        let off_c : AllByRecursion (Not (next a)) ys = All-weaker (Not y) (Not (next a)) (λ m h q. h (q ∙ c)) ys r.0 in
        subst (λ l. Seg linked back x l z) (sym (cond-true (eqb x a) (n ∷ y ∷ ys) (y ∷ put_behind a n y ys) (eq-eqb x a e))) (
          with_same (with_at next n (next a)) a n x e,
          back_new (λ q. nn.1.0 (sym c ∙ sym q)) ∙ sym e,
          (
            linked_new na ∙ c,
            with_same (with_at prev n a) (next a) n y (sym c),
            seg_frame next prev linked back y ys z
                (all_both (Not a) (Not n) _ linked_other (y ∷ ys) off_a nn.1)
                (all_both (Not (next a)) (Not n) _ back_other ys off_c nn.1.1)
                (back_other z (λ q. nz.0 (sym c ∙ sym q)) zn) s.2,
          ),
        ))
    | inr e ↦ (
        let t' = further a x (y ∷ ys) (λ q. e (sym q)) t in
        let p = apart_parts x (y ∷ ys) d in
        let r = apart_parts y ys p.1 in
        let yc : Not (next a) y = next_all next prev (λ m. y ≡ m → ⊥) a y ys z s.2 t' (All-weaker (Not y) (λ m. y ≡ m → ⊥) (λ m h q. h (sym q)) ys r.0) nz.0 in
        subst (λ l. Seg linked back x l z) (sym (cond-false (eqb x a) (n ∷ y ∷ ys) (y ∷ put_behind a n y ys) (ne_eqb x a e)))
        (linked_other x e nn.0 ∙ s.0, back_other y yc nn.1.0 ∙ s.1, seg_insert y ys z s.2 t' p.1 nz.1 nn.1 zn))
  ]

module _ (next prev : ℕ → ℕ) (n : ℕ) where
  abbrev pub linked_past : ℕ → ℕ
  linked_past = with_at next (prev n) (next n)

  abbrev pub back_past : ℕ → ℕ
  back_past = with_at prev (next n) (prev n)

  without_none : (ys : List ℕ) → AllByRecursion (Not n) ys → without n ys ≡ ys
  without_none [] a = refl
  without_none (y ∷ ys) a = cond-true _ _ _ (not_from_false _ (ne_eqb y n a.0)) ∙ ap (λ l. y ∷ l) (without_none ys a.1)

  -- n goes, which stood right behind x
  past : (x : ℕ) (ys : List ℕ) (z : ℕ) → prev n ≡ x → Seg next prev n ys z → AllByRecursion (Not x) ys → apart ys ≡ true → AllByRecursion (Not z) ys → Seg linked_past back_past x ys z
  past x [] z e s ax d nz = (with_same next (prev n) (next n) x (sym e) ∙ s.0, with_same prev (next n) (prev n) z (sym s.0) ∙ e)
  past x (y ∷ ys) z e s ax d nz =
      let p = apart_parts y ys d in
      let c = s.0 in (
        with_same next (prev n) (next n) x (sym e) ∙ s.0,
        with_same prev (next n) (prev n) y (sym c) ∙ e,
        seg_frame next prev linked_past back_past y ys z
            (All-weaker (Not x) (λ m. linked_past m ≡ next m) (λ m h. with_other next (prev n) (next n) m (λ q. h (q ∙ e))) (y ∷ ys) ax)
            (All-weaker (Not y) (λ m. back_past m ≡ prev m) (λ m h. with_other prev (next n) (prev n) m (λ q. h (q ∙ c))) ys p.0)
            (with_other prev (next n) (prev n) z (λ q. nz.0 (sym c ∙ sym q))) s.2,
      )

  pub seg_remove : (x : ℕ) (ys : List ℕ) (z : ℕ) → Seg next prev x ys z → among n ys ≡ true → apart (x ∷ ys) ≡ true → AllByRecursion (Not z) ys → Seg linked_past back_past x (without n ys) z
  seg_remove x [] z s t d nz = absurd (false≢true t)
  seg_remove x (y ∷ ys) z s t d nz =
      let p = apart_parts x (y ∷ ys) d in
      let r = apart_parts y ys p.1 in
      elim (cases_eq n y) [
        | inl e ↦ (
            let off : AllByRecursion (Not n) ys = All-weaker (Not y) (Not n) (λ m h q. h (q ∙ e)) ys r.0 in
            let w : without n (y ∷ ys) ≡ ys = cond-false _ _ _ (not_from_true _ (eq-eqb y n (sym e))) ∙ without_none ys off in
            subst (λ l. Seg linked_past back_past x l z) (sym w)
            (past x ys z (ap prev e ∙ s.1) (subst (λ m. Seg next prev m ys z) (sym e) s.2) p.0.1 r.1 nz.1))
        | inr e ↦ (
            let t' = further n y ys e t in
            let yc : Not (next n) y = next_all next prev (λ m. y ≡ m → ⊥) n y ys z s.2 (or_right (eqb n y) (among n ys) t') (All-weaker (Not y) (λ m. y ≡ m → ⊥) (λ m h q. h (sym q)) ys r.0) nz.0 in
            let xa : Not (prev n) x = prev_all next prev (λ m. x ≡ m → ⊥) n y ys z s.2 t' (λ q. p.0.0 (sym q)) (All-weaker (Not x) (λ m. x ≡ m → ⊥) (λ m h q. h (sym q)) ys p.0.1) in
            let w : without n (y ∷ ys) ≡ y ∷ without n ys = cond-true _ _ _ (not_from_false _ (ne_eqb y n (λ q. e (sym q)))) in
            subst (λ l. Seg linked_past back_past x l z) (sym w)
            (with_other next (prev n) (next n) x xa ∙ s.0, with_other prev (next n) (prev n) y yc ∙ s.1, seg_remove y ys z s.2 t' p.1 nz.1))
      ]
