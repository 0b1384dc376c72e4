-- A table's order and free numbers, and as a bucket is opened or closed.
--
--   laid_stands, laid_order            records laid so stand, with that order
--   kept_stands, kept_order            where the links stay they stand as they did
--   order_is, neighbours, all_small, all_apart   the order of a table
--   order_long, small, next_small, ..  its length, and that its numbers and neighbours are below 128
--   free_small, free_new               the free number that is next to be taken
--   opened, closed                     a bucket opened behind another, or closed
use Rattle.std.proofs.Common.{◌≡◌, ℕ, suc, ◌+◌, ◌-◌, ◌<◌, ◌≤◌, true, false, cond, not, ◌||◌, eqb, ltb, List, [], ◌∷◌, length, get_or, set, sym, refl, ap, ◌∙◌, subst, inl, inr, arith}
use Rattle.std.specs.List.{AllByRecursion}
use Rattle.std.proofs.ByRecursion.{All-weaker}
use Rattle.std.proofs.lemmas.Bool.{cases_eq, cases_lt, eq-eqb, ne_eqb, cond-true, cond-false, cond_both, le-ltb, and_from, not_from_true, not_from_false, false≢true}
use Rattle.dictionary.specs.Pairs.{among, apart}
use Rattle.links.specs.Orders.{without, Neighbours, with_at, put_after}
use Rattle.links.proofs.Orders.{Not, with_same, with_other, all_both, all_among, further}
use Rattle.trees.specs.Counts.{single, times}
use Rattle.trees.proofs.Counts.{single_same, single_other, times_all}
use Rattle.buckets.specs.declared.Bucket.{Bucket}
use Rattle.buckets.specs.declared.Table.{Table}
use Rattle.buckets.specs.Rings.{no_bucket, rep_in, size_in, root_in, prev_in, next_in, row, rest_in, spare_in, Seg, Row, LaidIn, StandingIn}
use Rattle.buckets.specs.Tables.{next_of, prev_of, rest_of, spare_of, order_of, rep_of, size_of, root_of, no_tree, Shows}
use Rattle.buckets.proofs.Fields.{Says, written, ahead_of, back_of}
use Rattle.buckets.proofs.Chains.{row_frame, seg_row, row_row, seg_neighbours, put_behind, put_after_is, length_behind, linked, back, linked_other, seg_insert, linked_past, back_past, seg_remove, next_all, prev_all, seg_frame}

among_times : (m : ℕ) (xs : List ℕ) → among m xs ≡ true → 1 ≤ times m xs
among_times m [] t = absurd (false≢true t)
among_times m (x ∷ xs) t = elim (cases_eq m x) [
  | inl e ↦ omega (arith, single_same m x e)
  | inr e ↦ omega (arith, among_times m xs (further m x xs e t))
]

times_among : (m : ℕ) (xs : List ℕ) → times m xs ≡ 0 → among m xs ≡ false
times_among m [] t = refl
times_among m (x ∷ xs) t = elim (cases_eq m x) [
  | inl e ↦ absurd (omega (arith, single_same m x e))
  | inr e ↦ ap (λ b. b || among m xs) (ne_eqb m x e) ∙ times_among m xs (omega (arith, single_other m x e))
]

times_apart : (xs : List ℕ) → ((m : ℕ) → times m xs ≤ 1) → apart xs ≡ true
times_apart [] h = refl
times_apart (x ∷ xs) h =
    and_from _ _ (not_from_false _ (times_among x xs (omega (arith, h x, single_same x x refl)))) (times_apart xs (λ m. omega (arith, h m)))

times_behind : (m a n x : ℕ) (ys : List ℕ) → among a (x ∷ ys) ≡ true → times m (put_behind a n x ys) ≡ single m n + times m ys
times_behind m a n x [] t = elim (cases_eq x a) [
  | inl e ↦ ap (times m) (cond-true (eqb x a) (n ∷ []) [] (eq-eqb x a e))
  | inr e ↦ absurd (false≢true (further a x [] (λ q. e (sym q)) t))
]
times_behind m a n x (y ∷ ys) t = elim (cases_eq x a) [
  | inl e ↦ ap (times m) (cond-true (eqb x a) (n ∷ y ∷ ys) (y ∷ put_behind a n y ys) (eq-eqb x a e))
  | inr e ↦ (
      let more = times_behind m a n y ys (further a x (y ∷ ys) (λ q. e (sym q)) t) in
      ap (times m) (cond-false (eqb x a) (n ∷ y ∷ ys) (y ∷ put_behind a n y ys) (ne_eqb x a e)) ∙ omega arith)
]

times_without : (m n : ℕ) (ys : List ℕ) → Not n m → times m (without n ys) ≡ times m ys
times_without m n [] e = refl
times_without m n (y ∷ ys) e = elim (cases_eq y n) [
  | inl q ↦ (ap (times m) (cond-false (not (eqb y n)) (y ∷ without n ys) (without n ys) (not_from_true _ (eq-eqb y n q))) ∙ omega (arith, times_without m n ys e, single_other m y (λ r. e (r ∙ q))))
  | inr q ↦ (ap (times m) (cond-true (not (eqb y n)) (y ∷ without n ys) (without n ys) (not_from_false _ (ne_eqb y n q))) ∙ omega (arith, times_without m n ys e))
]

times_gone : (n : ℕ) (ys : List ℕ) → times n (without n ys) ≡ 0
times_gone n [] = refl
times_gone n (y ∷ ys) = elim (cases_eq y n) [
  | inl q ↦ (ap (times n) (cond-false (not (eqb y n)) (y ∷ without n ys) (without n ys) (not_from_true _ (eq-eqb y n q))) ∙ times_gone n ys)
  | inr q ↦ (ap (times n) (cond-true (not (eqb y n)) (y ∷ without n ys) (without n ys) (not_from_false _ (ne_eqb y n q))) ∙ omega (arith, times_gone n ys, single_other n y (λ r. q (sym r))))
]

length_without : (n : ℕ) (ys : List ℕ) → length (without n ys) + times n ys ≡ length ys
length_without n [] = refl
length_without n (y ∷ ys) = elim (cases_eq y n) [
  | inl q ↦ (let e = ap length (cond-false (not (eqb y n)) (y ∷ without n ys) (without n ys) (not_from_true _ (eq-eqb y n q))) in omega (arith, e, length_without n ys, single_same n y (sym q)))
  | inr q ↦ (let e = ap length (cond-true (not (eqb y n)) (y ∷ without n ys) (without n ys) (not_from_false _ (ne_eqb y n q))) in omega (arith, e, length_without n ys, single_other n y (λ r. q (sym r))))
]

at_most : (m : ℕ) → cond {A = ℕ} (ltb m 128) 1 0 ≤ 1
at_most m = cond_both (ltb m 128) 1 0 (λ x. x ≤ 1) (λ _. omega arith) (λ _. omega arith)

small_if : (m : ℕ) → 1 ≤ cond {A = ℕ} (ltb m 128) 1 0 → m < 128
small_if m h = elim (cases_lt m 128) [ inl y ↦ y | inr y ↦ absurd (omega (arith, cond-false {A = ℕ} (ltb m 128) 1 0 (le-ltb m 128 y))) ]

module _ (rs : List Bucket) (c f : ℕ) (rest spare : List ℕ) (s : LaidIn rs c f rest spare) where
  order_apart : apart (0 ∷ rest) ≡ true
  order_apart = times_apart (0 ∷ rest) (λ m. omega (arith, s.shared m, at_most m))

  order_small : AllByRecursion (λ i. i < 128) (0 ∷ rest)
  order_small = times_all (λ i. i < 128) (0 ∷ rest) (λ m h. small_if m (omega (arith, s.shared m)))

  spare_small : AllByRecursion (λ i. i < 128) spare
  spare_small = times_all (λ i. i < 128) spare (λ m h. small_if m (omega (arith, s.shared m)))

  rest_not_first : AllByRecursion (Not 0) rest
  rest_not_first = times_all (Not 0) rest (λ m h e. omega (arith, s.shared m, at_most m, single_same m 0 e))

  spare_apart : (n : ℕ) → 1 ≤ times n spare → AllByRecursion (Not n) (0 ∷ rest)
  spare_apart n h = times_all (Not n) (0 ∷ rest) (λ m k e. omega (arith, s.shared n, at_most n, ap (λ z. times z (0 ∷ rest)) e))

  order_not_spare : (n : ℕ) → 1 ≤ times n (0 ∷ rest) → AllByRecursion (Not n) spare
  order_not_spare n h = times_all (Not n) spare (λ m k e. omega (arith, s.shared n, at_most n, ap (λ z. times z spare) e))

  rest_is : rest_in rs c ≡ rest
  unfolding rest_in
  rest_is = let e : c - 1 ≡ length rest = omega (arith, s.count) in ap (λ k. row (next_in rs) k (next_in rs 0)) e ∙ seg_row (next_in rs) (prev_in rs) 0 rest 0 s.ring

  spare_is : spare_in rs c f ≡ spare
  unfolding spare_in
  spare_is = let e : 128 - c ≡ length spare = omega (arith, s.count, s.whole) in ap (λ k. row (next_in rs) k f) e ∙ row_row (next_in rs) (prev_in rs) f spare s.free

-- what a free number gives
module _ (rs us : List Bucket) (c d f g : ℕ) (rest : List ℕ) (n : ℕ) (spare : List ℕ) (s : LaidIn rs c f rest (n ∷ spare)) (a : ℕ) (held : among a (0 ∷ rest) ≡ true)
    (en : next_in us ≡ linked (next_in rs) (prev_in rs) a n) (ep : prev_in us ≡ back (next_in rs) (prev_in rs) a n)
    (ec : d ≡ c + 1) (ef : g ≡ next_in rs n) (el : length us ≡ length rs) where
  own : 1 ≤ times n (n ∷ spare)
  own = omega (arith, single_same n n refl)

  open_free : Row (next_in us) g spare
  open_free =
      let off_a = (order_not_spare rs c f rest (n ∷ spare) s a (among_times a (0 ∷ rest) held)).1 in
      let off_n = times_all (Not n) spare (λ m h e. omega (arith, s.shared m, at_most m, single_same m n e)) in
      subst (λ h. Row h g spare) (sym en) (subst (λ x. Row (linked (next_in rs) (prev_in rs) a n) x spare) (sym ef)
      (row_frame (next_in rs) (prev_in rs) (linked (next_in rs) (prev_in rs) a n) (next_in rs n) spare (all_both (Not a) (Not n) _ (linked_other (next_in rs) (prev_in rs) a n) spare off_a off_n) s.free.1))

  open_laid : LaidIn us d g (put_behind a n 0 rest) spare
  open_laid = record {
    long = el ∙ s.long;
    count = omega (arith, ec, s.count, length_behind a n 0 rest held);
    ring = subst (λ h. Seg h (prev_in us) 0 (put_behind a n 0 rest) 0) (sym en) (subst (λ h. Seg (linked (next_in rs) (prev_in rs) a n) h 0 (put_behind a n 0 rest) 0) (sym ep)
        (seg_insert (next_in rs) (prev_in rs) a n 0 rest 0 s.ring held (order_apart rs c f rest (n ∷ spare) s) (rest_not_first rs c f rest (n ∷ spare) s) (spare_apart rs c f rest (n ∷ spare) s n own) (spare_apart rs c f rest (n ∷ spare) s n own).0));
    free = open_free;
    shared = λ m. omega (arith, s.shared m, times_behind m a n 0 rest held);
    whole = omega (arith, s.whole, length_behind a n 0 rest held);
  }

module _ (rs us : List Bucket) (c d f g : ℕ) (rest spare : List ℕ) (s : LaidIn rs c f rest spare) (n : ℕ) (held : among n rest ≡ true)
    (en : next_in us ≡ with_at (linked_past (next_in rs) (prev_in rs) n) n f) (ep : prev_in us ≡ back_past (next_in rs) (prev_in rs) n)
    (ec : d + 1 ≡ c) (ef : g ≡ n) (el : length us ≡ length rs) where
  one : times n rest ≡ 1
  one = omega (arith, s.shared n, at_most n, among_times n rest held)

  close_ring : Seg (with_at (linked_past (next_in rs) (prev_in rs) n) n f) (back_past (next_in rs) (prev_in rs) n) 0 (without n rest) 0
  close_ring =
      let n0 : Not n 0 = λ e. omega (arith, s.shared n, at_most n, one, single_same n 0 (sym e)) in
      let off : AllByRecursion (Not n) (0 ∷ without n rest) = (n0, times_all (Not n) (without n rest) (λ m h e. omega (arith, times_gone n rest, ap (λ z. times z (without n rest)) e))) in
      seg_frame (linked_past (next_in rs) (prev_in rs) n) (back_past (next_in rs) (prev_in rs) n) (with_at (linked_past (next_in rs) (prev_in rs) n) n f) (back_past (next_in rs) (prev_in rs) n) 0 (without n rest) 0
      (All-weaker (Not n) _ (λ m h. with_other (linked_past (next_in rs) (prev_in rs) n) n f m h) (0 ∷ without n rest) off)
      (times_all _ (without n rest) (λ m _. refl)) refl
      (seg_remove (next_in rs) (prev_in rs) n 0 rest 0 s.ring held (order_apart rs c f rest spare s) (rest_not_first rs c f rest spare s))

  close_free : Row (with_at (linked_past (next_in rs) (prev_in rs) n) n f) n (n ∷ spare)
  close_free =
      let nx = with_at (linked_past (next_in rs) (prev_in rs) n) n f in
      let before_small = prev_all (next_in rs) (prev_in rs) (λ m. 1 ≤ times m (0 ∷ rest)) n 0 rest 0 s.ring held (omega (arith, single_same 0 0 refl)) (times_all _ rest (λ m h. omega arith)) in
      let off_p = order_not_spare rs c f rest spare s (prev_in rs n) before_small in
      let off_n = order_not_spare rs c f rest spare s n (omega (arith, one)) in (
        refl,
        subst (λ x. Row nx x spare) (sym (with_same (linked_past (next_in rs) (prev_in rs) n) n f n refl))
            (row_frame (next_in rs) (prev_in rs) nx f spare
            (all_both (Not n) (Not (prev_in rs n)) _ (λ m h k. with_other (linked_past (next_in rs) (prev_in rs) n) n f m h ∙ with_other (next_in rs) (prev_in rs n) (next_in rs n) m k) spare off_n off_p) s.free),
      )

  close_shared : (m : ℕ) → times m (0 ∷ without n rest) + times m (n ∷ spare) ≡ cond (ltb m 128) 1 0
  close_shared m = elim (cases_eq m n) [
    | inl e ↦ subst (λ z. times z (0 ∷ without n rest) + times z (n ∷ spare) ≡ cond (ltb z 128) 1 0) (sym e) (omega (arith, s.shared n, one, times_gone n rest, single_same n n refl))
    | inr e ↦ omega (arith, s.shared m, times_without m n rest e, single_other m n e)
  ]

  close_laid : LaidIn us d g (without n rest) (n ∷ spare)
  close_laid = record {
    long = el ∙ s.long;
    count = omega (arith, ec, s.count, length_without n rest, one);
    ring = subst (λ h. Seg h (prev_in us) 0 (without n rest) 0) (sym en) (subst (λ h. Seg (with_at (linked_past (next_in rs) (prev_in rs) n) n f) h 0 (without n rest) 0) (sym ep) close_ring);
    free = subst (λ h. Row h g (n ∷ spare)) (sym en) (subst (λ x. Row (with_at (linked_past (next_in rs) (prev_in rs) n) n f) x (n ∷ spare)) (sym ef) close_free);
    shared = close_shared;
    whole = omega (arith, s.whole, length_without n rest, one);
  }

-- ---- records as they stand
pub laid_stands : (rs : List Bucket) (c f : ℕ) (rest spare : List ℕ) → LaidIn rs c f rest spare → StandingIn rs c f
laid_stands rs c f rest spare s =
    subst (λ l. LaidIn rs c f l (spare_in rs c f)) (sym (rest_is rs c f rest spare s)) (subst (LaidIn rs c f rest) (sym (spare_is rs c f rest spare s)) s)

-- ---- a table
pub order_is : (t : Table) → order_of t ≡ 0 ∷ rest_of t
unfolding order_of
order_is t = refl

pub laid_order : (t : Table) (rs : List Bucket) (c f : ℕ) (rest spare : List ℕ) → LaidIn rs c f rest spare → t.records ≡ rs → t.count ≡ c → order_of t ≡ 0 ∷ rest
laid_order t rs c f rest spare s er ec = order_is t ∙ ap (λ l. 0 ∷ l) (ap (λ z. rest_in z t.count) er ∙ ap (rest_in rs) ec ∙ rest_is rs c f rest spare s)

-- where the links stay it stands, with the same order
module _ (t : Table) (us : List Bucket) {reps sizes roots : ℕ → ℕ} (r : Says us (length t.records) reps sizes roots (prev_of t) (next_of t)) where
  kept : LaidIn us t.count t.free (rest_of t) (spare_of t)
  kept =
      let s = t.stands in
      record {
        long = r.long ∙ s.long;
        count = s.count;
        ring = subst (λ h. Seg h (prev_in us) 0 (rest_of t) 0) (sym r.next) (subst (λ h. Seg (next_of t) h 0 (rest_of t) 0) (sym r.prev) s.ring);
        free = subst (λ h. Row h t.free (spare_of t)) (sym r.next) s.free;
        shared = s.shared;
        whole = s.whole;
      }

  pub kept_stands : StandingIn us t.count t.free
  kept_stands = laid_stands us t.count t.free (rest_of t) (spare_of t) kept

  pub kept_order : (u : Table) → u.records ≡ us → u.count ≡ t.count → order_of u ≡ order_of t
  kept_order u er ec = laid_order u us t.count t.free (rest_of t) (spare_of t) kept er ec ∙ sym (order_is t)

module _ (t : Table) where
  pub neighbours : Neighbours (next_of t) (prev_of t) (order_of t)
  neighbours = subst (Neighbours (next_of t) (prev_of t)) (sym (order_is t)) (seg_neighbours (next_of t) (prev_of t) (rest_of t) t.stands.ring)

  smalls : AllByRecursion (λ i. i < 128) (0 ∷ rest_of t)
  smalls = order_small t.records t.count t.free (rest_of t) (spare_of t) t.stands

  pub all_small : AllByRecursion (λ i. i < 128) (order_of t)
  all_small = subst (AllByRecursion (λ i. i < 128)) (sym (order_is t)) smalls

  pub all_apart : apart (order_of t) ≡ true
  all_apart = ap apart (order_is t) ∙ order_apart t.records t.count t.free (rest_of t) (spare_of t) t.stands

  pub order_long : length (order_of t) ≡ t.count
  order_long = ap length (order_is t) ∙ omega (arith, t.stands.count)

  pub small : (i : ℕ) → among i (order_of t) ≡ true → i < 128
  small i h = all_among (λ i. i < 128) (order_of t) i all_small h

  pub next_small : (i : ℕ) → among i (order_of t) ≡ true → next_of t i < 128
  next_small i h = next_all (next_of t) (prev_of t) (λ m. m < 128) i 0 (rest_of t) 0 t.stands.ring (sym (ap (among i) (order_is t)) ∙ h) smalls.1 smalls.0

  -- a bucket other than the first stands behind it
  pub later : (i : ℕ) → 0 < i → among i (order_of t) ≡ true → among i (rest_of t) ≡ true
  later i h held = further i 0 (rest_of t) (λ e. omega arith) (sym (ap (among i) (order_is t)) ∙ held)

  pub prev_small : (i : ℕ) → 0 < i → among i (order_of t) ≡ true → prev_of t i < 128
  prev_small i h held = prev_all (next_of t) (prev_of t) (λ m. m < 128) i 0 (rest_of t) 0 t.stands.ring (later i h held) smalls.0 smalls.1

  -- a table that is not full has a free number
  module _ (h : length (order_of t) < 128) where
    abbrev left : List ℕ
    left = row (next_of t) (127 - t.count) (next_of t t.free)

    spare_first : spare_of t ≡ t.free ∷ left
    unfolding spare_in
    spare_first = let e : 128 - t.count ≡ suc (127 - t.count) = omega (arith, order_long) in ap (λ k. row (next_of t) k t.free) e

    ready : LaidIn t.records t.count t.free (rest_of t) (t.free ∷ left)
    ready = subst (LaidIn t.records t.count t.free (rest_of t)) spare_first t.stands

    pub free_small : t.free < 128
    free_small = (spare_small t.records t.count t.free (rest_of t) (t.free ∷ left) ready).0

    pub free_new : among t.free (order_of t) ≡ false
    free_new = ap (among t.free) (order_is t) ∙ times_among t.free (0 ∷ rest_of t) (omega (arith, ready.shared t.free, at_most t.free, single_same t.free t.free refl))

-- ---- opening and closing
-- the free number becomes a bucket of r behind a, before x
module _ (t : Table) (a r x g : ℕ) (held : among a (order_of t) ≡ true) (room : length (order_of t) < 128) (ex : x ≡ next_of t a) (eg : g ≡ next_of t t.free) where
  abbrev filled : List Bucket
  filled = set t.records t.free (record { rep = r; size = 0; root = no_tree; prev = a; next = x })

  abbrev before : List Bucket
  before = set filled a (record (get_or filled a no_bucket) { next = t.free })

  abbrev pub opened : List Bucket
  opened = set before x (record (get_or before x no_bucket) { prev = t.free })

  opened_says : Says opened (length t.records) (with_at (rep_of t) t.free r) (with_at (size_of t) t.free 0) (with_at (root_of t) t.free no_tree) (back (next_of t) (prev_of t) a t.free) (linked (next_of t) (prev_of t) a t.free)
  opened_says =
      let s = t.stands in
      let w = written t.records t.free (record { rep = r; size = 0; root = no_tree; prev = a; next = x }) (omega (arith, s.long, free_small t room)) in
      let b = ahead_of filled a t.free (omega (arith, w.long, s.long, small t a held)) in
      let o = back_of before x t.free (omega (arith, b.long, w.long, s.long, next_small t a held)) in
      record {
        rep = o.rep ∙ b.rep ∙ w.rep;
        size = o.size ∙ b.size ∙ w.size;
        root = o.root ∙ b.root ∙ w.root;
        prev = o.prev ∙ ap (λ h. with_at h x t.free) (b.prev ∙ w.prev) ∙ ap (λ z. with_at (with_at (prev_of t) t.free a) z t.free) ex;
        next = o.next ∙ b.next ∙ ap (λ h. with_at h a t.free) w.next ∙ ap (λ z. with_at (with_at (next_of t) t.free z) a t.free) ex;
        long = o.long ∙ b.long ∙ w.long;
      }

  opened_laid : LaidIn opened (t.count + 1) g (put_behind a t.free 0 (rest_of t)) (left t room)
  opened_laid =
      let o = opened_says in
      open_laid t.records opened t.count (t.count + 1) t.free g (rest_of t) t.free (left t room) (ready t room) a (sym (ap (among a) (order_is t)) ∙ held) o.next o.prev refl eg o.long

  pub opened_stands : StandingIn opened (t.count + 1) g
  opened_stands = laid_stands opened (t.count + 1) g (put_behind a t.free 0 (rest_of t)) (left t room) opened_laid

  pub opened_shows : (u : Table) → u.records ≡ opened → u.count ≡ t.count + 1 → Shows u (put_after a t.free (order_of t)) (with_at (rep_of t) t.free r) (with_at (size_of t) t.free 0) (with_at (root_of t) t.free no_tree)
  opened_shows u eu ec =
      let o = opened_says in
      record {
        order = laid_order u opened (t.count + 1) g (put_behind a t.free 0 (rest_of t)) (left t room) opened_laid eu ec ∙ sym (ap (put_after a t.free) (order_is t) ∙ put_after_is a t.free 0 (rest_of t));
        rep = ap rep_in eu ∙ o.rep;
        size = ap size_in eu ∙ o.size;
        root = ap root_in eu ∙ o.root;
      }

without_first : (n : ℕ) (rest : List ℕ) → 0 < n → without n (0 ∷ rest) ≡ 0 ∷ without n rest
without_first n rest h = cond-true (not (eqb 0 n)) (0 ∷ without n rest) (without n rest) (not_from_false _ (ne_eqb 0 n (λ e. omega arith)))

-- n, between p and x, is a free number
module _ (t : Table) (n p x d : ℕ) (held : among n (order_of t) ≡ true) (h : 0 < n) (ep : p ≡ prev_of t n) (ex : x ≡ next_of t n) (ed : d + 1 ≡ t.count) where
  abbrev ahead : List Bucket
  ahead = set t.records p (record (get_or t.records p no_bucket) { next = x })

  abbrev around : List Bucket
  around = set ahead x (record (get_or ahead x no_bucket) { prev = p })

  abbrev pub closed : List Bucket
  closed = set around n (record (get_or around n no_bucket) { next = t.free })

  closed_says : Says closed (length t.records) (rep_of t) (size_of t) (root_of t) (back_past (next_of t) (prev_of t) n) (with_at (linked_past (next_of t) (prev_of t) n) n t.free)
  closed_says =
      let s = t.stands in
      let a = ahead_of t.records p x (omega (arith, s.long, prev_small t n h held)) in
      let b = back_of ahead x p (omega (arith, a.long, s.long, next_small t n held)) in
      let o = ahead_of around n t.free (omega (arith, b.long, a.long, s.long, small t n held)) in
      record {
        rep = o.rep ∙ b.rep ∙ a.rep;
        size = o.size ∙ b.size ∙ a.size;
        root = o.root ∙ b.root ∙ a.root;
        prev = o.prev ∙ b.prev ∙ ap (λ f. with_at f x p) a.prev ∙ ap (λ z. with_at (prev_of t) z p) ex ∙ ap (with_at (prev_of t) (next_of t n)) ep;
        next = o.next ∙ ap (λ f. with_at f n t.free) (b.next ∙ a.next ∙ ap (λ z. with_at (next_of t) z x) ep ∙ ap (with_at (next_of t) (prev_of t n)) ex);
        long = o.long ∙ b.long ∙ a.long;
      }

  closed_laid : LaidIn closed d n (without n (rest_of t)) (n ∷ spare_of t)
  closed_laid =
      let o = closed_says in
      close_laid t.records closed t.count d t.free n (rest_of t) (spare_of t) t.stands n (later t n h held) o.next o.prev ed refl o.long

  pub closed_stands : StandingIn closed d n
  closed_stands = laid_stands closed d n (without n (rest_of t)) (n ∷ spare_of t) closed_laid

  pub closed_shows : (u : Table) → u.records ≡ closed → u.count ≡ d → Shows u (without n (order_of t)) (rep_of t) (size_of t) (root_of t)
  closed_shows u eu ec =
      let o = closed_says in
      record {
        order = laid_order u closed d n (without n (rest_of t)) (n ∷ spare_of t) closed_laid eu ec ∙ sym (ap (without n) (order_is t) ∙ without_first n (rest_of t) h);
        rep = ap rep_in eu ∙ o.rep;
        size = ap size_in eu ∙ o.size;
        root = ap root_in eu ∙ o.root;
      }
