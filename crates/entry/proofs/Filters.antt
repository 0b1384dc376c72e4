-- What the filters leave of two joined lists, where a key parts them.
--
--   kept_all, kept_none   a filter that every element passes; that none passes
--   kept_short            a filter makes no list longer
--   front_only, back_only a filter that none of the second list passes; of the first
--   over-…, under-…       each filter at a key below every entry; above every entry
--   key-…                 each filter around the key's own entry
--   …-left, …-right       each filter at a key that parts two joined lists
--   put-…, without-…      changes to one of two joined lists
--   three_long            below, at and above make up the length
--   put_long, without_long the lengths after a change
--   first_append, final_append the first and the last entry of two joined lists
--   …-past                each filter at a first entry below the key
--   between-…             spans of joined lists
use Rattle.std.proofs.Common.{◌≡◌, ℕ, ◌+◌, ◌<◌, ◌≤◌, Bool, true, false, eqb, ltb, leb, List, [], ◌∷◌, ◌++◌, length, filter, sym, refl, ap, ◌∙◌, inl, inr, append_assoc, arith, length-append}
use Rattle.std.specs.List.{AllByRecursion}
use Rattle.std.proofs.lemmas.List.Elements.{filter-append}
use Rattle.std.proofs.lemmas.List.Sums.{length-filter, count_by-le-length}
use Rattle.std.proofs.ByRecursion.{all_kept_by}
use Rattle.std.proofs.lemmas.List.{append-nil}
use Rattle.std.proofs.lemmas.Bool.{lt-ltb, le-ltb, le-leb, lt-leb, eq-eqb, ne_eqb, cond-true, cond-false, cases_order}
use Rattle.entry.specs.declared.Entry.{Entry}
use Rattle.entry.specs.Lists.{below, at, above, from, upto, between, put, without, filled, first, final, Over, Under}

pub kept_all : {X : Type 0} (p : X → Bool) (P : X → Type 0) → ((x : X) → P x → p x ≡ true) → (xs : List X) → AllByRecursion P xs → filter p xs ≡ xs
kept_all p P f [] h = refl
kept_all p P f (x ∷ xs) h = cond-true (p x) _ _ (f x h.0) ∙ ap (λ z. x ∷ z) (kept_all p P f xs h.1)

pub kept_none : {X : Type 0} (p : X → Bool) (P : X → Type 0) → ((x : X) → P x → p x ≡ false) → (xs : List X) → AllByRecursion P xs → filter p xs ≡ []
kept_none p P f [] h = refl
kept_none p P f (x ∷ xs) h = cond-false (p x) _ _ (f x h.0) ∙ kept_none p P f xs h.1

pub kept_short : {X : Type 0} (p : X → Bool) (xs : List X) → length (filter p xs) ≤ length xs
kept_short p xs = omega (arith, length-filter p xs, count_by-le-length p xs)

pub front_only : {X : Type 0} (p : X → Bool) (xs ys : List X) → filter p ys ≡ [] → filter p (xs ++ ys) ≡ filter p xs
front_only p xs ys e = filter-append p xs ys ∙ ap (λ z. filter p xs ++ z) e ∙ append-nil (filter p xs)

pub back_only : {X : Type 0} (p : X → Bool) (xs ys : List X) → filter p xs ≡ [] → filter p (xs ++ ys) ≡ filter p ys
back_only p xs ys e = filter-append p xs ys ∙ ap (λ z. z ++ filter p ys) e

module _ (k : ℕ) (xs : List Entry) (o : Over k xs) where
  pub over_below : below k xs ≡ []
  over_below = kept_none _ (λ (e : Entry). k < e.key) (λ e h. le-ltb e.key k (omega arith)) xs o

  pub over_at : at k xs ≡ []
  over_at = kept_none _ (λ (e : Entry). k < e.key) (λ e h. ne_eqb e.key k (omega arith)) xs o

  pub over_above : above k xs ≡ xs
  over_above = kept_all _ (λ (e : Entry). k < e.key) (λ e h. lt-ltb k e.key h) xs o

  pub over_from : from k xs ≡ xs
  over_from = kept_all _ (λ (e : Entry). k < e.key) (λ e h. le-leb k e.key (omega arith)) xs o

  pub over_upto : upto k xs ≡ []
  over_upto = kept_none _ (λ (e : Entry). k < e.key) (λ e h. lt-leb e.key k h) xs o

module _ (k : ℕ) (xs : List Entry) (u : Under k xs) where
  pub under_below : below k xs ≡ xs
  under_below = kept_all _ (λ (e : Entry). e.key < k) (λ e h. lt-ltb e.key k h) xs u

  pub under_at : at k xs ≡ []
  under_at = kept_none _ (λ (e : Entry). e.key < k) (λ e h. ne_eqb e.key k (omega arith)) xs u

  pub under_above : above k xs ≡ []
  under_above = kept_none _ (λ (e : Entry). e.key < k) (λ e h. le-ltb k e.key (omega arith)) xs u

  pub under_from : from k xs ≡ []
  under_from = kept_none _ (λ (e : Entry). e.key < k) (λ e h. lt-leb k e.key h) xs u

  pub under_upto : upto k xs ≡ xs
  under_upto = kept_all _ (λ (e : Entry). e.key < k) (λ e h. le-leb e.key k (omega arith)) xs u

-- the key's own entry between the lower and the higher ones
module _ (k : ℕ) (xs : List Entry) (e : Entry) (ys : List Entry) (is : k ≡ e.key) (u : Under k xs) (o : Over k ys) where
  pub key_below : below k (xs ++ e ∷ ys) ≡ xs
  key_below = front_only _ xs (e ∷ ys) (cond-false (ltb e.key k) _ _ (le-ltb e.key k (omega arith)) ∙ over_below k ys o) ∙ under_below k xs u

  pub key_at : at k (xs ++ e ∷ ys) ≡ e ∷ []
  key_at = back_only _ xs (e ∷ ys) (under_at k xs u) ∙ cond-true (eqb e.key k) _ _ (eq-eqb e.key k (sym is)) ∙ ap (λ z. e ∷ z) (over_at k ys o)

  pub key_above : above k (xs ++ e ∷ ys) ≡ ys
  key_above = back_only _ xs (e ∷ ys) (under_above k xs u) ∙ cond-false (ltb k e.key) _ _ (le-ltb k e.key (omega arith)) ∙ over_above k ys o

  pub key_from : from k (xs ++ e ∷ ys) ≡ e ∷ ys
  key_from = back_only _ xs (e ∷ ys) (under_from k xs u) ∙ cond-true (leb k e.key) _ _ (le-leb k e.key (omega arith)) ∙ ap (λ z. e ∷ z) (over_from k ys o)

  pub key_upto : upto k (xs ++ e ∷ ys) ≡ xs ++ e ∷ []
  key_upto = filter-append _ xs (e ∷ ys) ∙ (λ d. under_upto k xs u d ++ last d)
    where
      last : upto k (e ∷ ys) ≡ e ∷ []
      last = cond-true (leb e.key k) _ _ (le-leb e.key k (omega arith)) ∙ ap (λ z. e ∷ z) (over_upto k ys o)

  pub without_key : without k (xs ++ e ∷ ys) ≡ xs ++ ys
  without_key d = key_below d ++ key_above d

-- a key below the second list
module _ (k : ℕ) (xs zs : List Entry) (o : Over k zs) where
  pub at_left : at k (xs ++ zs) ≡ at k xs
  at_left = front_only _ xs zs (over_at k zs o)

  pub below_left : below k (xs ++ zs) ≡ below k xs
  below_left = front_only _ xs zs (over_below k zs o)

  pub above_left : above k (xs ++ zs) ≡ above k xs ++ zs
  above_left = filter-append _ xs zs ∙ ap (λ z. above k xs ++ z) (over_above k zs o)

  pub from_left : from k (xs ++ zs) ≡ from k xs ++ zs
  from_left = filter-append _ xs zs ∙ ap (λ z. from k xs ++ z) (over_from k zs o)

  pub upto_left : upto k (xs ++ zs) ≡ upto k xs
  upto_left = front_only _ xs zs (over_upto k zs o)

  pub without_left : without k (xs ++ zs) ≡ without k xs ++ zs
  without_left = (λ d. below_left d ++ above_left d) ∙ sym (append_assoc (below k xs) (above k xs) zs)

pub put_left : (e : Entry) (xs zs : List Entry) → Over e.key zs → put e (xs ++ zs) ≡ put e xs ++ zs
put_left e xs zs o = (λ d. below_left e.key xs zs o d ++ e ∷ above_left e.key xs zs o d) ∙ sym (append_assoc (below e.key xs) (e ∷ above e.key xs) zs)

-- a key above the first list
module _ (k : ℕ) (xs zs : List Entry) (u : Under k xs) where
  pub at_right : at k (xs ++ zs) ≡ at k zs
  at_right = back_only _ xs zs (under_at k xs u)

  pub below_right : below k (xs ++ zs) ≡ xs ++ below k zs
  below_right = filter-append _ xs zs ∙ ap (λ z. z ++ below k zs) (under_below k xs u)

  pub above_right : above k (xs ++ zs) ≡ above k zs
  above_right = back_only _ xs zs (under_above k xs u)

  pub from_right : from k (xs ++ zs) ≡ from k zs
  from_right = back_only _ xs zs (under_from k xs u)

  pub upto_right : upto k (xs ++ zs) ≡ xs ++ upto k zs
  upto_right = filter-append _ xs zs ∙ ap (λ z. z ++ upto k zs) (under_upto k xs u)

  pub without_right : without k (xs ++ zs) ≡ xs ++ without k zs
  without_right = (λ d. below_right d ++ above_right d) ∙ append_assoc xs (below k zs) (above k zs)

pub put_right : (e : Entry) (xs zs : List Entry) → Under e.key xs → put e (xs ++ zs) ≡ xs ++ put e zs
put_right e xs zs u = (λ d. below_right e.key xs zs u d ++ e ∷ above_right e.key xs zs u d) ∙ append_assoc xs (below e.key zs) (e ∷ above e.key zs)

pub three_long : (k : ℕ) (xs : List Entry) → length (below k xs) + length (at k xs) + length (above k xs) ≡ length xs
three_long k [] = refl
three_long k (x ∷ xs) = let more = three_long k xs in elim (cases_order x.key k) [
  | inl e ↦ rw (le-ltb x.key k (omega arith), eq-eqb x.key k e, le-ltb k x.key (omega arith)) (omega arith)
  | inr h ↦ elim h [
    | inl lt ↦ rw (lt-ltb x.key k lt, ne_eqb x.key k (omega arith), le-ltb k x.key (omega arith)) (omega arith)
    | inr gt ↦ rw (le-ltb x.key k (omega arith), ne_eqb x.key k (omega arith), lt-ltb k x.key gt) (omega arith)
  ]
]

pub put_long : (e : Entry) (xs : List Entry) → at e.key xs ≡ [] → length (put e xs) ≡ length xs + 1
put_long e xs none = omega (arith, length-append (below e.key xs) (e ∷ above e.key xs), three_long e.key xs, ap length none)

pub without_long : (k : ℕ) (xs : List Entry) → length (without k xs) + length (at k xs) ≡ length xs
without_long k xs = omega (arith, length-append (below k xs) (above k xs), three_long k xs)

-- the entries of a span, in two steps
pub between_append : (a b : ℕ) (xs ys : List Entry) → between a b (xs ++ ys) ≡ between a b xs ++ between a b ys
between_append a b xs ys = ap (from a) (filter-append _ xs ys) ∙ filter-append _ (upto b xs) (upto b ys)

pub first_append : (xs ys : List Entry) → filled xs ≡ true → first (xs ++ ys) ≡ first xs
first_append [] ys h = absurd (let z : ◌≡◌ {A = ℕ} 0 1 = cc in omega arith)
first_append (x ∷ xs) ys h = refl

pub final_append : (xs : List Entry) (y : Entry) (ys : List Entry) → final (xs ++ y ∷ ys) ≡ final (y ∷ ys)
final_append [] y ys = refl
final_append (x ∷ []) y ys = refl
final_append (x ∷ w ∷ xs) y ys = final_append (w ∷ xs) y ys

-- an entry below the key, in front
module _ (k : ℕ) (x : Entry) (xs : List Entry) (lt : x.key < k) where
  pub at_past : at k (x ∷ xs) ≡ at k xs
  at_past = cond-false (eqb x.key k) _ _ (ne_eqb x.key k (omega arith))

  pub from_past : from k (x ∷ xs) ≡ from k xs
  from_past = cond-false (leb k x.key) _ _ (lt-leb k x.key lt)

  pub upto_past : upto k (x ∷ xs) ≡ x ∷ upto k xs
  upto_past = cond-true (leb x.key k) _ _ (le-leb x.key k (omega arith))

  pub below_past : below k (x ∷ xs) ≡ x ∷ below k xs
  below_past = cond-true (ltb x.key k) _ _ (lt-ltb x.key k lt)

  pub above_past : above k (x ∷ xs) ≡ above k xs
  above_past = cond-false (ltb k x.key) _ _ (le-ltb k x.key (omega arith))

  pub without_past : without k (x ∷ xs) ≡ x ∷ without k xs
  without_past d = below_past d ++ above_past d

pub put_past : (e x : Entry) (xs : List Entry) → x.key < e.key → put e (x ∷ xs) ≡ x ∷ put e xs
put_past e x xs lt d = below_past e.key x xs lt d ++ e ∷ above_past e.key x xs lt d

pub under_between : (a b : ℕ) (xs : List Entry) → Under a xs → between a b xs ≡ []
under_between a b xs u = under_from a (upto b xs) (all_kept_by _ (λ (e : Entry). e.key < a) xs u)

pub over_between : (a b : ℕ) (xs : List Entry) → Over b xs → between a b xs ≡ []
over_between a b xs o = ap (from a) (over_upto b xs o)

pub between_in : (a b : ℕ) (x : Entry) (xs : List Entry) → a ≤ x.key → x.key ≤ b → between a b (x ∷ xs) ≡ x ∷ between a b xs
between_in a b x xs le ge = ap (from a) (cond-true (leb x.key b) _ _ (le-leb x.key b ge)) ∙ cond-true (leb a x.key) _ _ (le-leb a x.key le)
