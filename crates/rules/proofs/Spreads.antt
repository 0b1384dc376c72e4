-- Entries in rising key order, in the buckets where they belong.
use Rattle.std.proofs.Common.{◌≡◌, ℕ, suc, ◌+◌, ◌<◌, ◌≤◌, Bool, true, false, cond, eqb, ltb, leb, List, [], ◌∷◌, ◌++◌, length, drop, filter, sym, refl, ap, ◌∙◌, arith}
use Rattle.std.specs.List.{AllByRecursion}
use Rattle.std.proofs.lemmas.List.{length-append, append_assoc}
use Rattle.std.proofs.lemmas.List.Sums.{sum_by-cons}
use Rattle.std.proofs.lemmas.Bool.Decides.{nat_tests}
use Rattle.std.proofs.ByRecursion.{All-weaker}
use Rattle.std.proofs.lemmas.Bool.{cond_both, cond-true, cond-false, ltb-true, ltb-false, leb-true, leb-false, eqb-true, lt-ltb, le-ltb, le-leb, lt-leb, ne_eqb, true≢false, false≢true}
use Rattle.entry.specs.declared.Entry.{Entry}
use Rattle.entry.specs.Lists.{below, at, above, from, upto, put, without, filled}
use Rattle.rules.specs.Buckets.{Bucket, size, flat, total, here, at_or_below, standing, place, lowest, Rise, Spread}

pub rise_le : (lo hi : ℕ) (xs : List Entry) → Rise lo hi xs → lo ≤ hi
rise_le lo hi [] h = h
rise_le lo hi (e ∷ es) h = omega (arith, rise_le (suc e.key) hi es h.1)

pub rise_wider : (lo lo' hi hi' : ℕ) (xs : List Entry) → lo' ≤ lo → hi ≤ hi' → Rise lo hi xs → Rise lo' hi' xs
rise_wider lo lo' hi hi' [] p q h = omega arith
rise_wider lo lo' hi hi' (e ∷ es) p q h = (omega arith, rise_wider (suc e.key) (suc e.key) hi hi' es (omega arith) q h.1)

pub rise_join : (lo mid hi : ℕ) (xs ys : List Entry) → Rise lo mid xs → Rise mid hi ys → Rise lo hi (xs ++ ys)
rise_join lo mid hi [] ys h k = rise_wider mid lo hi hi ys h (omega arith) k
rise_join lo mid hi (e ∷ es) ys h k = (h.0, rise_join (suc e.key) mid hi es ys h.1 k)

abbrev pub In : ℕ → ℕ → List Entry → Type 0
In lo hi xs = AllByRecursion (λ (e : Entry). (lo ≤ e.key) × (e.key < hi)) xs

pub in_rise : (lo hi : ℕ) (xs : List Entry) → Rise lo hi xs → In lo hi xs
in_rise lo hi [] h = tt
in_rise lo hi (e ∷ es) h =
    let r : suc e.key ≤ hi = rise_le (suc e.key) hi es h.1 in
    ((h.0, r), All-weaker (λ x. (suc e.key ≤ x.key) × (x.key < hi)) (λ x. (lo ≤ x.key) × (x.key < hi)) (λ x p. (omega arith, p.1)) es (in_rise (suc e.key) hi es h.1))

pub kept_all : {X : Type 0} (p : X → Bool) (xs : List X) → AllByRecursion (λ x. p x ≡ true) xs → filter p xs ≡ xs
kept_all p [] h = refl
kept_all p (x ∷ xs) h = cond-true (p x) (x ∷ filter p xs) (filter p xs) h.0 ∙ ap (λ t. x ∷ t) (kept_all p xs h.1)

pub kept_none : {X : Type 0} (p : X → Bool) (xs : List X) → AllByRecursion (λ x. p x ≡ false) xs → filter p xs ≡ []
kept_none p [] h = refl
kept_none p (x ∷ xs) h = cond-false (p x) (x ∷ filter p xs) (filter p xs) h.0 ∙ kept_none p xs h.1

pub empty_from : {A : Type 0} (xs : List A) → filled xs ≡ false → length xs ≡ 0
empty_from [] e = refl
empty_from (x ∷ xs) e = absurd (true≢false e)

pub some_from : {A : Type 0} (xs : List A) → filled xs ≡ true → 1 ≤ length xs
some_from [] e = absurd (false≢true e)
some_from (x ∷ xs) e = omega arith

-- ---- what stands wholly below a key, or above it
module _ (lo hi k : ℕ) (xs : List Entry) (h : In lo hi xs) where
  all_of : (p : Entry → Bool) → ((e : Entry) → lo ≤ e.key → e.key < hi → p e ≡ true) → filter p xs ≡ xs
  all_of p f = kept_all p xs (All-weaker (λ e. (lo ≤ e.key) × (e.key < hi)) (λ e. p e ≡ true) (λ e q. f e q.0 q.1) xs h)

  none_of : (p : Entry → Bool) → ((e : Entry) → lo ≤ e.key → e.key < hi → p e ≡ false) → filter p xs ≡ []
  none_of p f = kept_none p xs (All-weaker (λ e. (lo ≤ e.key) × (e.key < hi)) (λ e. p e ≡ false) (λ e q. f e q.0 q.1) xs h)

  pub below_all : hi ≤ k → below k xs ≡ xs
  below_all q = all_of (λ e. ltb e.key k) (λ e a b. lt-ltb e.key k (omega arith))

  pub below_none : k ≤ lo → below k xs ≡ []
  below_none q = none_of (λ e. ltb e.key k) (λ e a b. le-ltb e.key k (omega arith))

  pub above_all : k < lo → above k xs ≡ xs
  above_all q = all_of (λ e. ltb k e.key) (λ e a b. lt-ltb k e.key (omega arith))

  pub above_none : hi ≤ k + 1 → above k xs ≡ []
  above_none q = none_of (λ e. ltb k e.key) (λ e a b. le-ltb k e.key (omega arith))

  pub at_low : hi ≤ k → at k xs ≡ []
  at_low q = none_of (λ e. eqb e.key k) (λ e a b. ne_eqb e.key k (omega arith))

  pub at_high : k < lo → at k xs ≡ []
  at_high q = none_of (λ e. eqb e.key k) (λ e a b. ne_eqb e.key k (omega arith))

  pub from_all : k ≤ lo → from k xs ≡ xs
  from_all q = all_of (λ e. leb k e.key) (λ e a b. le-leb k e.key (omega arith))

  pub from_none : hi ≤ k → from k xs ≡ []
  from_none q = none_of (λ e. leb k e.key) (λ e a b. lt-leb k e.key (omega arith))

  pub upto_all : hi ≤ k + 1 → upto k xs ≡ xs
  upto_all q = all_of (λ e. leb e.key k) (λ e a b. le-leb e.key k (omega arith))

  pub upto_none : k < lo → upto k xs ≡ []
  upto_none q = none_of (λ e. leb e.key k) (λ e a b. lt-leb e.key k (omega arith))

-- ---- an entry put in or taken out
pub rise_below : (lo hi k : ℕ) (xs : List Entry) → lo ≤ k → Rise lo hi xs → Rise lo k (below k xs)
rise_below lo hi k [] p h = p
rise_below lo hi k (e ∷ es) p h =
    cond_both (ltb e.key k) (e ∷ below k es) (below k es) (Rise lo k)
    (λ t. let q = ltb-true e.key k t in (h.0, rise_below (suc e.key) hi k es q h.1))
    (λ t. let q = ltb-false e.key k t in rw (below_none (suc e.key) hi k es (in_rise (suc e.key) hi es h.1) (omega arith)) p)

pub rise_above : (lo hi k : ℕ) (xs : List Entry) → k < hi → Rise lo hi xs → Rise (suc k) hi (above k xs)
rise_above lo hi k [] p h = p
rise_above lo hi k (e ∷ es) p h =
    cond_both (ltb k e.key) (e ∷ above k es) (above k es) (Rise (suc k) hi)
    (λ t. let q = ltb-true k e.key t in (q, rw (above_all (suc e.key) hi k es (in_rise (suc e.key) hi es h.1) (omega arith)) h.1))
    (λ t. rise_above (suc e.key) hi k es p h.1)

pub rise_put : (lo hi : ℕ) (e : Entry) (xs : List Entry) → lo ≤ e.key → e.key < hi → Rise lo hi xs → Rise lo hi (put e xs)
rise_put lo hi e xs p q h = rise_join lo e.key hi (below e.key xs) (e ∷ above e.key xs) (rise_below lo hi e.key xs p h) (omega arith, rise_above lo hi e.key xs q h)

pub rise_without : (lo hi k : ℕ) (xs : List Entry) → lo ≤ k → k < hi → Rise lo hi xs → Rise lo hi (without k xs)
rise_without lo hi k xs p q h =
    rise_join lo k hi (below k xs) (above k xs) (rise_below lo hi k xs p h)
    (rise_wider (suc k) k hi hi (above k xs) (omega arith) (omega arith) (rise_above lo hi k xs q h))

length_cond : (t : Bool) (x : Entry) (xs : List Entry) → length (cond t (x ∷ xs) xs) ≡ cond t 1 0 + length xs
length_cond true x xs = omega arith
length_cond false x xs = omega arith

three : (a k : ℕ) → cond (ltb a k) 1 0 + (cond (eqb a k) 1 0 + cond (ltb k a) 1 0) ≡ 1
three a k = grind (arith, nat_tests)

pub counted : (k : ℕ) (xs : List Entry) → length (below k xs) + (length (at k xs) + length (above k xs)) ≡ length xs
counted k [] = refl
counted k (e ∷ es) =
    omega (
      arith,
      length_cond (ltb e.key k) e (below k es),
      length_cond (eqb e.key k) e (at k es),
      length_cond (ltb k e.key) e (above k es),
      three e.key k,
      counted k es,
    )

pub one_at : (lo hi k : ℕ) (xs : List Entry) → Rise lo hi xs → length (at k xs) ≤ 1
one_at lo hi k [] h = omega arith
one_at lo hi k (e ∷ es) h =
    cond_both (eqb e.key k) (e ∷ at k es) (at k es) (λ l. length l ≤ 1)
    (λ t. let q = eqb-true e.key k t in rw (at_high (suc e.key) hi k es (in_rise (suc e.key) hi es h.1) (omega arith)) (omega arith))
    (λ t. one_at (suc e.key) hi k es h.1)

pub put_size : (e : Entry) (xs : List Entry) → filled (at e.key xs) ≡ false → length (put e xs) ≡ length xs + 1
put_size e xs h = omega (arith, counted e.key xs, empty_from (at e.key xs) h, length-append (below e.key xs) (e ∷ above e.key xs))

pub without_size : (lo hi k : ℕ) (xs : List Entry) → Rise lo hi xs → filled (at k xs) ≡ true → length (without k xs) + 1 ≡ length xs
without_size lo hi k xs r h = omega (arith, counted k xs, some_from (at k xs) h, one_at lo hi k xs r, length-append (below k xs) (above k xs))

-- ---- buckets
pub lowest_append : (top : ℕ) (s t : List Bucket) → lowest top (s ++ t) ≡ lowest (lowest top t) s
lowest_append top [] t = refl
lowest_append top (b ∷ s) t = refl

pub spread_parts : (top : ℕ) (s t : List Bucket) → Spread top (s ++ t) → Spread (lowest top t) s × Spread top t
spread_parts top [] t h = (tt, h)
spread_parts top (b ∷ s) t h =
    let q = spread_parts top s t h.1.1 in
    let e = lowest_append top s t in
    ((rw e at h.0, (rw e at h.1.0, q.0)), q.1)

pub spread_join : (top : ℕ) (s t : List Bucket) → Spread (lowest top t) s → Spread top t → Spread top (s ++ t)
spread_join top [] t h k = k
spread_join top (b ∷ s) t h k =
    let e = lowest_append top s t in
    (rw e h.0, (rw e h.1.0, spread_join top s t h.1.1 k))

pub lowest_le : (top : ℕ) (s : List Bucket) → Spread top s → lowest top s ≤ top
lowest_le top [] h = omega arith
lowest_le top (b ∷ s) h = omega (arith, lowest_le top s h.1.1)

pub rise_flat : (top : ℕ) (s : List Bucket) → Spread top s → Rise (lowest top s) top (flat s)
rise_flat top [] h = omega arith
rise_flat top (b ∷ s) h = rise_join b.rep (lowest top s) top b.items (flat s) h.1.0 (rise_flat top s h.1.1)

pub total_flat : (s : List Bucket) → total s ≡ length (flat s)
total_flat [] = refl
total_flat (b ∷ s) = omega (arith, sum_by-cons size b s, total_flat s, length-append b.items (flat s))

pub flat_append : (s t : List Bucket) → flat (s ++ t) ≡ flat s ++ flat t
flat_append [] t = refl
flat_append (b ∷ s) t = ap (λ l. b.items ++ l) (flat_append s t) ∙ sym (append_assoc b.items (flat s) (flat t))

-- the place of a key
pub record Placed (top k i : ℕ) (s : List Bucket) : Type 0 where
  pub within : i < length s
  pub at_or_above : (here i s).rep ≤ k
  pub below_next : k < lowest top (drop (suc i) s)

pub standing_placed : (top k : ℕ) (b : Bucket) (s : List Bucket) → b.rep ≤ k → k < top → Placed top k (standing k s) (b ∷ s)
standing_placed top k b [] p q = record { within = omega arith; at_or_above = p; below_next = q }
standing_placed top k b (c ∷ s) p q =
    cond_both (at_or_below k c) _ _ (λ i. Placed top k i (b ∷ c ∷ s))
    (λ t. let r = standing_placed top k c s (omega (arith, leb-true _ _ t)) q in
    record { within = omega (arith, r.within); at_or_above = r.at_or_above; below_next = r.below_next })
    (λ t. record { within = omega arith; at_or_above = p; below_next = omega (arith, leb-false _ _ t) })

pub placed : (top k : ℕ) (s : List Bucket) → lowest top s ≡ 0 → k < top → Placed top k (place k s) s
placed top k [] e q = absurd (omega arith)
placed top k (b ∷ s) e q = standing_placed top k b s (omega arith) q
