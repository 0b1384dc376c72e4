-- The level search answers the place of the key's bucket.
use Rattle.std.proofs.Common.{◌≡◌, ℕ, zero, suc, ◌+◌, ◌-◌, ◌*◌, ◌/◌, ◌%◌, ◌^◌, ◌<◌, ◌≤◌, Bool, true, false, cond, eqb, leb, ◌⊎◌, List, [], ◌∷◌, length, get_or, drop, sym, refl, ap, ◌∙◌, inl, inr, div-lt_iff_lt-mul, div-one, arith, drop-cons}
use native.Mathlib.Nat.{pow-succ'}
use Rattle.std.proofs.lemmas.List.{length-map, get_or-map}
use Rattle.std.proofs.lemmas.Bool.{cond_both, leb-true, leb-false, eqb-true, eqb-false, eq-eqb, or_cases, or_parts, or_left, cases_order, true≢false, false≢true}
use Rattle.std.proofs.lemmas.Nat.{pow_pos, shr-shr, shr_split, div_below}
use Rattle.levels.specs.Nodes.{node_at, any, under, present}
use Rattle.rules.specs.Buckets.{Bucket, hollow, reps, here, place, lowest, Spread, Sound}
use Rattle.rules.specs.Search.{deepest_by, deepest, first_of, last_of, named, found, Climb, Sits}
use Rattle.rules.specs.Laws.{Finds}
use Rattle.rules.proofs.Spreads.{Placed, placed}
use Rattle.rules.proofs.Calls.{spot, at_spot}

-- ---- the search ends between a level with a pair and one without
pub record Ends (there : ℕ → Bool) (top j : ℕ) : Type 0 where
  pub below : j < top
  pub pair : there j ≡ true
  pub no_pair : (suc j ≡ top) ⊎ (there (suc j) ≡ false)

deepest_ends : (f : ℕ) (there : ℕ → Bool) (top lo hi : ℕ) → hi - lo ≤ 2 ^ f → lo < hi → hi ≤ top → there lo ≡ true → (hi ≡ top) ⊎ (there hi ≡ false) →
    Ends there top (deepest_by f there lo hi)
unfolding deepest_by
deepest_ends zero there top lo hi h l u a b =
    let e : hi ≡ suc lo = omega arith in
    record { below = omega arith; pair = a; no_pair = rw e at b }
deepest_ends (suc f) there top lo hi h l u a b =
    let mid = (lo + hi) / 2 in
    let p : 2 ^ suc f ≡ 2 * 2 ^ f = pow-succ' 2 f in
    cond_both (leb (hi - lo) 1) lo (cond (there mid) (deepest_by f there mid hi) (deepest_by f there lo mid)) (Ends there top)
    (λ t. let q = leb-true (hi - lo) 1 t in
    let e : hi ≡ suc lo = omega arith in
    record { below = omega arith; pair = a; no_pair = rw e at b })
    (λ t. let q = leb-false (hi - lo) 1 t in
    cond_both (there mid) (deepest_by f there mid hi) (deepest_by f there lo mid) (Ends there top)
    (λ y. deepest_ends f there top mid hi (omega arith) (omega arith) u y b)
    (λ y. deepest_ends f there top lo mid (omega arith) (omega arith) (omega arith) a (inr y)))

-- ---- one place only
sits_once : (k i j : ℕ) (rs : List ℕ) → Climb rs → Sits k i rs → Sits k j rs → i ≡ j
sits_once k i j rs c p q = elim (cases_order i j) [
  | inl e ↦ e
  | inr (inl h) ↦ absurd (elim (cases_order (suc i) j) [
    | inl e ↦ (let z = p.high (omega (arith, q.within)) in let y : k < get_or rs j 0 = rw e at z in omega (arith, q.low))
    | inr (inl l) ↦ (omega (arith, p.high (omega (arith, q.within)), q.low, c (suc i) j l q.within))
    | inr (inr l) ↦ (omega arith)
  ])
  | inr (inr h) ↦ absurd (elim (cases_order (suc j) i) [
    | inl e ↦ (let z = q.high (omega (arith, p.within)) in let y : k < get_or rs i 0 = rw e at z in omega (arith, p.low))
    | inr (inl l) ↦ (omega (arith, q.high (omega (arith, p.within)), p.low, c (suc j) i l p.within))
    | inr (inr l) ↦ (omega arith)
  ])
]

-- ---- the first and the last that pass
pub record First (p : ℕ → Bool) (i : ℕ) (rs : List ℕ) : Type 0 where
  pub within : i < length rs
  pub passes : p (get_or rs i 0) ≡ true
  pub none_before : (j : ℕ) → j < i → p (get_or rs j 0) ≡ false

pub first_is : (p : ℕ → Bool) (rs : List ℕ) → any p rs ≡ true → First p (first_of p rs) rs
first_is p [] h = absurd (false≢true h)
first_is p (x ∷ xs) h =
    cond_both (p x) 0 (suc (first_of p xs)) (λ i. First p i (x ∷ xs))
    (λ t. record { within = omega arith; passes = t; none_before = λ j l. absurd (omega arith) })
    (λ t. let r = first_is p xs (elim (or_cases (p x) (any p xs) h) [ inl y ↦ absurd (true≢false (sym y ∙ t)) | inr y ↦ y ]) in
    record {
      within = omega (arith, r.within);
      passes = r.passes;
      none_before = elim [ zero ↦ λ l. t | suc j ↦ λ l. r.none_before j (omega arith) ];
    })

pub record Last (p : ℕ → Bool) (i : ℕ) (rs : List ℕ) : Type 0 where
  pub within : i < length rs
  pub passes : p (get_or rs i 0) ≡ true
  pub none_behind : (j : ℕ) → i < j → j < length rs → p (get_or rs j 0) ≡ false

pub none_of : (p : ℕ → Bool) (rs : List ℕ) → any p rs ≡ false → (j : ℕ) → j < length rs → p (get_or rs j 0) ≡ false
none_of p [] h j l = absurd (omega arith)
none_of p (x ∷ xs) h zero l = (or_parts (p x) (any p xs) h).0
none_of p (x ∷ xs) h (suc j) l = none_of p xs (or_parts (p x) (any p xs) h).1 j (omega arith)

pub last_is : (p : ℕ → Bool) (rs : List ℕ) → any p rs ≡ true → Last p (last_of p rs) rs
last_is p [] h = absurd (false≢true h)
last_is p (x ∷ xs) h =
    cond_both (any p xs) (suc (last_of p xs)) 0 (λ i. Last p i (x ∷ xs))
    (λ t. let r = last_is p xs t in
    record {
      within = omega (arith, r.within);
      passes = r.passes;
      none_behind = elim [ zero ↦ λ l m. absurd (omega arith) | suc j ↦ λ l m. r.none_behind j (omega arith) (omega arith) ];
    })
    (λ t. record {
      within = omega arith;
      passes = elim (or_cases (p x) (any p xs) h) [ inl y ↦ y | inr y ↦ absurd (true≢false (sym y ∙ t)) ];
      none_behind = elim [ zero ↦ λ l m. absurd (omega arith) | suc j ↦ λ l m. none_of p xs t j (omega arith) ];
    })

-- ---- quotients
less_by : (h a b : ℕ) → a / 2 ^ h < b / 2 ^ h → a < b
less_by h a b l = omega (arith, (div-lt_iff_lt-mul (pow_pos h)).0 l, shr_split b h)

same_part : (w j r k : ℕ) → under w k j r ≡ true → r / 2 ^ (w - j) ≡ k / 2 ^ (w - j)
unfolding node_at
same_part w j r k e = omega (arith, eqb-true (node_at w r j) (node_at w k j) e)

other_part : (w j r k : ℕ) → under w k j r ≡ false → r / 2 ^ (w - j) ≡ k / 2 ^ (w - j) → ⊥
unfolding node_at
other_part w j r k e s = eqb-false (node_at w r j) (node_at w k j) e (omega arith)

-- at the next level down the quotients are twice these, and the next bit
half_part : (w j r : ℕ) → j < w → r / 2 ^ (w - suc j) / 2 ≡ r / 2 ^ (w - j)
half_part w j r h =
    let e : w - j ≡ w - suc j + 1 = omega arith in
    rw e (shr-shr r (w - suc j) 1)

-- a representative under the node at j but not at the next level lies on the other side of the key's next bit
side : (w j r k : ℕ) → j < w → under w k j r ≡ true → under w k (suc j) r ≡ false →
    ((k / 2 ^ (w - suc j) % 2 ≡ 1) × (r < k)) ⊎ ((k / 2 ^ (w - suc j) % 2 ≡ 0) × (k < r))
side w j r k h a b =
    let x = r / 2 ^ (w - suc j) in
    let y = k / 2 ^ (w - suc j) in
    let p = same_part w j r k a in
    let q = other_part w (suc j) r k b in
    let u = half_part w j r h in
    let v = half_part w j k h in
    elim (cases_order x y) [
      | inl e ↦ absurd (q e)
      | inr (inl l) ↦ inl (omega arith, less_by (w - suc j) r k l)
      | inr (inr l) ↦ inr (omega arith, less_by (w - suc j) k r l)
    ]

-- where r lies under the node and r' does not, r' stands to the key as to r
beside_up : (w j r r' k : ℕ) → under w k j r ≡ true → under w k j r' ≡ false → r < r' → k < r'
beside_up w j r r' k a b l =
    let p = same_part w j r k a in
    let h = w - j in
    elim (cases_order (k / 2 ^ h) (r' / 2 ^ h)) [
      | inl e ↦ absurd (other_part w j r' k b (sym e))
      | inr (inl q) ↦ less_by h k r' q
      | inr (inr q) ↦ (let z : r' < r = less_by h r' r (omega arith) in omega arith)
    ]

beside_down : (w j r r' k : ℕ) → under w k j r ≡ true → under w k j r' ≡ false → r' < r → r' < k
beside_down w j r r' k a b l =
    let p = same_part w j r k a in
    let h = w - j in
    elim (cases_order (k / 2 ^ h) (r' / 2 ^ h)) [
      | inl e ↦ absurd (other_part w j r' k b (sym e))
      | inr (inl q) ↦ (let z : r < r' = less_by h r r' (omega arith) in omega arith)
      | inr (inr q) ↦ less_by h r' k q
    ]

over_pow : (n : ℕ) → n < 2 ^ n
over_pow zero = omega arith
over_pow (suc n) = omega (arith, pow-succ' 2 n, over_pow n)

root : (w k : ℕ) (rs : List ℕ) → get_or rs 0 0 ≡ 0 → 0 < length rs → k < 2 ^ w → present w rs k 0 ≡ true
unfolding node_at
root w k [] z n h = absurd (omega arith)
root w k (r ∷ rs) z n h =
    let e : w - 0 ≡ w = omega arith in
    let p = pow_pos w in
    let a : r / 2 ^ w < 1 = div_below r (2 ^ w) 1 p (omega arith) in
    let b : k / 2 ^ w < 1 = div_below k (2 ^ w) 1 p (omega arith) in
    or_left (under w k 0 r) (present w rs k 0) (eq-eqb (node_at w r 0) (node_at w k 0) (rw e (omega arith)))

module _ (w k : ℕ) (rs : List ℕ) (climb : Climb rs) (zero_first : get_or rs 0 0 ≡ 0) where
  at_last : (j i : ℕ) → j ≡ w → First (under w k j) i rs → Sits k i rs
  at_last j i t f =
      let e : w - j ≡ 0 = omega arith in
      let p : get_or rs i 0 / 2 ^ 0 ≡ k / 2 ^ 0 = rw e at (same_part w j (get_or rs i 0) k f.passes) in
      let q : get_or rs i 0 ≡ k = sym (div-one (get_or rs i 0)) ∙ (p ∙ div-one k) in
      record { within = f.within; low = omega arith; high = λ l. omega (arith, climb i (suc i) (omega arith) l) }

  at_high : (j i : ℕ) → j < w → present w rs k (suc j) ≡ false → k / 2 ^ (w - suc j) % 2 ≡ 1 → Last (under w k j) i rs → Sits k i rs
  at_high j i h no_pair bit f =
      let r = get_or rs i 0 in
      let s = side w j r k h f.passes (none_of (under w k (suc j)) rs no_pair i f.within) in
      record {
        within = f.within;
        low = omega arith;
        high = λ l. beside_up w j r (get_or rs (suc i) 0) k f.passes (f.none_behind (suc i) (omega arith) l) (climb i (suc i) (omega arith) l);
      }

  at_low : (j i : ℕ) → j < w → present w rs k (suc j) ≡ false → (k / 2 ^ (w - suc j) % 2 ≡ 1 → ⊥) → First (under w k j) i rs → Sits k (i - 1) rs
  at_low j zero h no_pair bit f =
      let s = side w j (get_or rs 0 0) k h f.passes (none_of (under w k (suc j)) rs no_pair 0 f.within) in
      absurd (omega arith)
  at_low j (suc i) h no_pair bit f =
      let r = get_or rs (suc i) 0 in
      let s = side w j r k h f.passes (none_of (under w k (suc j)) rs no_pair (suc i) f.within) in
      let e : suc i - 1 ≡ i = omega arith in
      let d : get_or rs i 0 < k = beside_down w j r (get_or rs i 0) k f.passes (f.none_before i (omega arith)) (climb i (suc i) (omega arith) f.within) in
      rw e (record { within = omega (arith, f.within); low = omega arith; high = λ l. omega arith })

  pub named_sits : (j : ℕ) → Ends (present w rs k) (w + 1) j → Sits k (named w rs k j) rs
  unfolding named
  named_sits j e =
      let low = first_of (under w k j) rs in
      let high = last_of (under w k j) rs in
      let first = first_is (under w k j) rs e.pair in
      cond_both (eqb j w) low _ (λ i. Sits k i rs)
      (λ t. at_last j low (eqb-true j w t) first)
      (λ t. let q = eqb-false j w t in
      let no : present w rs k (suc j) ≡ false = elim e.no_pair [ inl y ↦ absurd (q (omega arith)) | inr y ↦ y ] in
      let l : j < w = omega (arith, e.below, q) in
      cond_both _ high _ (λ i. Sits k i rs)
      (λ b. at_high j high l no (eqb-true (k / 2 ^ (w - suc j) % 2) 1 b) (last_is (under w k j) rs e.pair))
      (λ b. at_low j low l no (eqb-false (k / 2 ^ (w - suc j) % 2) 1 b) first))

  pub found_sits : 0 < length rs → k < 2 ^ w → Sits k (found w rs k) rs
  found_sits n h = named_sits (deepest (present w rs k) 0 (w + 1))
      (deepest_ends (w + 1 - 0) (present w rs k) (w + 1) 0 (w + 1) (omega (arith, over_pow (w + 1 - 0))) (omega arith) (omega arith) (root w k rs zero_first n h) (inl refl))

-- ---- the buckets' representatives
above_lowest : (top : ℕ) (s : List Bucket) (j : ℕ) → Spread top s → j < length (reps s) → lowest top s ≤ get_or (reps s) j 0
above_lowest top [] j h l = absurd (omega arith)
above_lowest top (b ∷ s) zero h l = omega arith
above_lowest top (b ∷ s) (suc j) h l = omega (arith, above_lowest top s j h.1.1 (omega arith))

reps_climb : (top : ℕ) (s : List Bucket) → Spread top s → Climb (reps s)
reps_climb top [] h i j l m = absurd (omega arith)
reps_climb top (b ∷ s) h zero zero l m = absurd (omega arith)
reps_climb top (b ∷ s) h zero (suc j) l m = omega (arith, above_lowest top s j h.1.1 (omega arith))
reps_climb top (b ∷ s) h (suc i) zero l m = absurd (omega arith)
reps_climb top (b ∷ s) h (suc i) (suc j) l m = reps_climb top s h.1.1 i j (omega arith) (omega arith)

placed_sits : (top k i : ℕ) (s : List Bucket) → Placed top k i s → Sits k i (reps s)
placed_sits top k i s p =
    let n = length-map s (λ (b : Bucket). b.rep) in
    let at : (j : ℕ) → j < length s → get_or (reps s) j 0 ≡ (here j s).rep = λ j l. get_or-map (λ (b : Bucket). b.rep) s j hollow 0 l in
    record {
      within = omega (arith, p.within);
      low = rw (at i p.within) p.at_or_above;
      high = λ l. let l' : suc i < length s = omega arith in
          let d : lowest top (drop (suc i) s) ≡ (here (suc i) s).rep = ap (lowest top) (drop-cons s (suc i) hollow l') in
          omega (arith, p.below_next, at (suc i) l');
    }

pub found_place : (w limit k : ℕ) (s : List Bucket) → Sound w limit s → k < 2 ^ w → found w (reps s) k ≡ place k s
found_place w limit k s so h =
    let climb = reps_climb (2 ^ w) s so.spread in
    let n = length-map s (λ (b : Bucket). b.rep) in
    let some : 0 < length (reps s) = omega (arith, so.sized.some) in
    sits_once k (found w (reps s) k) (place k s) (reps s) climb (found_sits w k (reps s) climb (first_zero w s so.first) some h)
    (placed_sits (2 ^ w) k (place k s) s (placed (2 ^ w) k s so.first h))
  where
    first_zero : (w : ℕ) (s : List Bucket) → lowest (2 ^ w) s ≡ 0 → get_or (reps s) 0 0 ≡ 0
    first_zero w [] e = refl
    first_zero w (b ∷ s) e = e

pub search_finds : (w limit k : ℕ) (s : List Bucket) → Sound w limit s → k < 2 ^ w → Finds w k s
search_finds w limit k s so h =
    let e = found_place w limit k s so h in
    record {
      sits = rw e (placed_sits (2 ^ w) k (place k s) s (placed (2 ^ w) k s so.first h));
      holds = rw e (at_spot w k (place k s) s (spot w limit k s so h));
    }
