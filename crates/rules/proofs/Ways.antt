-- The ways that a change can go.
use Rattle.std.proofs.Common.{◌≡◌, ℕ, zero, suc, ◌+◌, ◌-◌, ◌*◌, ◌<◌, ◌≤◌, true, false, cond, ◌&&◌, ltb, ◌⊎◌, List, [], ◌∷◌, length, set, refl, ap, inl, inr, arith}
use Rattle.std.proofs.lemmas.Bool.{cond_both, ltb-true, ltb-false, and_parts, and_cases, false≢true}
use Rattle.key.specs.Widths.{half}
use Rattle.entry.specs.declared.Entry.{Entry}
use Rattle.ordered.specs.declared.calls.Rebuilding.TheVariants.{Unchanged}
use Rattle.rules.specs.Buckets.{Bucket, size, here, several, reps}
use Rattle.rules.specs.Changes.{Change, with_items, split_at, join_at, share_at, grown, shrunk, still}

pub grown_ways : (w i : ℕ) (s : List Bucket) (P : Change → Type 0)
    → (5 * half w < size (here i s) → P (split_at w i s))
    → (size (here i s) ≤ 5 * half w → P (still s))
    → P (grown w i s)
unfolding grown
grown_ways w i s P f g =
    cond_both _ _ _ P
    (λ e. f (omega (arith, ltb-true _ _ e))) (λ e. g (omega (arith, ltb-false _ _ e)))

pub several_long : (s : List Bucket) → several s ≡ true → 1 < length s
several_long [] e = absurd (false≢true e)
several_long (b ∷ []) e = absurd (false≢true e)
several_long (b ∷ c ∷ s) e = omega arith

pub shrunk_ways : (w i : ℕ) (s : List Bucket) (P : Change → Type 0)
    → ((half w ≤ size (here i s)) ⊎ (several s ≡ false) → P (still s))
    → (size (here i s) < half w → several s ≡ true → size (here (i - 1) s) + size (here (i - 1 + 1) s) ≤ 4 * half w → P (join_at w (i - 1) s))
    → (size (here i s) < half w → several s ≡ true → 4 * half w < size (here (i - 1) s) + size (here (i - 1 + 1) s) → P (share_at w (i - 1) s))
    → P (shrunk w i s)
unfolding shrunk
shrunk_ways w i s P o j h =
    let n = size (here i s) in
    let t = size (here (i - 1) s) + size (here (i - 1 + 1) s) in
    cond_both (ltb n (half w) && several s) (cond (ltb (4 * half w) t) (share_at w (i - 1) s) (join_at w (i - 1) s)) (still s) P
    (λ e. let p = and_parts (ltb n (half w)) (several s) e in
    cond_both (ltb (4 * half w) t) (share_at w (i - 1) s) (join_at w (i - 1) s) P
    (λ q. h (ltb-true n (half w) p.0) p.1 (ltb-true (4 * half w) t q))
    (λ q. j (ltb-true n (half w) p.0) p.1 (ltb-false (4 * half w) t q)))
    (λ e. o (elim (and_cases (ltb n (half w)) (several s) e) [ inl q ↦ inl (ltb-false n (half w) q) | inr q ↦ inr q ]))

-- ---- without a rebuilding the representatives stand
abbrev pub Stands : Change → List Bucket → Type 0
Stands c t = c.rebuilding ≡ Unchanged → reps c.after ≡ reps t

pub reps_set : (s : List Bucket) (i : ℕ) (xs : List Entry) → reps (set s i (with_items (here i s) xs)) ≡ reps s
reps_set [] i xs = refl
reps_set (b ∷ s) zero xs = refl
reps_set (b ∷ s) (suc i) xs = ap (λ l. b.rep ∷ l) (reps_set s i xs)

pub grown_stands : (w i : ℕ) (t : List Bucket) → Stands (grown w i t) t
unfolding split_at
grown_stands w i t =
    grown_ways w i t (λ c. Stands c t)
    (λ _ e. let z : ◌≡◌ {A = ℕ} 0 1 = cc in absurd (omega arith)) (λ _ e. refl)

pub shrunk_stands : (w i : ℕ) (t : List Bucket) → Stands (shrunk w i t) t
unfolding join_at share_at
shrunk_stands w i t =
    shrunk_ways w i t (λ c. Stands c t) (λ _ e. refl)
    (λ _ _ _ e. let z : ◌≡◌ {A = ℕ} 0 1 = cc in absurd (omega arith)) (λ _ _ _ e. let z : ◌≡◌ {A = ℕ} 0 1 = cc in absurd (omega arith))
