-- Every bucket holds at most 5m entries and, where others stand, at least m.
use Rattle.std.proofs.Common.{◌≡◌, ℕ, zero, suc, ◌+◌, ◌-◌, ◌*◌, ◌<◌, ◌≤◌, true, List, [], ◌∷◌, ◌++◌, length, take, drop, set, sym, refl, ◌∙◌, inl, inr, arith}
use Rattle.std.specs.List.{AllByRecursion}
use Rattle.std.proofs.lemmas.List.{length-append, length-set, take-set, take-set-le, drop-set-lt, get_or-set_same, get_or-set_other}
use Rattle.std.proofs.ByRecursion.{All-append, All-set, All-take, All-drop, All-get_or}
use Rattle.std.proofs.lemmas.Bool.{false≢true}
use Rattle.rules.proofs.Ways.{grown_ways, shrunk_ways}
use Rattle.rules.proofs.Potential.{low_size, high_size, share_after, share_rebuilding, Pair, split_spends, join_spends, share_spends}
use Rattle.key.specs.Widths.{half}
use Rattle.ordered.specs.Numbers.{rebuilt}
use Rattle.rules.specs.Buckets.{Bucket, hollow, size, here, several, Sized}
use Rattle.rules.specs.Changes.{Change, splice, halves, low_half, high_half, merged, grown, shrunk, join_at, split_at}
use Rattle.rules.specs.Runs.{saved}

abbrev pub Low : ℕ → List Bucket → Type 0
Low m s = AllByRecursion (λ (b : Bucket). m ≤ size b) s

abbrev pub High : ℕ → List Bucket → Type 0
High m s = AllByRecursion (λ (b : Bucket). size b ≤ 5 * m) s

pub several_set : (s : List Bucket) (i : ℕ) (b : Bucket) → several (set s i b) ≡ several s
several_set [] i b = refl
several_set (a ∷ []) zero b = refl
several_set (a ∷ []) (suc i) b = refl
several_set (a ∷ c ∷ s) zero b = refl
several_set (a ∷ c ∷ s) (suc zero) b = refl
several_set (a ∷ c ∷ s) (suc (suc i)) b = refl

all_splice : (P : Bucket → Type 0) (l n : ℕ) (new s : List Bucket) → AllByRecursion P (take l s) → AllByRecursion P new → AllByRecursion P (drop (l + n) s) → AllByRecursion P (splice l n new s)
all_splice P l n new s a b c = All-append P (take l s) (new ++ drop (l + n) s) a (All-append P new (drop (l + n) s) b c)

some_splice : (l n : ℕ) (b : Bucket) (new s : List Bucket) → 0 < length (splice l n (b ∷ new) s)
some_splice l n b new s = omega (arith, length-append (take l s) ((b ∷ new) ++ drop (l + n) s))

-- the buckets beside the one at i hold m entries, also where it stands alone
pub low_beside : (m : ℕ) (s : List Bucket) (i : ℕ) → i < length s → (several s ≡ true → Low m s) → Low m (take i s) × Low m (drop (i + 1) s)
low_beside m [] i h k = absurd (omega arith)
low_beside m (a ∷ []) zero h k = (tt, tt)
low_beside m (a ∷ []) (suc i) h k = absurd (omega arith)
low_beside m (a ∷ c ∷ s) i h k =
    let t = a ∷ c ∷ s in
    (All-take (λ x. m ≤ size x) i t (k refl), All-drop (λ x. m ≤ size x) (i + 1) t (k refl))

pub pair : (m : ℕ) (s : List Bucket) (i : ℕ) (b : Bucket) → i < length s → Sized m s → several s ≡ true → size b + 1 ≡ m →
    Pair m (size (here (i - 1) (set s i b))) (size (here (i - 1 + 1) (set s i b))) × (i - 1 + 1 < length s)
pair m [] i b h fine e k = absurd (false≢true e)
pair m (a ∷ []) i b h fine e k = absurd (false≢true e)
pair m (a ∷ c ∷ s) zero b h fine e k = (inl (k, ((fine.low e).1.0, fine.high.1.0)), omega arith)
pair m (a ∷ c ∷ s) (suc j) b h fine e k =
    let t = a ∷ c ∷ s in
    let p : suc j - 1 ≡ j = omega arith in
    let q : j + 1 ≡ suc j = omega arith in
    let u : here j (set t (suc j) b) ≡ here j t = get_or-set_other t (suc j) j b hollow (omega arith) in
    let v : here (suc j) (set t (suc j) b) ≡ b = get_or-set_same t (suc j) b hollow h in
    rw (p, q, u, v) (inr (k, (All-get_or (λ x. m ≤ size x) t j hollow (omega arith) (fine.low e), All-get_or (λ x. size x ≤ 5 * m) t j hollow (omega arith) fine.high)), h)

-- ---- after an add: t is s with the bucket b of one more entry at i
module _ (m : ℕ) (p : 0 < m) (s : List Bucket) (i : ℕ) (b : Bucket) (at : i < length s) (fine : Sized m s) where
  still_sized : size b ≤ 5 * m → (several s ≡ true → m ≤ size b) → Sized m (set s i b)
  still_sized h k = record {
    some = rw length-set fine.some;
    high = All-set (λ x. size x ≤ 5 * m) s i b h fine.high;
    low = λ e. let e' : several s ≡ true = sym (several_set s i b) ∙ e in All-set (λ x. m ≤ size x) s i b (k e') (fine.low e');
  }

  split_sized : 5 * m < size b → size b ≤ 5 * m + 1 → Sized m (splice i 1 (halves b) (set s i b))
  split_sized h k =
      let lo = low_size b in
      let hi = high_size b in
      record {
        some = some_splice i 1 (low_half b) (high_half b ∷ []) (set s i b);
        high = rw (take-set s i b, drop-set-lt (i + 1) s i b (omega arith))
            (all_splice (λ x. size x ≤ 5 * m) i 1 (halves b) s (All-take (λ x. size x ≤ 5 * m) i s fine.high) (omega arith, (omega arith, tt)) (All-drop (λ x. size x ≤ 5 * m) (i + 1) s fine.high));
        low = λ _.
            let q = low_beside m s i at fine.low in
            rw (take-set s i b, drop-set-lt (i + 1) s i b (omega arith))
            (all_splice (λ x. m ≤ size x) i 1 (halves b) s q.0 (omega arith, (omega arith, tt)) q.1);
      }

  beside : (l : ℕ) → l ≤ i → i < l + 2 → (P : Bucket → Type 0) → AllByRecursion P s → AllByRecursion P (take l (set s i b)) × AllByRecursion P (drop (l + 2) (set s i b))
  beside l f g P h = (rw take-set-le (All-take P l s h), rw drop-set-lt (All-drop P (l + 2) s h))

  two_sized : (l : ℕ) → l ≤ i → i < l + 2 → several s ≡ true → (x : Bucket) (xs : List Bucket) → High m (x ∷ xs) → Low m (x ∷ xs) → Sized m (splice l 2 (x ∷ xs) (set s i b))
  two_sized l f g e x xs h k =
      let u = beside l f g (λ y. size y ≤ 5 * m) fine.high in
      let v = beside l f g (λ y. m ≤ size y) (fine.low e) in
      record {
        some = some_splice l 2 x xs (set s i b);
        high = all_splice (λ y. size y ≤ 5 * m) l 2 (x ∷ xs) (set s i b) u.0 h u.1;
        low = λ _. all_splice (λ y. m ≤ size y) l 2 (x ∷ xs) (set s i b) v.0 k v.1;
      }

  join_sized : (l : ℕ) → l ≤ i → i < l + 2 → several s ≡ true →
      let a = here l (set s i b) in let c = here (l + 1) (set s i b) in
      Pair m (size a) (size c) → size a + size c ≤ 4 * m → Sized m (splice l 2 (merged a c ∷ []) (set s i b))
  join_sized l f g e q h =
      let a = here l (set s i b) in
      let c = here (l + 1) (set s i b) in
      let n = length-append a.items c.items in
      two_sized l f g e (merged a c) [] (omega arith, tt) (omega arith, tt)

  share_sized : (l : ℕ) → l ≤ i → i < l + 2 → several s ≡ true →
      let a = here l (set s i b) in let c = here (l + 1) (set s i b) in
      Pair m (size a) (size c) → 4 * m < size a + size c → Sized m (splice l 2 (halves (merged a c)) (set s i b))
  share_sized l f g e q h =
      let a = here l (set s i b) in
      let c = here (l + 1) (set s i b) in
      let n = length-append a.items c.items in
      let lo = low_size (merged a c) in
      let hi = high_size (merged a c) in
      two_sized l f g e (low_half (merged a c)) (high_half (merged a c) ∷ []) (omega arith, (omega arith, tt)) (omega arith, (omega arith, tt))

-- ---- all ways together: what is left is sized, and each rebuilding spends m
pub record Kept (m : ℕ) (before : List Bucket) (c : Change) : Type 0 where
  pub sized : Sized m c.after
  pub spends : saved m c.after + rebuilt c.rebuilding * m ≤ saved m before

pub grown_kept : (w : ℕ) → 8 ≤ w → (s : List Bucket) (i : ℕ) (b : Bucket) → i < length s → Sized (half w) s → size b ≡ size (here i s) + 1 →
    Kept (half w) (set s i b) (grown w i (set s i b))
unfolding split_at
grown_kept w big s i b h fine k =
    let m = half w in
    let t = set s i b in
    let is : here i t ≡ b = get_or-set_same s i b hollow h in
    let up = All-get_or (λ x. size x ≤ 5 * m) s i hollow h fine.high in
    let p : 0 < m = omega arith in
    let long : i < length t = rw length-set h in
    grown_ways w i t (Kept m t)
    (λ q. let q' : 5 * m < size b = rw is at q in
    record {
      sized = rw is (split_sized m p s i b h fine q' (omega arith));
      spends = omega (arith, split_spends m t i p long q (rw is (omega arith)));
    })
    (λ q. record {
      sized = still_sized m p s i b h fine (rw is at q) (λ e. omega (arith, All-get_or (λ x. m ≤ size x) s i hollow h (fine.low e)));
      spends = omega arith;
    })

pub shrunk_kept : (w : ℕ) → 8 ≤ w → (s : List Bucket) (i : ℕ) (b : Bucket) → i < length s → Sized (half w) s → size b + 1 ≡ size (here i s) →
    Kept (half w) (set s i b) (shrunk w i (set s i b))
unfolding join_at
shrunk_kept w big s i b h fine k =
    let m = half w in
    let t = set s i b in
    let is : here i t ≡ b = get_or-set_same s i b hollow h in
    let up = All-get_or (λ x. size x ≤ 5 * m) s i hollow h fine.high in
    let p : 0 < m = omega arith in
    let se = several_set s i b in
    let l = i - 1 in
    shrunk_ways w i t (Kept m t)
    (λ q. record {
      sized = still_sized m p s i b h fine (omega arith)
          (λ e. elim q [ inl y ↦ (rw is at y) | inr y ↦ absurd (false≢true (sym y ∙ (se ∙ e))) ]);
      spends = omega arith;
    })
    (λ q e n.
    let e' : several s ≡ true = sym se ∙ e in
    let lo = All-get_or (λ x. m ≤ size x) s i hollow h (fine.low e') in
    let q' : size b < m = rw is at q in
    let pr = pair m s i b h fine e' (omega arith) in
    let long : i - 1 + 1 < length t = rw length-set pr.1 in
    record {
      sized = join_sized m p s i b h fine l (omega arith) (omega arith) e' pr.0 n;
      spends = omega (arith, join_spends m t l p long e pr.0 n);
    })
    (λ q e n.
    let e' : several s ≡ true = sym se ∙ e in
    let lo = All-get_or (λ x. m ≤ size x) s i hollow h (fine.low e') in
    let q' : size b < m = rw is at q in
    let pr = pair m s i b h fine e' (omega arith) in
    let long : i - 1 + 1 < length t = rw length-set pr.1 in
    let is' = share_after w l t (omega arith) in
    record {
      sized = rw is' (share_sized m p s i b h fine l (omega arith) (omega arith) e' pr.0 n);
      spends = rw (is', share_rebuilding w l t) (omega (arith, share_spends m t l p long e pr.0 n));
    })
