-- What is saved up for rebuildings: an accepted change saves at most 1, and a rebuilding spends at least m.
use Rattle.std.proofs.Common.{◌≡◌, ℕ, zero, suc, ◌+◌, ◌-◌, ◌*◌, ◌/◌, ◌<◌, ◌≤◌, true, ◌⊎◌, List, [], ◌∷◌, ◌++◌, length, take, drop, set, sum_by, sym, refl, ap, ◌∙◌, arith}
use Rattle.std.proofs.lemmas.List.{length-take, length-drop, length-append, length-take-le, take_at, drop_at, drop-drop, get_or_at}
use Rattle.std.proofs.lemmas.List.Sums.{sum_by-append, sum_by-set, sum_by-take-drop, sum_by-drop_more}
use Rattle.std.proofs.lemmas.Bool.{false≢true}
use Rattle.ordered.specs.declared.calls.Rebuilding.TheVariants.{MergeSplit}
use Rattle.rules.specs.Buckets.{Bucket, hollow, new, size, here, several}
use Rattle.rules.specs.Changes.{splice, halves, low_half, high_half, merged, join_at, split_at, share_at}
use Rattle.rules.specs.Runs.{lack, saved}

abbrev pub lacks : ℕ → List Bucket → ℕ
lacks m s = sum_by (λ (b : Bucket). lack m (size b)) s

pub saved_le : (m : ℕ) (s : List Bucket) → saved m s ≤ lacks m s
saved_le m [] = omega arith
saved_le m (b ∷ []) = omega arith
saved_le m (b ∷ c ∷ s) = omega arith

pub saved_several : (m : ℕ) (s : List Bucket) → several s ≡ true → saved m s ≡ lacks m s
saved_several m [] e = absurd (false≢true e)
saved_several m (b ∷ []) e = absurd (false≢true e)
saved_several m (b ∷ c ∷ s) e = refl

-- one bucket changed by one entry
pub saves : (m : ℕ) (s : List Bucket) (i : ℕ) (b : Bucket) → i < length s → size b ≤ size (here i s) + 1 → size (here i s) ≤ size b + 1 →
    saved m (set s i b) ≤ saved m s + 1
saves m [] i b h p q = omega arith
saves m (a ∷ []) zero b h p q = omega arith
saves m (a ∷ []) (suc i) b h p q = omega arith
saves m (a ∷ c ∷ s) i b h p q =
    let t = a ∷ c ∷ s in
    let f : Bucket → ℕ = λ x. lack m (size x) in
    omega (arith, saved_le m (set t i b), sum_by-set f t i b hollow h)

-- a list of buckets in three parts
pub parts_one : (f : Bucket → ℕ) (s : List Bucket) (i : ℕ) → i < length s →
    sum_by f s ≡ sum_by f (take i s) + (f (here i s) + sum_by f (drop (i + 1) s))
parts_one f s i h = omega (arith, sum_by-take-drop f s i, sum_by-drop_more f s i hollow h)

pub parts_two : (f : Bucket → ℕ) (s : List Bucket) (i : ℕ) → i + 1 < length s →
    sum_by f s ≡ sum_by f (take i s) + (f (here i s) + (f (here (i + 1) s) + sum_by f (drop (i + 2) s)))
parts_two f s i h =
    let p : sum_by f (drop (i + 1) s) ≡ f (here (i + 1) s) + sum_by f (drop (i + 1 + 1) s) = sum_by-drop_more f s (i + 1) hollow h in
    let e : i + 1 + 1 ≡ i + 2 = omega arith in
    omega (arith, parts_one f s i (omega arith), rw e at p)

pub spliced : (f : Bucket → ℕ) (l n : ℕ) (new s : List Bucket) →
    sum_by f (splice l n new s) ≡ sum_by f (take l s) + (sum_by f new + sum_by f (drop (l + n) s))
spliced f l n new s = simp sum_by-append

pub low_size : (b : Bucket) → size (low_half b) ≡ size b / 2
low_size b = simp length-take (omega arith)

pub high_size : (b : Bucket) → size (high_half b) ≡ size b - size b / 2
high_size b = simp length-drop

-- a split of more than 4m entries, and at most 6m, leaves nothing saved in the halves
halves_lack : (m : ℕ) (b : Bucket) → 4 * m < size b → size b ≤ 6 * m → lacks m (halves b) ≡ 0
halves_lack m b h k = omega (arith, low_size b, high_size b)

pub split_spends : (m : ℕ) (s : List Bucket) (i : ℕ) → 0 < m → i < length s → 5 * m < size (here i s) → size (here i s) ≤ 6 * m →
    saved m (splice i 1 (halves (here i s)) s) + m ≤ saved m s
split_spends m [] i p h a k = omega arith
split_spends m (b ∷ []) zero p h a k = omega (arith, low_size b, high_size b)
split_spends m (b ∷ []) (suc i) p h a k = omega arith
split_spends m (b ∷ c ∷ s) i p h a k =
    let t = b ∷ c ∷ s in
    let f : Bucket → ℕ = λ x. lack m (size x) in
    let new = halves (here i t) in
    omega (arith, saved_le m (splice i 1 new t), spliced f i 1 new t, parts_one f t i h, halves_lack m (here i t) (omega arith) k)

-- what a merge and split comes to
pub share_after : (w l : ℕ) (s : List Bucket) → l < length s →
    (share_at w l s).after ≡ splice l 2 (halves (merged (here l s) (here (l + 1) s))) s
unfolding share_at join_at split_at
share_after w l s h =
    let j = merged (here l s) (here (l + 1) s) in
    let t = take l s ++ (j ∷ drop (l + 2) s) in
    let e : length (take l s) ≡ l = length-take-le l s (omega arith) in
    let a : take l t ≡ take l s = take_at (take l s) (j ∷ drop (l + 2) s) l e in
    let b : drop l t ≡ j ∷ drop (l + 2) s = drop_at (take l s) (j ∷ drop (l + 2) s) l e in
    let c : drop (l + 1) t ≡ drop (l + 2) s = sym (drop-drop 1 l t) ∙ ap (drop 1) b in
    let d : here l t ≡ j = get_or_at (take l s) j (drop (l + 2) s) hollow l e in
    rw (a, c, d)

pub share_rebuilding : (w l : ℕ) (s : List Bucket) → (share_at w l s).rebuilding ≡ MergeSplit
unfolding share_at
share_rebuilding w l s = refl

-- the sizes of the two that are made one: m - 1, and between m and 5m
abbrev pub Pair : ℕ → ℕ → ℕ → Type 0
Pair m x y = ((x + 1 ≡ m) × ((m ≤ y) × (y ≤ 5 * m))) ⊎ ((y + 1 ≡ m) × ((m ≤ x) × (x ≤ 5 * m)))

pub join_spends : (m : ℕ) (s : List Bucket) (l : ℕ) → 0 < m → l + 1 < length s → several s ≡ true →
    Pair m (size (here l s)) (size (here (l + 1) s)) →
    size (here l s) + size (here (l + 1) s) ≤ 4 * m →
    saved m (splice l 2 (merged (here l s) (here (l + 1) s) ∷ []) s) + m ≤ saved m s
join_spends m s l p h sv pr k =
    let f : Bucket → ℕ = λ x. lack m (size x) in
    let a = here l s in
    let b = here (l + 1) s in
    let new = merged a b ∷ [] in
    omega (arith, saved_le m (splice l 2 new s), saved_several m s sv, spliced f l 2 new s, parts_two f s l h, length-append a.items b.items)

pub share_spends : (m : ℕ) (s : List Bucket) (l : ℕ) → 0 < m → l + 1 < length s → several s ≡ true →
    Pair m (size (here l s)) (size (here (l + 1) s)) → 4 * m < size (here l s) + size (here (l + 1) s) →
    saved m (splice l 2 (halves (merged (here l s) (here (l + 1) s))) s) + m ≤ saved m s
share_spends m s l p h sv pr k =
    let f : Bucket → ℕ = λ x. lack m (size x) in
    let a = here l s in
    let b = here (l + 1) s in
    let e = length-append a.items b.items in
    let new = halves (merged a b) in
    omega (arith, saved_le m (splice l 2 new s), saved_several m s sv, spliced f l 2 new s, parts_two f s l h, halves_lack m (merged a b) (omega arith) (omega arith))
