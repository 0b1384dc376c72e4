-- Leases one after another.
--
--   spaced_kept      a filter keeps them so
--   spaced_put       a lease put in where it shares no station
--   spaced_without   one taken out
--   none_shared      no station lies in two
use Rattle.std.proofs.Common.{◌≡◌, ℕ, zero, suc, ◌<◌, ◌≤◌, Bool, false, ltb, List, [], ◌∷◌, ◌++◌, length, get_or, filter, inl, inr, ⊎_elim, arith}
use Rattle.std.specs.List.{AllByRecursion}
use Rattle.std.proofs.ByRecursion.{all_kept_by, All-append, All-weaker, All-get_or}
use Rattle.std.proofs.lemmas.Bool.{cases_Bool, cases_order, cases_lt, ltb-true, ltb-false, le-ltb}
use Rattle.entry.specs.declared.Entry.{Entry}
use Rattle.entry.specs.Lists.{blank, below, above, put, without, Over}
use Rattle.entry.proofs.Filters.{over_below}
use Rattle.leases.specs.Stretches.{end, Noted, Spaced, NoSharedStation}

pub spaced_kept : (p : Entry → Bool) (xs : List Entry) → Spaced xs → Spaced (filter p xs)
spaced_kept p [] s = tt
spaced_kept p (x ∷ xs) s = elim (cases_Bool (p x)) [
  | inl e ↦ rw e (s.0, all_kept_by p (λ (y : Entry). end x < y.key) xs s.1, spaced_kept p xs s.2)
  | inr e ↦ rw e (spaced_kept p xs s.2)
]

spaced_join : (xs ys : List Entry) (e : Entry) → Spaced xs → AllByRecursion (λ (x : Entry). end x < e.key) xs → Noted e → AllByRecursion (λ (y : Entry). end e < y.key) ys → Spaced ys → Spaced (xs ++ (e ∷ ys))
spaced_join [] ys e sx ax n ay sy = (n, ay, sy)
spaced_join (x ∷ xs) ys e sx ax n ay sy =
    let up : AllByRecursion (λ (y : Entry). end x < y.key) ys = All-weaker (λ (y : Entry). end e < y.key) (λ (y : Entry). end x < y.key) (λ y h. omega (arith, h, ax.0, n.rises)) ys ay in
    (sx.0, All-append (λ (y : Entry). end x < y.key) xs (e ∷ ys) sx.1 (ax.0, up), spaced_join xs ys e sx.2 ax.1 n ay sy)

-- every lease that starts at or below t ends before f
abbrev pub Clear : List Entry → ℕ → ℕ → Type 0
Clear xs f t = AllByRecursion (λ (x : Entry). x.key ≤ t → end x < f) xs

-- what stands below the new lease ends before it, what stands above it starts after it
low_side : (xs : List Entry) (f t : ℕ) → f ≤ t → Clear xs f t → AllByRecursion (λ (x : Entry). end x < f) (below f xs)
low_side [] f t h a = tt
low_side (x ∷ xs) f t h a = elim (cases_Bool (ltb x.key f)) [
  | inl e ↦ rw e (a.0 (omega (arith, ltb-true x.key f e, h)), low_side xs f t h a.1)
  | inr e ↦ rw e (low_side xs f t h a.1)
]

high_side : (xs : List Entry) (f t : ℕ) → Spaced xs → Clear xs f t → AllByRecursion (λ (x : Entry). t < x.key) (above f xs)
high_side [] f t s a = tt
high_side (x ∷ xs) f t s a = elim (cases_Bool (ltb f x.key)) [
  | inl e ↦ rw e (
    ⊎_elim (λ (h : t < x.key). h) (λ (h : x.key ≤ t). absurd (omega (arith, a.0 h, ltb-true f x.key e, s.0.rises))) (cases_lt t x.key),
    high_side xs f t s.2 a.1,
  )
  | inr e ↦ rw e (high_side xs f t s.2 a.1)
]

pub spaced_put : (xs : List Entry) (e : Entry) → Spaced xs → Noted e → Clear xs e.key (end e) → Spaced (put e xs)
spaced_put xs e s n a =
    spaced_join (below e.key xs) (above e.key xs) e (spaced_kept (λ x. ltb x.key e.key) xs s) (low_side xs e.key (end e) n.rises a) n
    (high_side xs e.key (end e) s a) (spaced_kept (λ x. ltb e.key x.key) xs s)

all_without : (P : Entry → Type 0) (k : ℕ) (xs : List Entry) → AllByRecursion P xs → AllByRecursion P (without k xs)
all_without P k xs a = All-append P (below k xs) (above k xs) (all_kept_by (λ x. ltb x.key k) P xs a) (all_kept_by (λ x. ltb k x.key) P xs a)

starts_after : (x : Entry) (k : ℕ) (xs : List Entry) → Noted x → k ≤ x.key → AllByRecursion (λ (y : Entry). end x < y.key) xs → Over k xs
starts_after x k xs n h a = All-weaker (λ (y : Entry). end x < y.key) (λ (y : Entry). k < y.key) (λ y l. omega (arith, l, h, n.rises)) xs a

pub spaced_without : (k : ℕ) (xs : List Entry) → Spaced xs → Spaced (without k xs)
spaced_without k [] s = tt
spaced_without k (x ∷ xs) s = elim (cases_Bool (ltb x.key k)) [
  | inl e ↦
      let f : ltb k x.key ≡ false = le-ltb k x.key (omega (arith, ltb-true x.key k e)) in
      rw (e, f) (s.0, all_without (λ (y : Entry). end x < y.key) k xs s.1, spaced_without k xs s.2)
  | inr e ↦
      let h : k ≤ x.key = ltb-false x.key k e in
      rw (e, over_below k xs (starts_after x k xs s.0 h s.1)) (spaced_kept (λ y. ltb k y.key) (x ∷ xs) s)
]

-- an earlier lease ends before a later one starts
spaced_places : (xs : List Entry) (i j : ℕ) → Spaced xs → i < j → j < length xs → end (get_or xs i blank) < (get_or xs j blank).key
spaced_places [] i j s h l = absurd (omega arith)
spaced_places (x ∷ xs) i zero s h l = absurd (omega arith)
spaced_places (x ∷ xs) zero (suc j) s h l = All-get_or (λ (y : Entry). end x < y.key) xs j blank (omega arith) s.1
spaced_places (x ∷ xs) (suc i) (suc j) s h l = spaced_places xs i j s.2 (omega arith) (omega arith)

pub none_shared : (xs : List Entry) → Spaced xs → NoSharedStation xs
none_shared xs s i j t hi hj ci cj =
    ⊎_elim (λ (e : i ≡ j). e)
    (⊎_elim (λ (h : i < j). absurd (omega (arith, spaced_places xs i j s h hj, ci.1, cj.0))) (λ (h : j < i). absurd (omega (arith, spaced_places xs j i s h hi, cj.1, ci.0))))
    (cases_order i j)
