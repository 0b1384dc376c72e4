-- What one `last` at a lease's end decides: of the leases that start at or below it, only the last can reach the new one.
--
--   sharing_upto    the leases that share a station are among those that start at or below the end
--   reached         the last of these reaches the start: some lease shares a station
--   Free            there is none to reach it, or the last does not
--   not_reached     then every one that starts at or below the end ends before the start
--   none_sharing, clear   and none shares a station
--   covering        the last of those that start at or below a station, if it reaches it, is the one that covers it
use Rattle.std.proofs.Common.{◌≡◌, ℕ, ◌<◌, ◌≤◌, true, false, leb, ◌⊎◌, List, [], ◌∷◌, filter, refl, ap, ◌∙◌, inl, inr, arith}
use Rattle.std.specs.List.{AllByRecursion}
use Rattle.std.proofs.lemmas.Bool.{cases_Bool, leb-false, leb-true, le-leb, lt-leb, ne_eqb}
use Rattle.entry.specs.declared.Entry.{Entry}
use Rattle.entry.specs.Lists.{at, upto, filled, final}
use Rattle.entry.proofs.Filters.{kept_none}
use Rattle.leases.specs.Stretches.{end, Noted, Spaced, sharing}
use Rattle.leases.proofs.Spacing.{spaced_kept, Clear}

-- the leases that end at or after a station
abbrev reaching : ℕ → List Entry → List Entry
reaching f xs = filter (λ x. leb f (end x)) xs

sharing_upto : (f t : ℕ) (xs : List Entry) → sharing f t xs ≡ reaching f (upto t xs)
sharing_upto f t [] = refl
sharing_upto f t (x ∷ xs) = elim (cases_Bool (leb x.key t)) [
  | inl e ↦ elim (cases_Bool (leb f (end x))) [ inl d ↦ rw (e, d) (ap (λ (l : List Entry). x ∷ l) (sharing_upto f t xs)) | inr d ↦ rw (e, d) (sharing_upto f t xs) ]
  | inr e ↦ rw e (sharing_upto f t xs)
]

-- ---- the last of some leases
pub ends_before : (xs : List Entry) (f : ℕ) → Spaced xs → end (final xs) < f → AllByRecursion (λ (x : Entry). end x < f) xs
ends_before [] f s h = tt
ends_before (x ∷ []) f s h = (h, tt)
ends_before (x ∷ y ∷ ys) f s h =
    let rest = ends_before (y ∷ ys) f s.2 h in
    (omega (arith, s.1.0, rest.0, s.2.0.rises), rest)

some_reach : (ys : List Entry) (f : ℕ) → filled ys ≡ true → f ≤ end (final ys) → filled (reaching f ys) ≡ true
some_reach [] f e h = e
some_reach (x ∷ []) f e h = rw (le-leb f (end x) h)
some_reach (x ∷ y ∷ ys) f e h = elim (cases_Bool (leb f (end x))) [ inl d ↦ rw d refl | inr d ↦ rw d (some_reach (y ∷ ys) f refl h) ]

one_reaches : (ys : List Entry) (s : ℕ) → Spaced ys → AllByRecursion (λ (x : Entry). x.key ≤ s) ys → filled ys ≡ true → s ≤ end (final ys) → reaching s ys ≡ final ys ∷ []
one_reaches [] s sp a e h = let z : ◌≡◌ {A = ℕ} 0 1 = cc in absurd (omega arith)
one_reaches (x ∷ []) s sp a e h = rw (le-leb s (end x) h)
one_reaches (x ∷ y ∷ ys) s sp a e h =
    let short : end x < s = omega (arith, sp.1.0, a.1.0) in
    rw (lt-leb s (end x) short) (one_reaches (y ∷ ys) s sp.2 a.1 refl h)

upto_keys : (s : ℕ) (xs : List Entry) → AllByRecursion (λ (x : Entry). x.key ≤ s) (upto s xs)
upto_keys s [] = tt
upto_keys s (x ∷ xs) = elim (cases_Bool (leb x.key s)) [ inl e ↦ rw e (leb-true x.key s e, upto_keys s xs) | inr e ↦ rw e (upto_keys s xs) ]

clear_upto : (xs : List Entry) (f t : ℕ) → AllByRecursion (λ (x : Entry). end x < f) (upto t xs) → Clear xs f t
clear_upto [] f t a = tt
clear_upto (x ∷ xs) f t a = elim (cases_Bool (leb x.key t)) [
  | inl e ↦ let b = rw e at a in (λ _. b.0, clear_upto xs f t b.1)
  | inr e ↦ let b = rw e at a in ((λ h. absurd (omega (arith, leb-false x.key t e, h))), clear_upto xs f t b)
]

-- of the leases that start at or below t there is none, or the last one ends before f
abbrev pub Free : List Entry → ℕ → ℕ → Type 0
Free xs f t = (upto t xs ≡ []) ⊎ (end (final (upto t xs)) < f)

pub spaced_upto : (xs : List Entry) (t : ℕ) → Spaced xs → Spaced (upto t xs)
spaced_upto xs t s = spaced_kept (λ x. leb x.key t) xs s

module _ (xs : List Entry) (s : Spaced xs) where
  pub reached : (f t : ℕ) → filled (upto t xs) ≡ true → f ≤ end (final (upto t xs)) → filled (sharing f t xs) ≡ true
  reached f t e h = ap filled (sharing_upto f t xs) ∙ some_reach (upto t xs) f e h

  pub not_reached : (f t : ℕ) → Free xs f t → AllByRecursion (λ (x : Entry). end x < f) (upto t xs)
  not_reached f t (inl e) = rw e tt
  not_reached f t (inr h) = ends_before (upto t xs) f (spaced_upto xs t s) h

  pub none_sharing : (f t : ℕ) → AllByRecursion (λ (x : Entry). end x < f) (upto t xs) → filled (sharing f t xs) ≡ false
  none_sharing f t a = ap filled (sharing_upto f t xs ∙ kept_none (λ x. leb f (end x)) (λ (x : Entry). end x < f) (λ x h. lt-leb f (end x) h) (upto t xs) a)

  pub clear : (f t : ℕ) → AllByRecursion (λ (x : Entry). end x < f) (upto t xs) → Clear xs f t
  clear f t a = clear_upto xs f t a

  pub covering : (t : ℕ) → filled (upto t xs) ≡ true → t ≤ end (final (upto t xs)) → sharing t t xs ≡ final (upto t xs) ∷ []
  covering t e h = sharing_upto t t xs ∙ one_reaches (upto t xs) t (spaced_upto xs t s) (upto_keys t xs) e h

-- no entry stands where a free stretch starts
pub none_at : (xs : List Entry) (f t : ℕ) → f ≤ t → Spaced xs → Clear xs f t → at f xs ≡ []
none_at [] f t h s a = refl
none_at (x ∷ xs) f t h s a =
    let apart : x.key ≡ f → ⊥ = λ e. omega (arith, a.0 (omega arith), s.0.rises) in
    rw (ne_eqb x.key f apart) (none_at xs f t h s.2 a.1)

pub final_small : (ys : List Entry) → Spaced ys → filled ys ≡ true → Noted (final ys)
final_small [] s e = let z : ◌≡◌ {A = ℕ} 0 1 = cc in absurd (omega arith)
final_small (x ∷ []) s e = s.0
final_small (x ∷ y ∷ ys) s e = final_small (y ∷ ys) s.2 refl
