-- How often an index stands in the lists of an order of numbers.
--
--   here, later      a number among others, first or further on
--   all_from         a fact of each number among others
--   part, two_parts  what one number's list, or two numbers' lists, have of an index, all have
--   moved            how the count changes with one number's list
--   two_moved        how it changes with two numbers' lists
use Rattle.std.proofs.Common.{◌≡◌, ℕ, ◌+◌, ◌≤◌, true, cond, eqb, List, [], ◌∷◌, sym, refl, ap, ◌∙◌, inl, inr, arith}
use Rattle.std.specs.List.{flat_map, AllByRecursion}
use Rattle.std.proofs.lemmas.Bool.{cases_eq, eq-eqb, ne_eqb, cond-true, cond-false, or_left, or_right, false≢true}
use Rattle.dictionary.specs.Pairs.{among, apart}
use Rattle.links.proofs.Orders.{Not, further, all_among, apart_parts}
use Rattle.trees.specs.Counts.{times}
use Rattle.trees.proofs.Counts.{times_append}

pub here : (n x : ℕ) (xs : List ℕ) → n ≡ x → among n (x ∷ xs) ≡ true
here n x xs e = or_left (eqb n x) (among n xs) (eq-eqb n x e)

pub later : (n x : ℕ) (xs : List ℕ) → among n xs ≡ true → among n (x ∷ xs) ≡ true
later n x xs t = or_right (eqb n x) (among n xs) t

pub all_from : (P : ℕ → Type 0) (xs : List ℕ) → ((n : ℕ) → among n xs ≡ true → P n) → AllByRecursion P xs
all_from P [] h = tt
all_from P (x ∷ xs) h = (h x (here x x xs refl), all_from P xs (λ n t. h n (later n x xs t)))

module _ (F : ℕ → List ℕ) (m : ℕ) where
  pub part : (order : List ℕ) (n : ℕ) → among n order ≡ true → times m (F n) ≤ times m (flat_map F order)
  part [] n t = absurd (false≢true t)
  part (x ∷ xs) n t = elim (cases_eq n x) [
    | inl e ↦ omega (arith, times_append m (F x) (flat_map F xs), ap (λ z. times m (F z)) e)
    | inr e ↦ omega (arith, times_append m (F x) (flat_map F xs), part xs n (further n x xs e t))
  ]

  pub two_parts : (order : List ℕ) (n k : ℕ) → among n order ≡ true → among k order ≡ true → (n ≡ k → ⊥) → times m (F n) + times m (F k) ≤ times m (flat_map F order)
  two_parts [] n k t s ne = absurd (false≢true t)
  two_parts (x ∷ xs) n k t s ne = elim (cases_eq n x) [
    | inl e ↦ omega (arith, times_append m (F x) (flat_map F xs), ap (λ z. times m (F z)) e, part xs k (further k x xs (λ d. ne (e ∙ sym d)) s))
    | inr e ↦ elim (cases_eq k x) [
      | inl d ↦ omega (arith, times_append m (F x) (flat_map F xs), ap (λ z. times m (F z)) d, part xs n (further n x xs e t))
      | inr d ↦ omega (arith, times_append m (F x) (flat_map F xs), two_parts xs n k (further n x xs e t) (further k x xs d s) ne)
    ]
  ]

module _ (m : ℕ) where
  same : (F G : ℕ → List ℕ) (order : List ℕ) → ((i : ℕ) → among i order ≡ true → times m (G i) ≡ times m (F i)) → times m (flat_map G order) ≡ times m (flat_map F order)
  same F G [] h = refl
  same F G (x ∷ xs) h =
      omega (arith, times_append m (F x) (flat_map F xs), times_append m (G x) (flat_map G xs), h x (here x x xs refl), same F G xs (λ i t. h i (later i x xs t)))

  pub moved : (F G : ℕ → List ℕ) (order : List ℕ) (n : ℕ) → apart order ≡ true → among n order ≡ true →
      ((i : ℕ) → among i order ≡ true → (i ≡ n → ⊥) → times m (G i) ≡ times m (F i)) →
      times m (flat_map G order) + times m (F n) ≡ times m (flat_map F order) + times m (G n)
  moved F G [] n once t h = absurd (false≢true t)
  moved F G (x ∷ xs) n once t h =
      let f = times_append m (F x) (flat_map F xs) in
      let g = times_append m (G x) (flat_map G xs) in
      let o = apart_parts x xs once in
      elim (cases_eq n x) [
        | inl e ↦ omega (arith, f, g, ap (λ z. times m (F z)) e, ap (λ z. times m (G z)) e, same F G xs (λ i s. h i (later i x xs s) (λ d. all_among (Not x) xs i o.0 s (d ∙ e))))
        | inr e ↦ omega (arith, f, g, h x (here x x xs refl) (λ d. e (sym d)), moved F G xs n o.1 (further n x xs e t) (λ i s ne. h i (later i x xs s) ne))
      ]

  -- first the one number's list, then the other's
  pub two_moved : (F G : ℕ → List ℕ) (order : List ℕ) (n k : ℕ) → apart order ≡ true → among n order ≡ true → among k order ≡ true → (n ≡ k → ⊥) →
      ((i : ℕ) → among i order ≡ true → (i ≡ n → ⊥) → (i ≡ k → ⊥) → times m (G i) ≡ times m (F i)) →
      times m (flat_map G order) + times m (F n) + times m (F k) ≡ times m (flat_map F order) + times m (G n) + times m (G k)
  two_moved F G order n k once t s ne h =
      let H : ℕ → List ℕ = λ i. cond (eqb i n) (G n) (F i) in
      let at : (i : ℕ) → i ≡ n → times m (H i) ≡ times m (G n) = λ i e. ap (times m) (cond-true (eqb i n) (G n) (F i) (eq-eqb i n e)) in
      let off : (i : ℕ) → (i ≡ n → ⊥) → times m (H i) ≡ times m (F i) = λ i e. ap (times m) (cond-false (eqb i n) (G n) (F i) (ne_eqb i n e)) in
      let a = moved F H order n once t (λ i _ e. off i e) in
      let then : (i : ℕ) → among i order ≡ true → (i ≡ k → ⊥) → times m (G i) ≡ times m (H i) =
      λ i b d. elim (cases_eq i n) [ inl e ↦ ap (λ z. times m (G z)) e ∙ sym (at i e) | inr e ↦ h i b e d ∙ sym (off i e) ] in
      let b = moved H G order k once s then in
      omega (arith, a, b, at n refl, off k (λ e. ne (sym e)))
