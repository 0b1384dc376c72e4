-- The gets of a level search, turn by turn, and the most frames of a search.
--
--   gets_done, gets_up, gets_down   none is left; one, and those of the upper or of the lower half
--   gets_same                       they depend on the levels 0 to w alone
--   gets_le                         at most k between two levels at most 2^k apart
--   gets_most                       at most q in a whole search, with the root's
use Rattle.std.proofs.Common.{◌≡◌, ℕ, zero, suc, ◌+◌, ◌-◌, ◌/◌, ◌^◌, ◌<◌, ◌≤◌, Bool, true, false, cond, leb, sym, refl, ap, ◌∙◌, inl, inr, arith}
use Rattle.std.proofs.lemmas.Bool.{cases_Bool, cond-true, cond-false, le-leb, lt-leb, leb-true, leb-false}
use Rattle.key.specs.Widths.{log_up, most}
use Rattle.key.proofs.Logs.{doubled, rounded_up}
use Rattle.levels.specs.Counts.{gets_by, gets}

abbrev pub middle : ℕ → ℕ → ℕ
middle lo hi = (lo + hi) / 2

module _ (there : ℕ → Bool) where
  idle : (fuel lo hi : ℕ) → hi - lo ≤ 1 → gets_by fuel there lo hi ≡ 0
  unfolding gets_by
  idle zero lo hi h = refl
  idle (suc fuel) lo hi h = cond-true (leb (hi - lo) 1) _ _ (le-leb (hi - lo) 1 h)

  turn : (fuel lo hi : ℕ) → 1 < hi - lo → gets_by (suc fuel) there lo hi ≡ 1 + cond (there (middle lo hi)) (gets_by fuel there (middle lo hi) hi) (gets_by fuel there lo (middle lo hi))
  unfolding gets_by
  turn fuel lo hi h = cond-false (leb (hi - lo) 1) _ _ (lt-leb (hi - lo) 1 h)

  out : (lo hi : ℕ) → gets_by 0 there lo hi ≡ 0
  unfolding gets_by
  out lo hi = refl

  -- more steps allowed than levels alter nothing
  enough : (m n lo hi : ℕ) → hi - lo ≤ m → hi - lo ≤ n → gets_by m there lo hi ≡ gets_by n there lo hi
  enough zero n lo hi a b = out lo hi ∙ sym (idle n lo hi (omega arith))
  enough (suc m) zero lo hi a b = idle (suc m) lo hi (omega arith) ∙ sym (out lo hi)
  enough (suc m) (suc n) lo hi a b =
      elim (cases_Bool (leb (hi - lo) 1)) [
        | inl t ↦ (let h = leb-true (hi - lo) 1 t in idle (suc m) lo hi h ∙ sym (idle (suc n) lo hi h))
        | inr t ↦ (
            let h = leb-false (hi - lo) 1 t in
            let up = enough m n (middle lo hi) hi (omega arith) (omega arith) in
            let down = enough m n lo (middle lo hi) (omega arith) (omega arith) in
            turn m lo hi h
            ∙ ap (λ x. 1 + cond (there (middle lo hi)) x (gets_by m there lo (middle lo hi))) up
            ∙ ap (λ x. 1 + cond (there (middle lo hi)) (gets_by n there (middle lo hi) hi) x) down
            ∙ sym (turn n lo hi h))
      ]

  pub gets_done : (lo hi : ℕ) → hi - lo ≤ 1 → gets there lo hi ≡ 0
  gets_done lo hi h = idle (hi - lo) lo hi h

  step : (lo hi : ℕ) → 1 < hi - lo → gets there lo hi ≡ 1 + cond (there (middle lo hi)) (gets there (middle lo hi) hi) (gets there lo (middle lo hi))
  step lo hi h =
      let mid = middle lo hi in
      let up = enough (hi - lo) (hi - mid) mid hi (omega arith) (omega arith) in
      let down = enough (hi - lo) (mid - lo) lo mid (omega arith) (omega arith) in
      enough (hi - lo) (suc (hi - lo)) lo hi (omega arith) (omega arith)
      ∙ turn (hi - lo) lo hi h
      ∙ ap (λ x. 1 + cond (there mid) x (gets_by (hi - lo) there lo mid)) up
      ∙ ap (λ x. 1 + cond (there mid) (gets_by (hi - mid) there mid hi) x) down

  pub gets_up : (lo hi : ℕ) → 1 < hi - lo → there (middle lo hi) ≡ true → gets there lo hi ≡ 1 + gets there (middle lo hi) hi
  gets_up lo hi h t = step lo hi h ∙ ap (λ x. 1 + x) (cond-true (there (middle lo hi)) _ _ t)

  pub gets_down : (lo hi : ℕ) → 1 < hi - lo → there (middle lo hi) ≡ false → gets there lo hi ≡ 1 + gets there lo (middle lo hi)
  gets_down lo hi h t = step lo hi h ∙ ap (λ x. 1 + x) (cond-false (there (middle lo hi)) _ _ t)

  -- each get halves what is left
  pub gets_le : (k lo hi : ℕ) → hi - lo ≤ 2 ^ k → gets there lo hi ≤ k
  gets_le zero lo hi h = omega (arith, gets_done lo hi h)
  gets_le (suc k) lo hi h =
      elim (cases_Bool (leb (hi - lo) 1)) [
        | inl t ↦ omega (arith, gets_done lo hi (leb-true (hi - lo) 1 t))
        | inr t ↦ (
            let wide = leb-false (hi - lo) 1 t in
            let twice = doubled k in
            elim (cases_Bool (there (middle lo hi))) [
              | inl u ↦ omega (arith, gets_up lo hi wide u, gets_le k (middle lo hi) hi (omega arith))
              | inr u ↦ omega (arith, gets_down lo hi wide u, gets_le k lo (middle lo hi) (omega arith))
            ])
      ]

  pub gets_most : (w : ℕ) → 1 + gets there 0 (w + 1) ≤ most w
  gets_most w = omega (arith, gets_le (log_up (w + 1)) 0 (w + 1) (omega (arith, (rounded_up (w + 1)).enough)))

-- two ways to tell the levels that agree on 0 to w give the same gets
pub gets_same : (p q : ℕ → Bool) (w : ℕ) → ((j : ℕ) → j ≤ w → p j ≡ q j) → gets p 0 (w + 1) ≡ gets q 0 (w + 1)
gets_same p q w same = go (w + 1 - 0) 0 (w + 1) (omega arith) (omega arith)
  where
    go : (fuel lo hi : ℕ) → hi ≤ w + 1 → lo ≤ hi → gets_by fuel p lo hi ≡ gets_by fuel q lo hi
    go zero lo hi l m = out p lo hi ∙ sym (out q lo hi)
    go (suc f) lo hi l m =
        elim (cases_Bool (leb (hi - lo) 1)) [
          | inl t ↦ (let h = leb-true (hi - lo) 1 t in idle p (suc f) lo hi h ∙ sym (idle q (suc f) lo hi h))
          | inr t ↦ (
              let h = leb-false (hi - lo) 1 t in
              let up = go f (middle lo hi) hi l (omega arith) in
              let down = go f lo (middle lo hi) (omega arith) (omega arith) in
              let here = same (middle lo hi) (omega arith) in
              turn p f lo hi h
              ∙ ap (λ n. 1 + cond (p (middle lo hi)) n (gets_by f p lo (middle lo hi))) up
              ∙ ap (λ n. 1 + cond (p (middle lo hi)) (gets_by f q (middle lo hi) hi) n) down
              ∙ ap (λ b. 1 + cond b (gets_by f q (middle lo hi) hi) (gets_by f q lo (middle lo hi))) here
              ∙ sym (turn q f lo hi h))
        ]
