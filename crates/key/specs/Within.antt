-- A kind whose keys are the numbers below a bound: its laws, from the way between keys and numbers.
--
--   within_some, within_again, within_every   a number below the bound is read
--   within_exact                              and a key that it is read as has that number
--   Numbered                                  each key has a number below the bound, and each such number its key
--   reads                                     a number is read as the key that has it
use Rattle.std.specs.Prelude.{◌≡◌, ℕ, ◌<◌, true, is_some, Some, None, nat_lt}
use Rattle.std.proofs.Common.{sym, ap, ◌∙◌, subst, inl, inr}
use Rattle.std.proofs.lemmas.Bool.{cases_Bool, cond-true, cond-false, lt-ltb, ltb-true}
use Rattle.key.specs.Kinds.{within}

pub within_some : {K : Type 0} (bound : ℕ) (at : ℕ → K) (n : ℕ) → n < bound → within bound at n ≡ Some (at n)
within_some bound at n h = cond-true (nat_lt n bound) _ _ (lt-ltb n bound h)

pub within_again : {K : Type 0} (bound : ℕ) (at : ℕ → K) (n : ℕ) (k : K) → n < bound → at n ≡ k → within bound at n ≡ Some k
within_again bound at n k h e = within_some bound at n h ∙ ap Some e

pub within_every : {K : Type 0} (bound : ℕ) (at : ℕ → K) (n : ℕ) → n < bound → is_some (within bound at n) ≡ true
within_every bound at n h = ap is_some (within_some bound at n h)

pub within_exact : {K : Type 0} (bound : ℕ) (at : ℕ → K) (bits : K → ℕ) → ((n : ℕ) → n < bound → bits (at n) ≡ n) → (n : ℕ) (k : K) → within bound at n ≡ Some k → bits k ≡ n
within_exact bound at bits back n k e =
    elim (cases_Bool (nat_lt n bound)) [
      | inl t ↦
          let f : Some (at n) ≡ Some k = sym (cond-true (nat_lt n bound) (Some (at n)) None t) ∙ e in
          let g : at n ≡ k = cc in
          ap bits (sym g) ∙ back n (ltb-true n bound t)
      | inr t ↦
          let f : None ≡ Some k = sym (cond-false (nat_lt n bound) (Some (at n)) None t) ∙ e in
          cc
    ]

pub record Numbered {K : Type 0} (bound : ℕ) (at : ℕ → K) (bits : K → ℕ) : Type 0 where
  pub below : (k : K) → bits k < bound
  pub back : (n : ℕ) → n < bound → bits (at n) ≡ n
  pub same : (k : K) → at (bits k) ≡ k

pub reads : {K : Type 0} {bound : ℕ} {at : ℕ → K} {bits : K → ℕ} → Numbered bound at bits → (n : ℕ) (k : K) → bits k ≡ n → within bound at n ≡ Some k
reads {bound = bound} {at = at} numbered n k e =
    subst (λ m. within bound at m ≡ Some k) e (within_again bound at _ k (numbered.below k) (numbered.same k))
