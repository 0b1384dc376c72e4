-- Elements written one after another into a row.
--
--   laid_long    the row stays as long
--   laid_join    two writes, one behind the other
--   laid_before, laid_after, laid_at  places before, behind and among the written ones
--   laid_parts   the row in its parts: before, written, behind
use Rattle.std.proofs.Common.{◌≡◌, ℕ, zero, suc, ◌+◌, ◌<◌, ◌≤◌, List, [], ◌∷◌, ◌++◌, length, get_or, take, drop, set, sym, refl, ap, ◌∙◌, arith, length-set, get_or-set_other, get_or-set_same}
use Rattle.std.proofs.lemmas.List.{take-append-drop, take_more_set, drop-set-lt, append_assoc}
use Rattle.trees.specs.Answers.{laid}

module _ {X : Type 0} where
  pub laid_long : (xs : List X) (n : ℕ) (es : List X) → length (laid xs n es) ≡ length xs
  laid_long xs n [] = refl
  laid_long xs n (e ∷ es) = laid_long (set xs n e) (suc n) es ∙ length-set xs n e

  pub laid_join : (xs : List X) (n : ℕ) (es fs : List X) → laid xs n (es ++ fs) ≡ laid (laid xs n es) (n + length es) fs
  laid_join xs n [] fs = let e : n + 0 ≡ n = omega arith in rw e
  laid_join xs n (e ∷ es) fs = let q : n + suc (length es) ≡ suc n + length es = omega arith in rw q (laid_join (set xs n e) (suc n) es fs)

  -- the elements of a left part, one in the middle, those of a right part
  pub laid_around : (xs : List X) (n : ℕ) (es : List X) (e : X) (fs : List X) → laid (set (laid xs n es) (n + length es) e) (n + length es + 1) fs ≡ laid xs n (es ++ e ∷ fs)
  laid_around xs n es e fs = let q : n + length es + 1 ≡ suc (n + length es) = omega arith in rw q (sym (laid_join xs n es (e ∷ fs)))

  pub laid_before : (xs : List X) (n : ℕ) (es : List X) (k : ℕ) (d : X) → k < n → get_or (laid xs n es) k d ≡ get_or xs k d
  laid_before xs n [] k d lt = refl
  laid_before xs n (e ∷ es) k d lt = laid_before (set xs n e) (suc n) es k d (omega arith) ∙ get_or-set_other xs n k e d (omega arith)

  pub laid_after : (xs : List X) (n : ℕ) (es : List X) (k : ℕ) (d : X) → n + length es ≤ k → get_or (laid xs n es) k d ≡ get_or xs k d
  laid_after xs n [] k d le = refl
  laid_after xs n (e ∷ es) k d le = laid_after (set xs n e) (suc n) es k d (omega arith) ∙ get_or-set_other xs n k e d (omega arith)

  pub laid_at : (xs : List X) (n : ℕ) (es : List X) (k : ℕ) (d : X) → k < length es → n + length es ≤ length xs → get_or (laid xs n es) (n + k) d ≡ get_or es k d
  laid_at xs n [] k d lt le = absurd (omega arith)
  laid_at xs n (e ∷ es) zero d lt le = let q : n + 0 ≡ n = omega arith in rw q (laid_before (set xs n e) (suc n) es n d (omega arith) ∙ get_or-set_same xs n e d (omega arith))
  laid_at xs n (e ∷ es) (suc k) d lt le = let q : n + suc k ≡ suc n + k = omega arith in rw q (laid_at (set xs n e) (suc n) es k d (omega arith) (omega (arith, length-set xs n e)))

  pub laid_parts : (xs : List X) (n : ℕ) (es : List X) → n + length es ≤ length xs → laid xs n es ≡ take n xs ++ (es ++ drop (n + length es) xs)
  laid_parts xs n [] le = let q : n + 0 ≡ n = omega arith in rw q (sym (take-append-drop n xs))
  laid_parts xs n (e ∷ es) le =
      let q : suc n + length es ≡ n + suc (length es) = omega arith in
      let f : suc n ≡ n + 1 = omega arith in
      laid_parts (set xs n e) (suc n) es (omega (arith, length-set xs n e))
      ∙ (λ d. (ap (λ z. take z (set xs n e)) f ∙ take_more_set xs n e (omega arith)) d ++ (es ++ (ap (λ z. drop z (set xs n e)) q ∙ drop-set-lt (n + suc (length es)) xs n e (omega arith)) d))
      ∙ append_assoc (take n xs) (e ∷ []) (es ++ drop (n + suc (length es)) xs)
