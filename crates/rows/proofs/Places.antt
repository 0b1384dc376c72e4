-- The place of a key's bucket in the row.
use Rattle.std.proofs.Common.{◌≡◌, ℕ, suc, ◌+◌, ◌<◌, ◌≤◌, true, leb, List, [], ◌∷◌, ◌++◌, map, length, refl, ap, ◌∙◌, arith}
use Rattle.std.specs.List.{flat_map, AllByRecursion}
use Rattle.std.proofs.lemmas.Bool.{cond-true, cond-false, le-leb, lt-leb}
use Rattle.entry.specs.declared.Entry.{Entry}
use Rattle.rules.specs.Buckets.{reps, flat, several, place, standing}
use Rattle.rows.specs.Rows.{row}

module _ (rep : ℕ → ℕ) (items : ℕ → List Entry) where
  pub row_reps : (order : List ℕ) → reps (row rep items order) ≡ map rep order
  row_reps [] = refl
  row_reps (x ∷ xs) = ap (λ l. rep x ∷ l) (row_reps xs)

  pub row_flat : (order : List ℕ) → flat (row rep items order) ≡ flat_map items order
  row_flat [] = refl
  row_flat (x ∷ xs) = ap (λ l. items x ++ l) (row_flat xs)

  pub row_several : (x y : ℕ) (ys : List ℕ) → several (row rep items (x ∷ y ∷ ys)) ≡ true
  row_several x y ys = refl

  none_stand : (k : ℕ) (post : List ℕ) → AllByRecursion (λ y. k < rep y) post → standing k (row rep items post) ≡ 0
  none_stand k [] a = refl
  none_stand k (y ∷ post) a = cond-false (leb (rep y) k) _ _ (lt-leb (rep y) k a.0)

  some_stand : (k : ℕ) (pre : List ℕ) (n : ℕ) (post : List ℕ) → AllByRecursion (λ x. rep x ≤ k) pre → rep n ≤ k → AllByRecursion (λ y. k < rep y) post →
      standing k (row rep items (pre ++ n ∷ post)) ≡ length pre + 1
  some_stand k [] n post a l b = cond-true (leb (rep n) k) _ _ (le-leb (rep n) k l) ∙ ap suc (none_stand k post b) ∙ omega arith
  some_stand k (x ∷ pre) n post a l b =
      cond-true (leb (rep x) k) _ _ (le-leb (rep x) k a.0) ∙ (ap suc (some_stand k pre n post a.1 l b) ∙ omega arith)

  -- the last bucket at or below a key
  pub row_place : (k : ℕ) (pre : List ℕ) (n : ℕ) (post : List ℕ) → AllByRecursion (λ x. rep x ≤ k) pre → rep n ≤ k → AllByRecursion (λ y. k < rep y) post →
      place k (row rep items (pre ++ n ∷ post)) ≡ length pre
  row_place k [] n post a l b = none_stand k post b
  row_place k (x ∷ pre) n post a l b = some_stand k pre n post a.1 l b ∙ omega arith
