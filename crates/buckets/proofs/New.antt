-- A new table: number 0 is the only bucket, and the others are free from 1 on.
use Rattle.std.proofs.Common.{◌≡◌, ℕ, zero, suc, ◌+◌, ◌<◌, ◌≤◌, cond, ◌&&◌, ltb, leb, eqb, List, [], ◌∷◌, length, get_or, refl, sym, ap, ◌∙◌, subst, arith}
use Rattle.std.proofs.lemmas.Bool.{cond-false, ne_eqb}
use Rattle.std.proofs.lemmas.Bool.Decides.{nat_tests}
use Rattle.trees.specs.Counts.{times}
use Rattle.buckets.specs.declared.Bucket.{Bucket}
use Rattle.buckets.specs.declared.Table.{Table}
use Rattle.buckets.specs.Rings.{no_bucket, rep_in, size_in, root_in, prev_in, next_in, Row, LaidIn, StandingIn}
use Rattle.buckets.specs.Tables.{no_tree, Fresh}
use Rattle.buckets.proofs.Lays.{laid_stands, laid_order}

-- x and the numbers after it, n of them
count_up : ℕ → ℕ → List ℕ
count_up x zero = []
count_up x (suc n) = x ∷ count_up (suc x) n

count_many : (x n : ℕ) → length (count_up x n) ≡ n
unfolding count_up
count_many x zero = refl
count_many x (suc n) = ap suc (count_many (suc x) n)

count_row : (next : ℕ → ℕ) (x n : ℕ) → ((k : ℕ) → x ≤ k → k < x + n → next k ≡ suc k) → Row next x (count_up x n)
unfolding count_up
count_row next x zero h = tt
count_row next x (suc n) h =
    (refl, subst (λ y. Row next y (count_up (suc x) n)) (sym (h x (omega arith) (omega arith))) (count_row next (suc x) n (λ k a b. h k (omega arith) (omega arith))))

count_times : (m x n : ℕ) → times m (count_up x n) ≡ cond (leb x m && ltb m (x + n)) 1 0
unfolding count_up
count_times m x zero = grind (arith, nat_tests)
count_times m x (suc n) = let more = count_times m (suc x) n in grind (arith, nat_tests)

new_shared : (m : ℕ) → times m (0 ∷ []) + times m (count_up 1 127) ≡ cond (ltb m 128) 1 0
new_shared m = let c = count_times m 1 127 in grind (arith, nat_tests)

-- the record of a number at first
abbrev pub blank : ℕ → Bucket
blank i = record { rep = 0; size = 0; root = no_tree; prev = 0; next = cond (eqb i 0) 0 (i + 1) }

module _ (rs : List Bucket) (long : length rs ≡ 128) (each : (i : ℕ) → i < 128 → get_or rs i no_bucket ≡ blank i) where
  first : get_or rs 0 no_bucket ≡ blank 0
  first = each 0 (omega arith)

  leads : (k : ℕ) → 1 ≤ k → k < 1 + 127 → next_in rs k ≡ suc k
  unfolding next_in
  leads k a b = ap (λ (x : Bucket). x.next) (each k (omega arith)) ∙ cond-false (eqb k 0) 0 (k + 1) (ne_eqb k 0 (λ e. omega arith)) ∙ omega arith

  new_laid : LaidIn rs 1 1 [] (count_up 1 127)
  unfolding next_in prev_in
  new_laid = record {
    long = long;
    count = refl;
    ring = (ap (λ (x : Bucket). x.next) first, ap (λ (x : Bucket). x.prev) first);
    free = count_row (next_in rs) 1 127 leads;
    shared = new_shared;
    whole = omega (arith, count_many 1 127);
  }

  pub new_stands : StandingIn rs 1 1
  new_stands = laid_stands rs 1 1 [] (count_up 1 127) new_laid

  pub new_fresh : (t : Table) → t.records ≡ rs → t.count ≡ 1 → Fresh t
  unfolding rep_in size_in root_in
  new_fresh t er ec = record {
    order = laid_order t rs 1 1 [] (count_up 1 127) new_laid er ec;
    rep = ap (λ z. rep_in z 0) er ∙ ap (λ (x : Bucket). x.rep) first;
    size = ap (λ z. size_in z 0) er ∙ ap (λ (x : Bucket). x.size) first;
    root = ap (λ z. root_in z 0) er ∙ ap (λ (x : Bucket). x.root) first;
  }
