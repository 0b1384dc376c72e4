-- Free nodes and those in use.
--
--   shared_size   both together are 512
--   shared_same   it matters only how often each index stands
--   lent, took, given_back  an index at the end of the free ones
--   all_free      all indices in their order
use Rattle.std.proofs.Common.{◌≡◌, ℕ, zero, suc, ◌+◌, ◌<◌, ◌≤◌, cond, ◌&&◌, ltb, leb, List, [], ◌∷◌, ◌++◌, length, get_or, Some, None, Option, IsSome, ◌↔◌, refl, ap, ◌∙◌, inl, inr, arith, length-append}
use Rattle.std.specs.List.{range_with_len}
use Rattle.std.specs.Option.{option_to_list}
use Rattle.std.proofs.lemmas.List.{map-id, nil_from_length}
use Rattle.std.proofs.lemmas.List.FromFn.{fill_by_all}
use Rattle.std.proofs.lemmas.Bool.{cases_lt, false≢true, lt-ltb, le-ltb, cond-true, cond-false}
use Rattle.std.proofs.lemmas.Bool.Decides.{nat_tests}
use Rattle.trees.specs.Counts.{single, times}
use Rattle.trees.proofs.Counts.{single_same, times_append, times_all, whole_long}
use Rattle.avl.specs.declared.pool.Pool.{Pool}
use Rattle.avl.specs.Spares.{free, Shared, Lent, Took}

small : (m : ℕ) → m < 512 → ◌≡◌ {A = ℕ} (cond (ltb m 512) 1 0) 1
small m lt = cond-true {A = ℕ} (ltb m 512) 1 0 (lt-ltb m 512 lt)

inside : (m : ℕ) → 1 ≤ cond (ltb m 512) 1 0 → m < 512
inside m h = elim (cases_lt m 512) [ inl lt ↦ lt | inr ge ↦ absurd (omega (arith, cond-false {A = ℕ} (ltb m 512) 1 0 (le-ltb m 512 ge))) ]

at_most : (m : ℕ) → cond (ltb m 512) 1 0 ≤ 1
at_most m = grind (arith, nat_tests)

pub shared_size : (used spare : List ℕ) → Shared used spare → length used + length spare ≡ 512
shared_size used spare s =
    let all : (m : ℕ) → times m (used ++ spare) ≡ cond (ltb m 512) 1 0 = λ m. times_append m used spare ∙ s m in
    omega (arith, length-append used spare, whole_long 512 (used ++ spare) (times_all (λ x. x < 512) (used ++ spare) (λ m h. inside m (omega (arith, all m)))) (λ m lt. all m ∙ small m lt))

pub shared_same : (used more spare : List ℕ) → ((m : ℕ) → times m more ≡ times m used) → Shared used spare → Shared more spare
shared_same used more spare is s m = omega (arith, is m, s m)

pub lent : (used spare rest : List ℕ) (m : ℕ) → spare ≡ rest ++ m ∷ [] → Shared used spare → Lent used rest m
lent used spare rest m is s =
    let counts : (j : ℕ) → times j spare ≡ times j rest + single j m = λ j. omega (arith, ap (times j) is, times_append j rest (m ∷ [])) in
    record {
      inside = inside m (omega (arith, s m, counts m, single_same m m refl));
      new = omega (arith, s m, counts m, single_same m m refl, at_most m);
      shared = λ j. omega (arith, s j, counts j);
    }

-- the end of the row handed out, if it has one
pub took : (p q : Pool) (r : Option ℕ) → free p ≡ free q ++ option_to_list r → IsSome r ↔ (0 < length (free p)) → Took p q r
took p q None is some =
    let none : free p ≡ [] = nil_from_length (free p) (elim (cases_lt 0 (length (free p))) [ inl lt ↦ absurd (false≢true (some.1 lt)) | inr ge ↦ omega arith ]) in
    (none, nil_from_length (free q) (omega (arith, ap length is, ap length none, length-append (free q) [])), λ used s. omega (arith, shared_size used (free p) s, ap length none))
took p q (Some m) is some = (is, λ used s. lent used (free p) (free q) m is s)

pub given_back : (used spare more : List ℕ) (m : ℕ) → more ≡ spare ++ m ∷ [] → Shared (m ∷ used) spare → Shared used more
given_back used spare more m is s j = omega (arith, s j, ap (times j) is, times_append j spare (m ∷ []))

counted : (m a n : ℕ) → times m (range_with_len a n) ≡ cond (leb a m && ltb m (a + n)) 1 0
counted m a zero = grind (arith, nat_tests)
counted m a (suc n) = let more = counted m (a + 1) n in grind (arith, nat_tests)

plain : (m n : ℕ) → ◌≡◌ {A = ℕ} (cond (leb 0 m && ltb m n) 1 0) (cond (ltb m n) 1 0)
plain m n = grind (arith, nat_tests)

in_order : (n : ℕ) (xs : List ℕ) → length xs ≡ n → ((k : ℕ) → k < n → get_or xs k 0 ≡ k) → (m : ℕ) → times m xs ≡ cond (ltb m n) 1 0
in_order n xs long is m =
    let row : xs ≡ range_with_len 0 n = fill_by_all (λ x. x) xs n 0 long is ∙ map-id (range_with_len 0 n) in
    let c = counted m 0 n in
    let q : 0 + n ≡ n = omega arith in
    ap (times m) row ∙ c ∙ ap {B = ℕ} (λ z. cond (leb 0 m && ltb m z) 1 0) q ∙ plain m n

pub all_free : (spare : List ℕ) → length spare ≡ 512 → ((k : ℕ) → k < 512 → get_or spare k 0 ≡ k) → Shared [] spare
all_free spare long is m = let c = in_order 512 spare long is m in omega (arith, c)
