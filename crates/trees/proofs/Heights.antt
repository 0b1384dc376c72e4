-- The fewest entries of a height, and the largest height of so many entries.
--
--   fewest_le                  more height needs more entries
--   fewest_holds               a balanced tree has at least the fewest of its height
--   table_is                   the table holds them: its recurrence is computed once
--   highest_allows, highest_largest  what H means
--   highest_tree               a balanced tree is no higher than H of its entries
use Rattle.std.proofs.Common.{◌≡◌, ℕ, zero, suc, ◌+◌, ◌-◌, ◌<◌, ◌≤◌, max, true, eqb, leb, List, [], ◌∷◌, length, get_or, filter, refl, ap, subst, inl, inr, ⊎_elim, add-zero, add-suc, arith, length-append}
use Rattle.std.proofs.ByRecursion.{All-from_get_or}
use Rattle.std.proofs.lemmas.Bool.{cases_order, cases_lt, eqb-true, and_parts, le-leb, lt-leb}
use Rattle.entry.proofs.Filters.{kept_none}
use Rattle.trees.specs.Trees.{Tree, leaf, node, tall, entries, Balanced}
use Rattle.trees.specs.Heights.{fewest, table, recurs, highest}

pub fewest_more : (n : ℕ) → fewest n ≤ fewest (suc n)
fewest_more zero = omega arith
fewest_more (suc n) = omega arith

fewest_grows : (a d : ℕ) → fewest a ≤ fewest (a + d)
fewest_grows a zero = rw add-zero (omega arith)
fewest_grows a (suc d) = rw add-suc (omega (arith, fewest_grows a d, fewest_more (a + d)))

pub fewest_le : (a b : ℕ) → a ≤ b → fewest a ≤ fewest b
fewest_le a b le = let e : a + (b - a) ≡ b = omega arith in rw e at (fewest_grows a (b - a))

fewest_twice : (n : ℕ) → fewest (suc n) ≤ 1 + fewest n + fewest n
fewest_twice zero = omega arith
fewest_twice (suc n) = omega (arith, fewest_more n)

fewest_join : (a b : ℕ) → a ≤ 1 + b → b ≤ 1 + a → fewest (1 + max a b) ≤ 1 + fewest a + fewest b
fewest_join a b p q = ⊎_elim
    (λ (e : a ≡ b). let w : 1 + max a b ≡ suc a = omega arith in rw w (omega (arith, fewest_twice a, ap fewest e)))
    (⊎_elim
    (λ (lt : a < b). let w : 1 + max a b ≡ suc (suc a) = omega arith in let x : b ≡ suc a = omega arith in rw w (omega (arith, ap fewest x)))
    (λ (lt : b < a). let w : 1 + max a b ≡ suc (suc b) = omega arith in let x : a ≡ suc b = omega arith in rw w (omega (arith, ap fewest x))))
    (cases_order a b)

pub fewest_holds : (t : Tree) → Balanced t → fewest (tall t) ≤ length (entries t)
fewest_holds leaf h = omega arith
fewest_holds (node i e l r) h =
    omega (arith, fewest_join (tall l) (tall r) h.0 h.1, fewest_holds l h.2, fewest_holds r h.3, length-append (entries l) (e ∷ entries r))

first_is : (n c : ℕ) (cs : List ℕ) → recurs (fewest n) (fewest (suc n)) (c ∷ cs) ≡ true → (c ≡ fewest (suc (suc n))) × (recurs (fewest (suc n)) (fewest (suc (suc n))) cs ≡ true)
first_is n c cs h =
    let p = and_parts (eqb c (1 + fewest (suc n) + fewest n)) (recurs (fewest (suc n)) c cs) h in
    let is : c ≡ fewest (suc (suc n)) = eqb-true c (1 + fewest (suc n) + fewest n) p.0 in
    (is, subst (λ x. recurs (fewest (suc n)) x cs ≡ true) is p.1)

-- a row that goes on by the rule after the fewest of n and n + 1
goes_on : (n : ℕ) (cs : List ℕ) → recurs (fewest n) (fewest (suc n)) cs ≡ true → (k : ℕ) → k < length cs → get_or cs k 0 ≡ fewest (k + suc (suc n))
goes_on n [] h k lt = absurd (omega arith)
goes_on n (c ∷ cs) h zero lt =
    let e : 0 + suc (suc n) ≡ suc (suc n) = omega arith in
    rw e (first_is n c cs h).0
goes_on n (c ∷ cs) h (suc k) lt =
    let is = first_is n c cs h in
    let e : suc k + suc (suc n) ≡ k + suc (suc (suc n)) = omega arith in
    rw e (goes_on (suc n) cs is.1 k (omega arith))

-- the recurrence of the whole table, by computation
table_recurs : recurs 0 1 (2 ∷ 4 ∷ 7 ∷ 12 ∷ 20 ∷ 33 ∷ 54 ∷ 88 ∷ 143 ∷ []) ≡ true
table_recurs = refl

pub table_is : (h : ℕ) → 1 ≤ h → h ≤ 10 → get_or table (h - 1) 0 ≡ fewest h
table_is zero a b = absurd (omega arith)
table_is (suc zero) a b = refl
table_is (suc (suc n)) a b =
    let e : suc (suc n) - 1 ≡ suc n = omega arith in
    let f : n + suc (suc zero) ≡ suc (suc n) = omega arith in
    rw e (rw f at (goes_on 0 (2 ∷ 4 ∷ 7 ∷ 12 ∷ 20 ∷ 33 ∷ 54 ∷ 88 ∷ 143 ∷ []) table_recurs n (omega arith)))

-- a rising row of the fewest of n and so on, cut at s
record Cut (s n r k : ℕ) : Type 0 where
  low : fewest (n + r) ≤ s
  high : r < k → s < fewest (suc (n + r))

rows_cut : (s n : ℕ) (xs : List ℕ) → ((k : ℕ) → k < length xs → get_or xs k 0 ≡ fewest (suc (n + k))) → fewest n ≤ s
    → Cut s n (length (filter (λ x. leb x s) xs)) (length xs)
rows_cut s n [] h le = record { low = rw add-zero le; high = λ lt. absurd (omega arith) }
rows_cut s n (x ∷ xs) h le =
    let e : suc (n + 0) ≡ suc n = omega arith in
    let is : x ≡ fewest (suc n) = rw e at (h 0 (omega arith)) in
    let rest : (k : ℕ) → k < length xs → get_or xs k 0 ≡ fewest (suc (suc n + k)) = λ k lt. (let f : suc (n + suc k) ≡ suc (suc n + k) = omega arith in rw f at (h (suc k) (omega arith))) in
    elim (cases_lt s x) [
      | inl lt ↦
          let none : filter (λ z. leb z s) xs ≡ [] = kept_none _ (λ z. s < z) (λ z g. lt-leb z s g) xs
          (All-from_get_or (λ z. s < z) xs 0 (λ k g. omega (arith, rest k g, fewest_le (suc n) (suc (suc n + k)) (omega arith)))) in
          rw (lt-leb x s lt, none) (record { low = rw add-zero le; high = λ g. rw add-zero (omega arith) })
      | inr ge ↦
          let more = rows_cut s (suc n) xs rest (omega arith) in
          let f : n + suc (length (filter (λ z. leb z s) xs)) ≡ suc n + length (filter (λ z. leb z s) xs) = omega arith in
          rw (le-leb x s ge) (record { low = rw f more.low; high = λ g. rw f (more.high (omega arith)) })
    ]

table_cut : (s : ℕ) → Cut s 0 (highest s) 10
unfolding highest
table_cut s = rows_cut s 0 table (λ k lt.
    let e : suc k - 1 ≡ k = omega arith in
    let f : suc (0 + k) ≡ suc k = omega arith in
    rw f (rw e at (table_is (suc k) (omega arith) (omega arith)))) (omega arith)

pub highest_allows : (s : ℕ) → fewest (highest s) ≤ s
highest_allows s = let e : 0 + highest s ≡ highest s = omega arith in rw e at (table_cut s).low

pub highest_largest : (s : ℕ) → s < 232 → (h : ℕ) → fewest h ≤ s → h ≤ highest s
highest_largest s small h le = ⊎_elim (λ (p : h < suc (highest s)). omega arith)
    (λ (p : suc (highest s) ≤ h). absurd (⊎_elim
    (λ (q : highest s < 10).
    let e : suc (0 + highest s) ≡ suc (highest s) = omega arith in
    let more : s < fewest (suc (highest s)) = rw e at ((table_cut s).high q) in
    omega (arith, fewest_le (suc (highest s)) h p))
    (λ (q : 10 ≤ highest s). omega (arith, fewest_le 11 h (omega arith)))
    (cases_lt (highest s) 10)))
    (cases_lt h (suc (highest s)))

pub highest_tree : (s : ℕ) → s < 232 → (t : Tree) → Balanced t → length (entries t) ≤ s → tall t ≤ highest s
highest_tree s small t b le = highest_largest s small (tall t) (omega (arith, fewest_holds t b))
