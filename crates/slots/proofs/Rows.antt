-- What a row of slots means, before and after one slot is written.
use Rattle.std.proofs.Common.{rules, ◌≡◌, ℕ, zero, suc, ◌<◌, ◌≢◌, ◌⊎◌, List, [], ◌∷◌, length, get_or, set, replicate, None, sym, refl, ap, ◌∙◌, inl, inr, ⊎_elim, arith}
use mathlib.Core.Path.{fun_ext}
use Rattle.std.proofs.lemmas.List.{get_or-set_same, get_or-set_other}
use Rattle.std.proofs.lemmas.Bool.{cases_eq, cond-true, cond-false, eq-eqb, ne_eqb}
use Rattle.dictionary.specs.Pairs.{with_pair, no_pairs}
use Rattle.slots.specs.declared.Slot.{Slot}
use Rattle.slots.specs.Laws.{pairs_zero}
use Rattle.slots.specs.Slots.{blank, node_at, links_of, seek, pairs_of, Apart, Absent}

-- a taken slot lies within the row
pub taken_within : (xs : List Slot) (i : ℕ) → 0 < node_at xs i → i < length xs
taken_within [] i h = absurd (omega arith)
taken_within (s ∷ ss) zero h = omega arith
taken_within (s ∷ ss) (suc i) h = omega (arith, taken_within ss i h)

seek_found : (xs : List Slot) → Apart xs → (i n : ℕ) → 0 < n → node_at xs i ≡ n → seek xs n ≡ links_of (get_or xs i blank)
unfolding seek
seek_found [] apart i n pos is = absurd (omega arith)
seek_found (s ∷ ss) apart zero n pos is = cond-true _ _ _ (eq-eqb s.node n is)
seek_found (s ∷ ss) apart (suc i) n pos is =
    cond-false _ _ _ (ne_eqb s.node n (λ e. let z : zero ≡ suc i = apart zero (suc i) (omega arith, e ∙ sym is) in omega arith))
    ∙ seek_found ss (λ j k pe. let q : suc j ≡ suc k = apart (suc j) (suc k) pe in omega arith) i n pos is

seek_absent : (xs : List Slot) (n : ℕ) → Absent xs n → seek xs n ≡ None
unfolding seek
seek_absent [] n none = refl
seek_absent (s ∷ ss) n none = cond-false _ _ _ (ne_eqb s.node n (none zero)) ∙ seek_absent ss n (λ i. none (suc i))

pub pairs_found : (xs : List Slot) → Apart xs → (i n : ℕ) → 0 < n → node_at xs i ≡ n → pairs_of xs n ≡ links_of (get_or xs i blank)
unfolding pairs_of
pairs_found xs apart i n pos is = cond-false _ _ _ (ne_eqb n 0 (omega arith)) ∙ seek_found xs apart i n pos is

pub pairs_absent : (xs : List Slot) (n : ℕ) → 0 < n → Absent xs n → pairs_of xs n ≡ None
unfolding pairs_of
pairs_absent xs n pos none = cond-false _ _ _ (ne_eqb n 0 (omega arith)) ∙ seek_absent xs n none

-- a node that stands nowhere, or is 0, has no pair
pub pairs_none : (xs : List Slot) (n : ℕ) → (0 < n → Absent xs n) → pairs_of xs n ≡ None
pairs_none xs n none = ⊎_elim (λ (z : n ≡ 0). pairs_zero xs n z) (λ (nz : n ≡ 0 → ⊥). pairs_absent xs n (omega arith) (none (omega arith))) (cases_eq n 0)

-- a node stands somewhere or nowhere
pub somewhere : (xs : List Slot) (n : ℕ) → 0 < n → ((i : ℕ) × (node_at xs i ≡ n)) ⊎ Absent xs n
somewhere [] n pos = inr (λ i e. omega arith)
somewhere (s ∷ ss) n pos =
    ⊎_elim (λ e. inl (zero, e))
    (λ ne. ⊎_elim (λ (f : (i : ℕ) × (node_at ss i ≡ n)). inl (suc f.0, f.1))
    (λ (none : Absent ss n). inr (λ i. elim i as (λ k. node_at (s ∷ ss) k ≡ n → ⊥) [ zero ↦ ne | suc k ↦ none k ]))
    (somewhere ss n pos))
    (cases_eq s.node n)

module _ (xs : List Slot) (p : ℕ) (c : Slot) (within : p < length xs) where
  pub node_same : node_at (set xs p c) p ≡ c.node
  node_same = search rules

  pub node_other : (i : ℕ) → i ≢ p → node_at (set xs p c) i ≡ node_at xs i
  node_other i ne = search rules

  -- a node that stands nowhere else is put in
  pub apart_set : Apart xs → ((i : ℕ) → i ≢ p → node_at xs i ≡ c.node → 0 < c.node → ⊥) → Apart (set xs p c)
  apart_set apart new i j pe = search rules

  module _ (apart : Apart xs) (apart' : Apart (set xs p c)) where
    pub pairs_here : 0 < c.node → pairs_of (set xs p c) c.node ≡ links_of c
    pairs_here pos = pairs_found (set xs p c) apart' p c.node pos node_same ∙ ap links_of (get_or-set_same xs p c blank within)

    pub pairs_gone : (m : ℕ) → m ≡ node_at xs p → m ≢ c.node → pairs_of (set xs p c) m ≡ None
    pairs_gone m is ne =
        ⊎_elim (λ (z : m ≡ 0). pairs_zero (set xs p c) m z)
        (λ (nz : m ≡ 0 → ⊥). pairs_absent (set xs p c) m (omega arith) (λ i e.
        ⊎_elim (λ (a : i ≡ p). ne (sym e ∙ ap (node_at (set xs p c)) a ∙ node_same))
        (λ (na : i ≡ p → ⊥). na (apart i p (omega (arith, node_other i na), sym (node_other i na) ∙ e ∙ is)))
        (cases_eq i p)))
        (cases_eq m 0)

    pub pairs_else : (m : ℕ) → m ≢ node_at xs p → m ≢ c.node → pairs_of (set xs p c) m ≡ pairs_of xs m
    pairs_else m ne ne' =
        ⊎_elim (λ (z : m ≡ 0). pairs_zero (set xs p c) m z ∙ sym (pairs_zero xs m z))
        (λ (nz : m ≡ 0 → ⊥).
        let pos : 0 < m = omega arith in
        ⊎_elim
        (λ (f : (i : ℕ) × (node_at xs i ≡ m)).
        let na : f.0 ≢ p = λ a. ne (sym f.1 ∙ ap (node_at xs) a) in
        pairs_found (set xs p c) apart' f.0 m pos (node_other f.0 na ∙ f.1)
        ∙ ap links_of (get_or-set_other xs p f.0 c blank na) ∙ sym (pairs_found xs apart f.0 m pos f.1))
        (λ (none : Absent xs m).
        pairs_absent (set xs p c) m pos (λ i e.
        ⊎_elim (λ (a : i ≡ p). ne' (sym e ∙ ap (node_at (set xs p c)) a ∙ node_same))
        (λ (na : i ≡ p → ⊥). none i (sym (node_other i na) ∙ e))
        (cases_eq i p))
        ∙ sym (pairs_absent xs m pos none))
        (somewhere xs m pos))
        (cases_eq m 0)

    -- a pair is replaced
    pub pairs_renew : node_at xs p ≡ c.node → 0 < c.node → (m : ℕ) → pairs_of (set xs p c) m ≡ with_pair (pairs_of xs) c.node (links_of c) m
    pairs_renew same pos m =
        ⊎_elim (λ (a : m ≡ c.node). rw a (pairs_here pos ∙ sym (cond-true _ _ _ (eq-eqb c.node c.node refl))))
        (λ (na : m ≡ c.node → ⊥). pairs_else m (λ e. na (e ∙ same)) na ∙ sym (cond-false _ _ _ (ne_eqb m c.node na)))
        (cases_eq m c.node)

    -- an empty slot is filled
    pub pairs_fill : (m : ℕ) → node_at xs p ≡ 0 → m ≢ c.node → pairs_of (set xs p c) m ≡ pairs_of xs m
    pairs_fill m empty ne =
        ⊎_elim (λ (z : m ≡ 0). pairs_zero (set xs p c) m z ∙ sym (pairs_zero xs m z)) (λ (nz : m ≡ 0 → ⊥). pairs_else m (omega arith) ne) (cases_eq m 0)

    -- a slot is emptied
    pub pairs_clear : (m : ℕ) → c.node ≡ 0 → m ≢ node_at xs p → pairs_of (set xs p c) m ≡ pairs_of xs m
    pairs_clear m empty ne =
        ⊎_elim (λ (z : m ≡ 0). pairs_zero (set xs p c) m z ∙ sym (pairs_zero xs m z)) (λ (nz : m ≡ 0 → ⊥). pairs_else m ne (omega arith)) (cases_eq m 0)

-- a pair is taken out
module _ (xs : List Slot) (p : ℕ) (within : p < length xs) (apart : Apart xs) where
  pub out_apart : Apart (set xs p blank)
  out_apart = search rules

  pub out_pairs : 0 < node_at xs p → (m : ℕ) → pairs_of (set xs p blank) m ≡ with_pair (pairs_of xs) (node_at xs p) None m
  out_pairs taken m =
      ⊎_elim
      (λ (a : m ≡ node_at xs p). pairs_gone xs p blank within apart out_apart m a (λ z. omega arith) ∙ sym (cond-true _ _ _ (eq-eqb m (node_at xs p) a)))
      (λ (na : m ≡ node_at xs p → ⊥). pairs_clear xs p blank within apart out_apart m refl na ∙ sym (cond-false _ _ _ (ne_eqb m (node_at xs p) na)))
      (cases_eq m (node_at xs p))

  -- a pair is replaced
  pub renew_apart : (c : Slot) → node_at xs p ≡ c.node → Apart (set xs p c)
  renew_apart c same = search rules

-- a row of empty slots
pub fresh_node : (n i : ℕ) → node_at (replicate n blank) i ≡ 0
fresh_node zero i = refl
fresh_node (suc n) zero = refl
fresh_node (suc n) (suc i) = fresh_node n i

pub fresh_apart : (n : ℕ) → Apart (replicate n blank)
fresh_apart n i j pe = absurd (omega (arith, fresh_node n i, pe.0))

pub fresh_pairs : (n : ℕ) → pairs_of (replicate n blank) ≡ no_pairs
fresh_pairs n = fun_ext (λ m.
    ⊎_elim (λ (z : m ≡ 0). pairs_zero (replicate n blank) m z)
    (λ (nz : m ≡ 0 → ⊥). pairs_absent (replicate n blank) m (omega arith) (λ i e. nz (sym e ∙ fresh_node n i)))
    (cases_eq m 0))
