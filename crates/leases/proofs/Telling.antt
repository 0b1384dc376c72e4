-- What an index that is not shut tells of a call whose key fits.
use Rattle.std.proofs.Common.{◌≡◌, ℕ, ◌^◌, ◌<◌, true, false, List, [], ◌∷◌, None, Ok, Err, sym, refl, ap, ◌∙◌, arith}
use Rattle.std.proofs.lemmas.Bool.{lt-leb}
use Rattle.entry.specs.declared.Entry.{Entry}
use Rattle.entry.specs.Lists.{at, from, upto, filled, first, final}
use Rattle.ordered.specs.declared.calls.Answer.{Answer}
use Rattle.ordered.specs.declared.calls.Call.{Call}
use Rattle.ordered.specs.declared.calls.Call.TheVariants.{Find, Next, Last}
use Rattle.ordered.specs.declared.refusal.Refusal.{Refusal}
use Rattle.ordered.specs.declared.refusal.Refusal.TheVariants.{Absent, Nothing}
use Rattle.ordered.specs.Sorted.{Listed, large, misfit, no_find, no_near, tells, fitting, listed}
use Rattle.ordered.specs.Meaning.{View, Stepped, answers}
use Rattle.leases.proofs.Planning.{Quiet, tells_number}

pub fits : (w k : ℕ) → k < 2 ^ w → large w k ≡ None
fits w k h = rw (lt-leb (2 ^ w) k h)

pub told_fit : (v : View) (c : Call) → v.shut ≡ false → misfit v.width c ≡ None → answers v c [] ≡ fitting v.limit c [] v.entries
unfolding answers listed
told_fit v c unshut fit = rw (unshut, fit)

-- ---- what an answer with an entry, or without, says of the entries found
pub record Found (ys : List Entry) (e x : Entry) : Type 0 where
  pub some : filled ys ≡ true
  pub same : e ≡ x

pub record Missed (ys : List Entry) (why r : Refusal) : Type 0 where
  pub empty : ys ≡ []
  pub same : why ≡ r

pub near_found : (ys : List Entry) (e x : Entry) → (tells (no_near ys) e []).outcome ≡ Ok x → Found ys e x
near_found [] e x o = let z : ◌≡◌ {A = ℕ} 0 1 = cc in absurd (omega arith)
near_found (y ∷ ys) e x o = record { some = refl; same = cc }

pub near_missed : (ys : List Entry) (e : Entry) (r : Refusal) → (tells (no_near ys) e []).outcome ≡ Err r → Missed ys Nothing r
near_missed [] e r o = record { empty = refl; same = cc }
near_missed (y ∷ ys) e r o = let z : ◌≡◌ {A = ℕ} 0 1 = cc in absurd (omega arith)

pub find_found : (ys : List Entry) (e x : Entry) → (tells (no_find ys) e []).outcome ≡ Ok x → Found ys e x
find_found [] e x o = let z : ◌≡◌ {A = ℕ} 0 1 = cc in absurd (omega arith)
find_found (y ∷ ys) e x o = record { some = refl; same = cc }

pub find_missed : (ys : List Entry) (e : Entry) (r : Refusal) → (tells (no_find ys) e []).outcome ≡ Err r → Missed ys Absent r
find_missed [] e r o = record { empty = refl; same = cc }
find_missed (y ∷ ys) e r o = let z : ◌≡◌ {A = ℕ} 0 1 = cc in absurd (omega arith)

-- ---- a call that fits, step by step
module _ (v u : View) (c : Call) (a : Answer) (st : Stepped v c [] a [] u) (unshut : v.shut ≡ false) (fit : misfit v.width c ≡ None) where
  pub outcome_is : a.outcome ≡ (fitting v.limit c [] v.entries).told.outcome
  outcome_is = st.outcome ∙ ap (λ (l : Listed Entry). l.told.outcome) (told_fit v c unshut fit)

  pub entries_are : u.entries ≡ (fitting v.limit c [] v.entries).after
  entries_are = st.entries ∙ ap (λ (l : Listed Entry). l.after) (told_fit v c unshut fit)

  pub number_is : a.number ≡ (fitting v.limit c [] v.entries).told.number
  number_is = st.number ∙ ap (λ (l : Listed Entry). l.told.number) (told_fit v c unshut fit)

module _ (v u : View) (k : ℕ) (a : Answer) (unshut : v.shut ≡ false) (small : k < 2 ^ v.width) where
  fit : large v.width k ≡ None
  fit = fits v.width k small

  pub quiet_last : Stepped v (Last k) [] a [] u → Quiet v (Last k) a u
  quiet_last st = record { step = st; unchanged = refl; entries = entries_are v u (Last k) a st unshut fit; number = number_is v u (Last k) a st unshut fit ∙ tells_number (no_near (upto k v.entries)) (final (upto k v.entries)) }

  pub quiet_find : Stepped v (Find k) [] a [] u → Quiet v (Find k) a u
  quiet_find st = record { step = st; unchanged = refl; entries = entries_are v u (Find k) a st unshut fit; number = number_is v u (Find k) a st unshut fit ∙ tells_number (no_find (at k v.entries)) (first (at k v.entries)) }

  pub quiet_next : Stepped v (Next k) [] a [] u → Quiet v (Next k) a u
  quiet_next st = record { step = st; unchanged = refl; entries = entries_are v u (Next k) a st unshut fit; number = number_is v u (Next k) a st unshut fit ∙ tells_number (no_near (from k v.entries)) (first (from k v.entries)) }

  pub last_found : Stepped v (Last k) [] a [] u → (x : Entry) → a.outcome ≡ Ok x → Found (upto k v.entries) (final (upto k v.entries)) x
  last_found st x o = near_found (upto k v.entries) (final (upto k v.entries)) x (sym (outcome_is v u (Last k) a st unshut fit) ∙ o)

  pub last_missed : Stepped v (Last k) [] a [] u → (r : Refusal) → a.outcome ≡ Err r → Missed (upto k v.entries) Nothing r
  last_missed st r o = near_missed (upto k v.entries) (final (upto k v.entries)) r (sym (outcome_is v u (Last k) a st unshut fit) ∙ o)

  pub find_held : Stepped v (Find k) [] a [] u → (x : Entry) → a.outcome ≡ Ok x → Found (at k v.entries) (first (at k v.entries)) x
  find_held st x o = find_found (at k v.entries) (first (at k v.entries)) x (sym (outcome_is v u (Find k) a st unshut fit) ∙ o)

  pub find_absent : Stepped v (Find k) [] a [] u → (r : Refusal) → a.outcome ≡ Err r → Missed (at k v.entries) Absent r
  find_absent st r o = find_missed (at k v.entries) (first (at k v.entries)) r (sym (outcome_is v u (Find k) a st unshut fit) ∙ o)

  pub next_found : Stepped v (Next k) [] a [] u → (x : Entry) → a.outcome ≡ Ok x → Found (from k v.entries) (first (from k v.entries)) x
  next_found st x o = near_found (from k v.entries) (first (from k v.entries)) x (sym (outcome_is v u (Next k) a st unshut fit) ∙ o)

  pub next_missed : Stepped v (Next k) [] a [] u → (r : Refusal) → a.outcome ≡ Err r → Missed (from k v.entries) Nothing r
  next_missed st r o = near_missed (from k v.entries) (first (from k v.entries)) r (sym (outcome_is v u (Next k) a st unshut fit) ∙ o)
