-- What every plan has: at most two calls, and a change exactly where its code is one that changes and it is accepted.
use Rattle.std.proofs.Common.{◌≡◌, ℕ, ◌≤◌, Bool, true, false, cond, eqb, ltb, leb, List, [], ◌∷◌, length, Some, None, Ok, Err, Option, sym, refl, inl, inr, arith}
use Rattle.std.proofs.lemmas.Bool.{cases_Bool}
use Rattle.entry.specs.declared.Entry.{Entry}
use Rattle.entry.specs.Lists.{at, put, without, filled, first}
use Rattle.ordered.specs.declared.refusal.Refusal.{Refusal}
use Rattle.ordered.specs.declared.calls.Call.{Call}
use Rattle.ordered.specs.declared.calls.Call.TheVariants.{Add, Remove, Find, Next, Last, Range}
use Rattle.ordered.specs.Sorted.{Listed, misfit, fitting, listed, unless as listed_unless, changed, no_add, no_find, tells, keeps}
use Rattle.ordered.specs.Meaning.{View, answers, told, after}
use Rattle.wire.specs.declared.command.Command.{Command}
use Rattle.wire.specs.declared.command.Command.TheVariants.{AddName, RemoveName, FindName, NextName, Lease, Release, Who, AddEvent, RemoveEvent, Due}
use Rattle.wire.specs.Commands.{fields, changing}
use Rattle.leases.specs.Checks.{early}
use Rattle.leases.specs.Plans.{Plan, turned_away, unless, call_plan}
use Rattle.leases.specs.Stretches.{sharing, holder_of}
use Rattle.leases.specs.Commands.{lease_plan, release_plan, who_plan, due_plan, plan, commanded, change}

-- ---- a call that is refused keeps the entries
keeps_old : (why : Option Refusal) (e : Entry) (new xs : List Entry) (r : Refusal) → (tells why e []).outcome ≡ Err r → keeps why new xs ≡ xs
keeps_old None e new xs r o = let z : ◌≡◌ {A = ℕ} 0 1 = cc in absurd (omega arith)
keeps_old (Some x) e new xs r o = refl

fitting_kept : (limit : ℕ) (c : Call) (xs : List Entry) (e : Refusal) → (fitting limit c [] xs).told.outcome ≡ Err e → (fitting limit c [] xs).after ≡ xs
fitting_kept limit (Add k n) xs e o = keeps_old (no_add limit (at k xs) (length xs)) (record { key = k; note = n }) (put (record { key = k; note = n }) xs) xs e o
fitting_kept limit (Remove k) xs e o = keeps_old (no_find (at k xs)) (first (at k xs)) (without k xs) xs e o
fitting_kept limit (Find k) xs e o = refl
fitting_kept limit (Next k) xs e o = refl
fitting_kept limit (Last k) xs e o = refl
fitting_kept limit (Range a b) xs e o = refl

unless_kept : (why : Option Refusal) (xs : List Entry) (l : Listed Entry) (e : Refusal) → (l.told.outcome ≡ Err e → l.after ≡ xs) → (listed_unless why [] xs l).told.outcome ≡ Err e →
    (listed_unless why [] xs l).after ≡ xs
unless_kept None xs l e h o = h o
unless_kept (Some r) xs l e h o = refl

pub refused_keeps : (v : View) (c : Call) (e : Refusal) → (told v c []).outcome ≡ Err e → after v c [] ≡ v.entries
unfolding answers listed
refused_keeps v c e o = elim (cases_Bool v.shut) [
  | inl s ↦ rw s refl
  | inr s ↦ rw s (unless_kept (misfit v.width c) v.entries (fitting v.limit c [] v.entries) e (fitting_kept v.limit c v.entries e) (rw s at o))
]

-- ---- plans
pub record Sized (v : View) (code : ℕ) (p : Plan) : Type 0 where
  pub few : length p.calls ≤ 2
  pub changes : p.changes ≡ change code p.told
  pub kept : (e : Refusal) → p.told ≡ Err e → p.after ≡ v.entries

pub no_change : (code : ℕ) (e : Refusal) → change code (Err e) ≡ 0
no_change code e = elim (cases_Bool (changing code)) [ inl t ↦ rw t refl | inr t ↦ rw t refl ]

away : (v : View) (code : ℕ) (e : Refusal) → Sized v code (turned_away e [] v)
away v code e = record { few = omega arith; changes = sym (no_change code e); kept = λ _ _. refl }

away_after : (v : View) (code : ℕ) (e : Refusal) (c : Call) → Sized v code (turned_away e (c ∷ []) v)
away_after v code e c = record { few = omega arith; changes = sym (no_change code e); kept = λ _ _. refl }

done : (v : View) (code : ℕ) (e : Entry) (c d : Call) (xs : List Entry) → changing code ≡ true → Sized v code (record { told = Ok e; calls = c ∷ d ∷ []; after = xs; changes = 1 })
done v code e c d xs t = record { few = omega arith; changes = rw t refl; kept = λ r o. let z : ◌≡◌ {A = ℕ} 0 1 = cc in absurd (omega arith) }

either : (v : View) (code : ℕ) (t : Bool) (p q : Plan) → Sized v code p → Sized v code q → Sized v code (cond t p q)
either v code true p q a b = a
either v code false p q a b = b

call_sized : (v : View) (code : ℕ) (c : Call) → changed c (told v c []).outcome ≡ change code (told v c []).outcome → Sized v code (call_plan v c)
call_sized v code c e = record { few = omega arith; changes = e; kept = λ r o. refused_keeps v c r o }

plan_sized : (v : View) (c : Command) → Sized v (fields c).code (plan v c)
unfolding lease_plan release_plan who_plan due_plan
plan_sized v (AddName k n) = call_sized v 1 (Add k n) refl
plan_sized v (RemoveName k) = call_sized v 2 (Remove k) refl
plan_sized v (FindName k) = call_sized v 3 (Find k) refl
plan_sized v (NextName k) = call_sized v 4 (Next k) refl
plan_sized v (Lease f t h) =
    either v 5 (leb v.limit (length v.entries)) _ _ (away v 5 _) (either v 5 (filled (sharing f t v.entries)) _ _ (away_after v 5 _ (Last t)) (done v 5 _ (Last t) _ _ refl))
plan_sized v (Release f h) =
    either v 6 (filled (at f v.entries)) _ _ (either v 6 (eqb (holder_of (first (at f v.entries))) h.number) _ _ (done v 6 _ (Find f) _ _ refl) (away_after v 6 _ (Find f))) (away_after v 6 _ (Find f))
plan_sized v (Who s) =
    either v 7 (filled (sharing s s v.entries)) _ _ (record { few = omega arith; changes = refl; kept = λ _ _. refl }) (away_after v 7 _ (Last s))
plan_sized v (AddEvent k n) = call_sized v 8 (Add k n) refl
plan_sized v (RemoveEvent k) = call_sized v 9 (Remove k) refl
plan_sized v (Due m) =
    either v 10 (filled v.entries) _ _ (either v 10 (ltb m (first v.entries).key) _ _ (away_after v 10 _ (Next 0)) (done v 10 _ (Next 0) _ _ refl)) (away_after v 10 _ (Next 0))

pub sized : (v : View) (c : Command) → Sized v (fields c).code (commanded v c)
sized v c = go (early c)
  where
    go : (why : Option Refusal) → Sized v (fields c).code (unless why v (plan v c))
    go None = plan_sized v c
    go (Some e) = away v (fields c).code e

pub shut_sized : (v : View) (c : Command) (e : Refusal) → Sized v (fields c).code (turned_away e [] v)
shut_sized v c e = away v (fields c).code e
