-- What a call does does not depend on the caller's places, nor does what it tells but for a range's.
--
--   Plain        a call that is no range
--   Blind c      two steps of a call that differ at most in the places told, or in what a range tells
--   step_blind   so do the steps of a call with any places
use Rattle.std.proofs.Common.{◌≡◌, ℕ, List, Some, None, Option, refl}
use Rattle.entry.specs.declared.Entry.{Entry}
use Rattle.ordered.specs.declared.calls.Call.{Call}
use Rattle.ordered.specs.declared.calls.Call.TheVariants.{Add, Remove, Find, Next, Last, Range}
use Rattle.ordered.specs.declared.refusal.Refusal.{Refusal}
use Rattle.ordered.specs.Sorted.{misfit, tells}
use Rattle.rules.specs.Buckets.{Bucket}
use Rattle.rules.specs.Steps.{Step, added, removed, served, barred, step}

abbrev pub Plain : Call → Type 0
Plain (Add k v) = Unit {0}
Plain (Remove k) = Unit {0}
Plain (Find k) = Unit {0}
Plain (Next k) = Unit {0}
Plain (Last k) = Unit {0}
Plain (Range a b) = ⊥

pub record Blind (c : Call) (t u : Step) : Type 0 where
  pub frames : t.reply.frames ≡ u.reply.frames
  pub rebuilding : t.reply.rebuilding ≡ u.reply.rebuilding
  pub after : t.after ≡ u.after
  pub outcome : Plain c → t.reply.told.outcome ≡ u.reply.told.outcome

tells_blind : (no : Option Refusal) (e : Entry) (ps qs : List Entry) → (tells no e ps).outcome ≡ (tells no e qs).outcome
tells_blind None e ps qs = refl
tells_blind (Some r) e ps qs = refl

added_blind : (c : Call) (w : ℕ) (no : Option Refusal) (e : Entry) (i f : ℕ) (ps qs : List Entry) (s : List Bucket) → Blind c (added w no e i f ps s) (added w no e i f qs s)
unfolding added
added_blind c w None e i f ps qs s = record { frames = refl; rebuilding = refl; after = refl; outcome = λ p. refl }
added_blind c w (Some r) e i f ps qs s = record { frames = refl; rebuilding = refl; after = refl; outcome = λ p. refl }

removed_blind : (c : Call) (w : ℕ) (no : Option Refusal) (k i f : ℕ) (ps qs : List Entry) (s : List Bucket) → Blind c (removed w no k i f ps s) (removed w no k i f qs s)
unfolding removed
removed_blind c w None k i f ps qs s = record { frames = refl; rebuilding = refl; after = refl; outcome = λ p. refl }
removed_blind c w (Some r) k i f ps qs s = record { frames = refl; rebuilding = refl; after = refl; outcome = λ p. refl }

served_blind : (w limit : ℕ) (c : Call) (ps qs : List Entry) (s : List Bucket) → Blind c (served w limit c ps s) (served w limit c qs s)
unfolding served
served_blind w limit (Add k v) ps qs s = added_blind (Add k v) w _ _ _ _ ps qs s
served_blind w limit (Remove k) ps qs s = removed_blind (Remove k) w _ _ _ _ ps qs s
served_blind w limit (Find k) ps qs s = record { frames = refl; rebuilding = refl; after = refl; outcome = λ p. tells_blind _ _ ps qs }
served_blind w limit (Next k) ps qs s = record { frames = refl; rebuilding = refl; after = refl; outcome = λ p. tells_blind _ _ ps qs }
served_blind w limit (Last k) ps qs s = record { frames = refl; rebuilding = refl; after = refl; outcome = λ p. tells_blind _ _ ps qs }
served_blind w limit (Range a b) ps qs s = record { frames = refl; rebuilding = refl; after = refl; outcome = λ p. absurd p }

barred_blind : (w limit : ℕ) (no : Option Refusal) (c : Call) (ps qs : List Entry) (s : List Bucket) →
    Blind c (barred no ps s (served w limit c ps s)) (barred no qs s (served w limit c qs s))
barred_blind w limit None c ps qs s = served_blind w limit c ps qs s
barred_blind w limit (Some r) c ps qs s = record { frames = refl; rebuilding = refl; after = refl; outcome = λ p. refl }

pub step_blind : (w limit : ℕ) (c : Call) (ps qs : List Entry) (s : List Bucket) → Blind c (step w limit c ps s) (step w limit c qs s)
unfolding step
step_blind w limit c ps qs s = barred_blind w limit (misfit w c) c ps qs s
