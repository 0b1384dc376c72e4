-- Calls other than a range leave the caller's places as they are, and answer the same whatever stands there.
use Rattle.std.proofs.Common.{◌≡◌, ℕ, Bool, true, false, List, [], length, Some, None, Option, sym, refl, ap, ◌∙◌, subst}
use Rattle.entry.specs.declared.Entry.{Entry}
use Rattle.ordered.specs.declared.calls.Call.{Call}
use Rattle.ordered.specs.declared.calls.Call.TheVariants.{Add, Remove, Find, Next, Last, Range}
use Rattle.ordered.specs.declared.calls.Answer.{Answer}
use Rattle.ordered.specs.declared.refusal.Refusal.{Refusal}
use Rattle.ordered.specs.Sorted.{Told, Listed, misfit, no_add, no_find, no_near, tells, unless, fitting, listed}
use Rattle.entry.specs.Lists.{at, from, upto, first, final}
use Rattle.rules.specs.Buckets.{Bucket, total, reps, here, place, flat}
use Rattle.rules.specs.Steps.{Step as RuleStep, added, removed, served, barred, step}
use Rattle.levels.specs.Counts.{searching}
use Rattle.runs.specs.States.{State, Step}
use Rattle.inside.specs.Whole.{Does}
use Rattle.inside.proofs.Running.{with_places}

abbrev pub Placeless : Call → Type 0
Placeless (Add k v) = Unit {0}
Placeless (Remove k) = Unit {0}
Placeless (Find k) = Unit {0}
Placeless (Next k) = Unit {0}
Placeless (Last k) = Unit {0}
Placeless (Range a b) = ⊥

abbrev moved : List Entry → Told → Told
moved ps t = record { outcome = t.outcome; number = t.number; places = ps }

-- ---- what is told
tells_moved : (o : Option Refusal) (e : Entry) (ps : List Entry) → tells o e ps ≡ moved ps (tells o e [])
tells_moved None e ps = refl
tells_moved (Some r) e ps = refl

fitting_told : (limit : ℕ) (c : Call) → Placeless c → (ps xs : List Entry) → (fitting limit c ps xs).told ≡ moved ps (fitting limit c [] xs).told
fitting_told limit (Add k v) h ps xs = tells_moved (no_add limit (at k xs) (length xs)) (record { key = k; note = v }) ps
fitting_told limit (Remove k) h ps xs = tells_moved (no_find (at k xs)) (first (at k xs)) ps
fitting_told limit (Find k) h ps xs = tells_moved (no_find (at k xs)) (first (at k xs)) ps
fitting_told limit (Next k) h ps xs = tells_moved (no_near (from k xs)) (first (from k xs)) ps
fitting_told limit (Last k) h ps xs = tells_moved (no_near (upto k xs)) (final (upto k xs)) ps
fitting_told limit (Range a b) h ps xs = absurd h

fitting_after : (limit : ℕ) (c : Call) → Placeless c → (ps xs : List Entry) → (fitting limit c ps xs).after ≡ (fitting limit c [] xs).after
fitting_after limit (Add k v) h ps xs = refl
fitting_after limit (Remove k) h ps xs = refl
fitting_after limit (Find k) h ps xs = refl
fitting_after limit (Next k) h ps xs = refl
fitting_after limit (Last k) h ps xs = refl
fitting_after limit (Range a b) h ps xs = absurd h

unless_told : (o : Option Refusal) (ps xs : List Entry) (l m : Listed Entry) → l.told ≡ moved ps m.told → (unless o ps xs l).told ≡ moved ps (unless o [] xs m).told
unless_told None ps xs l m h = h
unless_told (Some r) ps xs l m h = refl

unless_after : (o : Option Refusal) (ps xs : List Entry) (l m : Listed Entry) → l.after ≡ m.after → (unless o ps xs l).after ≡ (unless o [] xs m).after
unless_after None ps xs l m h = h
unless_after (Some r) ps xs l m h = refl

-- ---- what it costs
record Alike (t u : RuleStep) : Type 0 where
  frames : t.reply.frames ≡ u.reply.frames
  rebuilding : t.reply.rebuilding ≡ u.reply.rebuilding
  after : t.after ≡ u.after

added_alike : (w : ℕ) (o : Option Refusal) (e : Entry) (i f : ℕ) (ps : List Entry) (s : List Bucket) → Alike (added w o e i f ps s) (added w o e i f [] s)
unfolding added
added_alike w None e i f ps s = record { frames = refl; rebuilding = refl; after = refl }
added_alike w (Some r) e i f ps s = record { frames = refl; rebuilding = refl; after = refl }

removed_alike : (w : ℕ) (o : Option Refusal) (k i f : ℕ) (ps : List Entry) (s : List Bucket) → Alike (removed w o k i f ps s) (removed w o k i f [] s)
unfolding removed
removed_alike w None k i f ps s = record { frames = refl; rebuilding = refl; after = refl }
removed_alike w (Some r) k i f ps s = record { frames = refl; rebuilding = refl; after = refl }

served_alike : (w limit : ℕ) (c : Call) → Placeless c → (ps : List Entry) (s : List Bucket) → Alike (served w limit c ps s) (served w limit c [] s)
unfolding served
served_alike w limit (Add k v) h ps s = added_alike w (no_add limit (at k (here (place k s) s).items) (total s)) (record { key = k; note = v }) (place k s) (searching w (reps s) k) ps s
served_alike w limit (Remove k) h ps s = removed_alike w (no_find (at k (here (place k s) s).items)) k (place k s) (searching w (reps s) k) ps s
served_alike w limit (Find k) h ps s = record { frames = refl; rebuilding = refl; after = refl }
served_alike w limit (Next k) h ps s = record { frames = refl; rebuilding = refl; after = refl }
served_alike w limit (Last k) h ps s = record { frames = refl; rebuilding = refl; after = refl }
served_alike w limit (Range a b) h ps s = absurd h

barred_alike : (o : Option Refusal) (ps : List Entry) (s : List Bucket) (t u : RuleStep) → Alike t u → Alike (barred o ps s t) (barred o [] s u)
barred_alike None ps s t u h = h
barred_alike (Some r) ps s t u h = record { frames = refl; rebuilding = refl; after = refl }

-- ---- a step
placed_step : (w limit : ℕ) (σ : State) (c : Call) → Placeless c → (ps : List Entry) (a : Answer) (σ' : State) →
    Step w limit σ c [] (with_places a []) σ' → Step w limit σ c ps (with_places a ps) σ'
unfolding listed step
placed_step w limit σ c h ps a σ' t =
    let xs = flat σ.buckets in
    let s = σ.buckets in
    let same = barred_alike (misfit w c) ps s (served w limit c ps s) (served w limit c [] s) (served_alike w limit c h ps s) in
    record {
      told = ap (moved ps) t.told ∙ sym (unless_told (misfit w c) ps xs (fitting limit c ps xs) (fitting limit c [] xs) (fitting_told limit c h ps xs));
      entries_after = t.entries_after ∙ sym (unless_after (misfit w c) ps xs (fitting limit c ps xs) (fitting limit c [] xs) (fitting_after limit c h ps xs));
      frames = t.frames ∙ sym same.frames;
      rebuilding = t.rebuilding ∙ sym same.rebuilding;
      buckets = t.buckets ∙ sym same.after;
      visits = t.visits;
      tally = t.tally;
      sound = t.sound;
      still = t.still;
    }

placed_does : (shut : Bool) (w limit : ℕ) (σ : State) (c : Call) → Placeless c → (ps : List Entry) (a : Answer) (σ' : State) →
    Does shut w limit σ c [] (with_places a []) σ' → Does shut w limit σ c ps (with_places a ps) σ'
placed_does true w limit σ c h ps a σ' d = (ap (λ x. with_places x.answer ps) d.0, d.1)
placed_does false w limit σ c h ps a σ' d = placed_step w limit σ c h ps a σ' d

pub called : (shut : Bool) (w limit : ℕ) (σ : State) (c c' : Call) → Placeless c → c' ≡ c → (ps : List Entry) (a : Answer) (σ' : State) →
    Does shut w limit σ c [] (with_places a []) σ' → Does shut w limit σ c' ps (with_places a ps) σ'
called shut w limit σ c c' h e ps a σ' d = subst (λ x. Does shut w limit σ x ps (with_places a ps) σ') (sym e) (placed_does shut w limit σ c h ps a σ' d)
