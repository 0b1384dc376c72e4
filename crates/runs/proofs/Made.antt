-- A step, from what the rules say of its call and from what is kept.
use Rattle.std.proofs.Common.{◌≡◌, ℕ, ◌^◌, ◌<◌, ◌≤◌, List, sym, ap, ◌∙◌, subst}
use Rattle.std.specs.List.{AllByRecursion}
use Rattle.dictionary.specs.Pairs.{raised}
use Rattle.entry.specs.declared.Entry.{Entry}
use Rattle.ordered.specs.declared.calls.Call.{Call}
use Rattle.ordered.specs.Sorted.{changed}
use Rattle.rules.specs.Buckets.{Bucket, flat, reps}
use Rattle.rules.specs.Buckets.{Sound as BucketsSound}
use Rattle.rules.specs.Steps.{step}
use Rattle.rules.specs.Steps.{Step as RuleStep}
use Rattle.rules.proofs.Calls.{agrees}
use Rattle.runs.specs.States.{State, Planted, Laid, Answered, told_by, visits, Step}

-- the answer and the buckets after are those of t, which the rules give
pub record Obeys (a : Answered) (s' : List Bucket) (t : RuleStep) : Type 0 where
  pub told : told_by a ≡ t.reply.told
  pub frames : a.answer.frames ≡ t.reply.frames
  pub rebuilding : a.answer.rebuilding ≡ t.reply.rebuilding
  pub after : s' ≡ t.after

-- what is kept besides the buckets
pub record Stays (w : ℕ) (σ : State) (call : Call) (a : Answered) (σ' : State) : Type 0 where
  pub notes : AllByRecursion (λ (e : Entry). e.note < 2 ^ 64) (flat σ'.buckets)
  pub planted : Planted σ'.buckets σ'.trees
  pub laid : Laid w (reps σ'.buckets) σ'.pairs
  pub counts : σ'.tally < 2 ^ 64
  pub visits : a.answer.visits ≡ visits w call σ.buckets σ.trees
  pub tally : σ'.tally ≡ raised σ.tally a.answer.frames
  pub still : changed call a.answer.outcome ≡ 0 → (σ'.pairs ≡ σ.pairs) × (σ'.trees ≡ σ.trees)

pub step_made : (w limit : ℕ) → 8 ≤ w → (σ : State) (call : Call) (places : List Entry) (a : Answered) (σ' : State) → BucketsSound w limit σ.buckets →
    Obeys a σ'.buckets (step w limit call places σ.buckets) → Stays w σ call a σ' → Step w limit σ call places a σ'
step_made w limit big σ call places a σ' so o k =
    let g = agrees w limit big σ.buckets so call places in
    record {
      told = o.told ∙ g.told;
      entries_after = ap flat o.after ∙ g.list;
      frames = o.frames;
      rebuilding = o.rebuilding;
      buckets = o.after;
      visits = k.visits;
      tally = k.tally;
      sound = record { buckets = subst (BucketsSound w limit) (sym o.after) g.sound; notes = k.notes; planted = k.planted; laid = k.laid; counts = k.counts };
      still = k.still;
    }
