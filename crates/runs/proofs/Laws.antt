-- The law over runs.
use Rattle.std.proofs.Common.{◌≡◌, ℕ, ◌+◌, ◌*◌, ◌^◌, ◌<◌, ◌≤◌, List, [], ◌∷◌, length, Ok, Err, Result, ap, ◌∙◌, mul_comm, mul-le-mul, arith}
use Rattle.key.specs.Widths.{half, most}
use Rattle.key.proofs.Logs.{most_within}
use Rattle.entry.specs.declared.Entry.{Entry}
use Rattle.ordered.specs.declared.calls.Call.{Call}
use Rattle.ordered.specs.declared.calls.Call.TheVariants.{Add, Remove, Find, Next, Last, Range}
use Rattle.ordered.specs.declared.refusal.Refusal.{Refusal}
use Rattle.ordered.specs.Sorted.{accepted, changed}
use Rattle.ordered.specs.Runs.{Asked}
use Rattle.ordered.specs.Kinds.{Kind, KindLaws}
use Rattle.rules.specs.Buckets.{new, flat}
use Rattle.rules.specs.Runs.{after, replies, saved, frames as frames_replied, changes as changes_replied, rebuildings as rebuildings_replied, told as told_replied}
use Rattle.rules.proofs.Running.{rebuildings_rare, frames_bounded, as_own_list}
use Rattle.runs.specs.States.{State, Answered, Sound}
use Rattle.runs.specs.Runs.{Run, frames, changes, rebuildings}
use Rattle.runs.specs.Law.{Law, General}
use Rattle.runs.proofs.Counting.{same_frames, same_rebuildings, same_changes, same_told}
use Rattle.runs.proofs.Chains.{follows, rises}
use Rattle.runs.proofs.Visits.{all_short}

-- each change is one call's
accepted_le : (o : Result Entry Refusal) → accepted o ≤ 1
accepted_le (Ok e) = omega arith
accepted_le (Err r) = omega arith

changed_le : (c : Call) (o : Result Entry Refusal) → changed c o ≤ 1
changed_le (Add k v) o = accepted_le o
changed_le (Remove k) o = accepted_le o
changed_le (Find k) o = omega arith
changed_le (Next k) o = omega arith
changed_le (Last k) o = omega arith
changed_le (Range a b) o = omega arith

changes_le : (cs : List Asked) (rs : List Answered) → changes cs rs ≤ length cs
unfolding changes
changes_le [] rs = omega arith
changes_le (c ∷ cs) [] = omega arith
changes_le (c ∷ cs) (a ∷ rs) = omega (arith, changed_le c.call a.answer.outcome, changes_le cs rs)

pub general : {w limit : ℕ} → 8 ≤ w → w ≤ 60 → {σ σ' : State} {cs : List Asked} {rs : List Answered} → Run w limit σ cs rs σ' → Sound w limit σ → General w limit σ cs rs σ'
general {w = w} {limit = limit} big small {σ = σ} {σ' = σ'} {cs = cs} {rs = rs} r so =
    let f = follows big r so in
    let s = σ.buckets in
    let left = ap (saved (half w)) f.left in
    let fr : frames rs ≡ frames_replied (replies w limit cs s) = same_frames rs ∙ ap frames_replied f.replied in
    let rb : rebuildings rs ≡ rebuildings_replied (replies w limit cs s) = same_rebuildings rs ∙ ap rebuildings_replied f.replied in
    let ch : changes cs rs ≡ changes_replied cs (replies w limit cs s) = same_changes cs rs ∙ ap (changes_replied cs) f.replied in
    let rare = rebuildings_rare.1 w limit big small s so.buckets cs in
    let bounded = frames_bounded w limit big small s so.buckets cs in
    record {
      tally = rises r;
      frames_most = omega arith;
      rebuildings_most = omega (arith, rare.paid, ap (λ n. half w * n) rb);
      saved_most = rare.most_saved;
      short = all_short big small r so;
    }

-- from a new index on, over at most 2^48 calls
pub law : {K : Type 0} (kind : Kind K) → KindLaws kind → {limit : ℕ} {σ σ' : State} {cs : List Asked} {rs : List Answered} →
    Run kind.width limit σ cs rs σ' → Sound kind.width limit σ → σ.buckets ≡ new → σ.tally ≤ 2 ^ 32 → length cs ≤ 2 ^ 48 → Law kind limit σ cs rs σ'
law kind laws {limit = limit} {σ = σ} {σ' = σ'} {cs = cs} {rs = rs} r so fresh low few =
    let w = kind.width in
    let big = laws.wide.0 in
    let small = laws.wide.1 in
    let g = general big small r so in
    let f = follows big r so in
    let none : saved (half w) σ.buckets ≡ 0 = ap (saved (half w)) fresh ∙ rebuildings_rare.0 (half w) in
    let own = as_own_list kind laws limit cs in
    let paid : frames rs ≤ most w * length cs + 9 * changes cs rs = omega (arith, g.frames_most) in
    let calls : most w * length cs ≤ 7 * 2 ^ 48 = mul-le-mul (most_within w big small).1 few in
    let fits : σ.tally + frames rs < 2 ^ 64 = omega (arith, changes_le cs rs) in
    record {
      tally = g.tally fits;
      frames_most = paid;
      rebuildings_most = omega (arith, g.rebuildings_most, mul_comm (half w) (rebuildings rs));
      tells = same_told rs ∙ (ap told_replied (f.replied ∙ ap (replies w limit cs) fresh) ∙ own.tells);
      holds = ap flat (f.left ∙ ap (after w limit cs) fresh) ∙ own.holds;
      short = g.short;
    }
