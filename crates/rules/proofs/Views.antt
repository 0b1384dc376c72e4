-- The buckets of an index give it a lawful view, and each call the step that the trait asks for.
use Rattle.std.proofs.Common.{◌≡◌, ℕ, ◌+◌, ◌*◌, ◌^◌, ◌<◌, ◌≤◌, List, [], Some, sym, refl, ap, ◌∙◌, arith}
use Rattle.std.specs.List.{AllByRecursion}
use Rattle.std.proofs.ByRecursion.{All-weaker}
use Rattle.dictionary.specs.Pairs.{Pairs, raised}
use Rattle.key.specs.Widths.{half, most}
use Rattle.key.proofs.Logs.{most_within}
use Rattle.entry.specs.declared.Entry.{Entry}
use Rattle.ordered.specs.declared.calls.Answer.{Answer}
use Rattle.ordered.specs.declared.calls.Call.{Call}
use Rattle.ordered.specs.declared.calls.Rebuilding.{Rebuilding}
use Rattle.ordered.specs.declared.calls.Rebuilding.TheVariants.{Unchanged, Split, Merge, MergeSplit}
use Rattle.ordered.specs.declared.refusal.Refusal.{Refusal}
use Rattle.ordered.specs.Numbers.{rebuilt}
use Rattle.ordered.specs.Sorted.{misfit, changed}
use Rattle.ordered.specs.Meaning.{answers, Lawful, Stepped}
use Rattle.rules.specs.Buckets.{Bucket, flat, lowest, Sound}
use Rattle.rules.specs.Steps.{step}
use Rattle.rules.specs.Runs.{saved}
use Rattle.rules.specs.Views.{cost_of, view_of, Replied}
use Rattle.rules.proofs.Spreads.{in_rise, rise_flat, total_flat}
use Rattle.rules.proofs.Calls.{agrees}
use Rattle.rules.proofs.Blind.{step_blind}
use Rattle.rules.proofs.Running.{rising_flat}

-- ---- the view
-- what is refused before the first frame costs nothing
pub early_free : (w limit : ℕ) (visits : Call → ℕ) (s : List Bucket) (c : Call) (r : Refusal) → misfit w c ≡ Some r → visits c ≡ 0 →
    cost_of w limit visits s c ≡ record { frames = 0; visits = 0; rebuilding = Unchanged }
unfolding step
early_free w limit visits s c r e z = rw (e, z) refl

few_frames : (w f : ℕ) (x : Rebuilding) → 8 ≤ w → w ≤ 60 → f ≤ most w + 4 * (w + 1) * rebuilt x → f ≤ 255
few_frames w f Unchanged a b h = omega (arith, most_within w a b)
few_frames w f Split a b h = omega (arith, most_within w a b)
few_frames w f Merge a b h = omega (arith, most_within w a b)
few_frames w f MergeSplit a b h = omega (arith, most_within w a b)

module _ (w limit : ℕ) (s : List Bucket) (so : Sound w limit s) where
  pub view_lawful : (tally : ℕ) (pairs : Pairs) (visits : Call → ℕ) → tally < 2 ^ 64 → limit ≤ 512 →
      AllByRecursion (λ (e : Entry). e.note < 2 ^ 64) (flat s) → Lawful w (view_of w limit tally pairs visits s)
  view_lawful tally pairs visits counts small notes =
      let h = in_rise _ _ (flat s) (rise_flat (2 ^ w) s so.spread) in
      record {
        rising = rising_flat w limit s so;
        keys = All-weaker (λ e. (lowest (2 ^ w) s ≤ e.key) × (e.key < 2 ^ w)) (λ e. e.key < 2 ^ w) (λ e p. p.1) (flat s) h;
        notes = notes;
        within = omega (arith, total_flat s, so.few);
        small = small;
        counts = counts;
        wide = refl;
      }

  pub view_stepped : 8 ≤ w → w ≤ 60 → (c : Call) (ps : List Entry) (r : Answer) (tally tally' : ℕ) (pairs pairs' : Pairs) (visits visits' : Call → ℕ) →
      Replied r (visits c) (step w limit c ps s).reply → visits c ≤ 20 → tally' ≡ raised tally r.frames →
      (changed c r.outcome ≡ 0 → (pairs' ≡ pairs) × (visits' ≡ visits)) →
      Stepped (view_of w limit tally pairs visits s) c ps r (step w limit c ps s).reply.told.places
      (view_of w limit tally' pairs' visits' (step w limit c ps s).after)
  unfolding answers
  view_stepped low high c ps r tally tally' pairs pairs' visits visits' is short rise same =
      let a = agrees w limit low s so c ps in
      let k = step_blind w limit c ps [] s in
      let t = step w limit c ps s in
      let f = few_frames w t.reply.frames t.reply.rebuilding low high a.few in
      let o = ap (changed c) is.outcome in
      record {
        outcome = is.outcome ∙ ap (λ x. x.outcome) a.told;
        number = is.number ∙ ap (λ x. x.number) a.told;
        written = ap (λ x. x.places) a.told;
        frames = is.frames ∙ k.frames;
        visits = is.visits;
        rebuilding = is.rebuilding ∙ k.rebuilding;
        entries = a.list;
        limit = refl;
        width = refl;
        shut = refl;
        tally = rise;
        paid = omega (arith, a.frames, a.saves, is.frames, o);
        few = omega (arith, is.frames);
        short = omega (arith, is.visits);
        still = λ z.
            let q = a.still (sym o ∙ z) in
            (is.rebuilding ∙ q.0, (same z).0, ap (λ x. 9 * saved (half w) x) q.1, rw (q.1, (same z).1) refl);
      }
