-- What the trait of ordered indexes asks, from what the index's own calls promise.
--
--   lawful_as    an index gives a lawful view
--   stepped_as   a call that does what the index promises is a step of views
use Rattle.std.proofs.Common.{◌≡◌, ℕ, ◌*◌, ◌^◌, ◌<◌, ◌≤◌, true, leb, List, is_none, Option, None, Some, sym, refl, ap, ◌∙◌, subst, arith}
use Rattle.dictionary.specs.Pairs.{Pairs}
use Rattle.key.specs.Widths.{half}
use Rattle.entry.specs.declared.Entry.{Entry}
use Rattle.entry.proofs.Filters.{kept_short}
use Rattle.ordered.specs.declared.calls.Answer.{Answer}
use Rattle.ordered.specs.declared.calls.Call.{Call}
use Rattle.ordered.specs.Sorted.{Told, changed}
use Rattle.ordered.specs.Meaning.{Stepped, Lawful, answers}
use Rattle.rules.specs.Buckets.{Bucket}
use Rattle.rules.specs.Steps.{step}
use Rattle.rules.specs.Views.{view_of, Replied}
use Rattle.rules.proofs.Calls.{agrees}
use Rattle.rules.proofs.Views.{view_lawful, view_stepped}
use Rattle.trees.specs.Heights.{table, highest}
use Rattle.trees.specs.Trees.{Tree}
use Rattle.forest.specs.Forests.{row_of, grove_of}
use Rattle.runs.specs.States.{State, Answered, Step, visits}
use Rattle.runs.proofs.Visits.{visits_most}
use Rattle.inside.specs.declared.Inside.{Inside}
use Rattle.inside.specs.Whole.{Whole, Sound, Does, limit_of, state_of}
use Rattle.inside.specs.Views.{closed_view, open_view, seen_as}
use Rattle.inside.proofs.Parts.{sound_state}

-- ---- no tree is higher than ten
at_most_ten : (n : ℕ) → highest n ≤ 10
unfolding highest
at_most_ten n = kept_short (λ x. leb x n) table

-- ---- what always holds
pub lawful_as : (w : ℕ) (f : Pairs) (room tally : ℕ) (o : Option Inside) → tally < 2 ^ 64 → Sound w f room tally o → Lawful w (seen_as w f tally o)
lawful_as w f room tally None h so = record {
  rising = tt;
  keys = tt;
  notes = tt;
  within = omega arith;
  small = omega arith;
  counts = h;
  wide = refl;
}
lawful_as w f room tally (Some i) h so =
    view_lawful w i.limit (row_of i.grove.table i.grove.pool) so.buckets tally f (λ c. visits w c (row_of i.grove.table i.grove.pool) (grove_of i.grove.table i.grove.pool)) h so.small so.notes

-- ---- a call on a shut index
closed_step : (w : ℕ) (f f' : Pairs) (tally tally' : ℕ) (c : Call) (ps : List Entry) (r : Answer) (qs : List Entry) → tally < 2 ^ 64 →
    Does true w 0 (state_of f tally None) c ps (record { answer = r; places = qs }) (state_of f' tally' None) →
    Stepped (closed_view w f tally) c ps r qs (closed_view w f' tally')
unfolding answers
closed_step w f f' tally tally' c ps r qs h d =
    let same : tally' ≡ tally = ap (λ (σ : State). σ.tally) d.1 in
    let none : r.frames ≡ 0 = ap (λ (a : Answered). a.answer.frames) d.0 in
    let unseen : r.visits ≡ 0 = ap (λ (a : Answered). a.answer.visits) d.0 in
    record {
      outcome = ap (λ (a : Answered). a.answer.outcome) d.0;
      number = ap (λ (a : Answered). a.answer.number) d.0;
      written = ap (λ (a : Answered). a.places) d.0;
      frames = none;
      visits = unseen;
      rebuilding = ap (λ (a : Answered). a.answer.rebuilding) d.0;
      entries = refl;
      limit = refl;
      width = refl;
      shut = refl;
      tally = omega arith;
      paid = omega arith;
      few = omega arith;
      short = omega arith;
      still = λ z. (ap (λ (a : Answered). a.answer.rebuilding) d.0, ap (λ (σ : State). σ.pairs) d.1, refl, refl);
    }

-- ---- a call on an index that is not shut
module _ (w : ℕ) (big : 8 ≤ w) (small : w ≤ 60) (f : Pairs) (room tally : ℕ) (i : Inside) (h : tally < 2 ^ 64) (wh : Whole w f room tally i)
    (c : Call) (ps : List Entry) (r : Answer) (qs : List Entry) (f' : Pairs) (tally' : ℕ) (i' : Inside)
    (st : Step w i.limit (state_of f tally (Some i)) c ps (record { answer = r; places = qs }) (state_of f' tally' (Some i'))) where
  abbrev s : List Bucket
  s = row_of i.grove.table i.grove.pool

  abbrev s' : List Bucket
  s' = row_of i'.grove.table i'.grove.pool

  abbrev seen_on : List Bucket → List Tree → Call → ℕ
  seen_on x ts d = visits w d x ts

  told_so : (record { outcome = r.outcome; number = r.number; places = qs }) ≡ (step w i.limit c ps s).reply.told
  told_so = st.told ∙ sym (agrees w i.limit big s wh.buckets c ps).told

  replied : Replied r (visits w c s (grove_of i.grove.table i.grove.pool)) (step w i.limit c ps s).reply
  replied = record {
    outcome = ap (λ (t : Told). t.outcome) told_so;
    number = ap (λ (t : Told). t.number) told_so;
    frames = st.frames;
    visits = st.visits;
    rebuilding = st.rebuilding;
  }

  few_visits : visits w c s (grove_of i.grove.table i.grove.pool) ≤ 20
  few_visits = omega (arith, visits_most w i.limit big small (state_of f tally (Some i)) (sound_state w f room tally i h wh) c, at_most_ten (5 * half w))

  quiet : changed c r.outcome ≡ 0 → (f' ≡ f) × (seen_on s' (grove_of i'.grove.table i'.grove.pool) ≡ seen_on s (grove_of i.grove.table i.grove.pool))
  quiet z =
      let y = st.still z in
      let b : s' ≡ s = st.buckets ∙ ((agrees w i.limit big s wh.buckets c ps).still (sym (ap (λ (t : Told). changed c t.outcome) told_so) ∙ z)).1 in
      (y.0, ap (λ x. seen_on x (grove_of i'.grove.table i'.grove.pool)) b ∙ ap (seen_on s) y.1)

  pub open_step : i'.limit ≡ i.limit → Stepped (open_view w f tally i) c ps r qs (open_view w f' tally' i')
  open_step l =
      let v = open_view w f tally i in
      let vis = seen_on s' (grove_of i'.grove.table i'.grove.pool) in
      let base = view_stepped w i.limit s wh.buckets big small c ps r tally tally' f f' (seen_on s (grove_of i.grove.table i.grove.pool)) vis replied few_visits st.tally quiet in
      let moved = subst (λ x. Stepped v c ps r (step w i.limit c ps s).reply.told.places (view_of w i.limit tally' f' vis x)) (sym st.buckets) base in
      let limited = subst (λ x. Stepped v c ps r (step w i.limit c ps s).reply.told.places (view_of w x tally' f' vis s')) (sym l) moved in
      subst (λ x. Stepped v c ps r x (open_view w f' tally' i')) (sym (ap (λ (t : Told). t.places) told_so)) limited

pub stepped_as : (w : ℕ) → 8 ≤ w → w ≤ 60 → (f : Pairs) (room tally : ℕ) (o : Option Inside) → tally < 2 ^ 64 → Sound w f room tally o →
    (c : Call) (ps : List Entry) (r : Answer) (qs : List Entry) (f' : Pairs) (tally' : ℕ) (o' : Option Inside) → is_none o' ≡ is_none o → limit_of o' ≡ limit_of o →
    Does (is_none o) w (limit_of o) (state_of f tally o) c ps (record { answer = r; places = qs }) (state_of f' tally' o') →
    Stepped (seen_as w f tally o) c ps r qs (seen_as w f' tally' o')
stepped_as w big small f room tally None h so c ps r qs f' tally' None e l d = closed_step w f f' tally tally' c ps r qs h d
stepped_as w big small f room tally None h so c ps r qs f' tally' (Some i) e l d = absurd (let z : ◌≡◌ {A = ℕ} 0 1 = cc in omega arith)
stepped_as w big small f room tally (Some i) h so c ps r qs f' tally' None e l d = absurd (let z : ◌≡◌ {A = ℕ} 0 1 = cc in omega arith)
stepped_as w big small f room tally (Some i) h so c ps r qs f' tally' (Some j) e l d = open_step w big small f room tally i h so c ps r qs f' tally' j d l
