-- From the steps of an index to a plan carried out, over views alone.
--
--   stepped         what some calls one after another come to
--   carried_out     a plan carried out, from its calls
--   refuse_early    a refusal before the first frame
--   refuse_after    a refusal after one call that changes nothing
--   one_call        one index call
--   quiet_call      one call that changes nothing, under another plan of it
--   two_calls       two calls, the first of which changes nothing
use Rattle.std.proofs.Common.{◌≡◌, ℕ, ◌+◌, ◌*◌, ◌^◌, ◌<◌, ◌≤◌, List, [], ◌∷◌, length, Some, None, Option, Result, sym, refl, ap, ◌∙◌, inl, inr, arith}
use Rattle.std.proofs.lemmas.Bool.{cases_Bool, lt-ltb}
use Rattle.dictionary.specs.Pairs.{raised}
use Rattle.key.specs.Widths.{most}
use Rattle.entry.specs.declared.Entry.{Entry}
use Rattle.entry.specs.Lists.{at, from, upto, between, first, final}
use Rattle.ordered.specs.declared.calls.Answer.{Answer}
use Rattle.ordered.specs.declared.calls.Call.{Call}
use Rattle.ordered.specs.declared.calls.Call.TheVariants.{Add, Remove, Find, Next, Last, Range}
use Rattle.ordered.specs.declared.calls.Rebuilding.TheVariants.{Unchanged}
use Rattle.ordered.specs.declared.refusal.Refusal.{Refusal}
use Rattle.ordered.specs.Sorted.{Listed, no_add, no_find, no_near, no_range, tells, writes, misfit, fitting, listed, unless as listed_unless, changed}
use Rattle.ordered.specs.Meaning.{View, Stepped, answers, told}
use Rattle.ordered.specs.Answers.{no_of}
use Rattle.leases.specs.Plans.{Plan, Steps, none, next, Planned, frames_of, visits_of, rebuilding_of, changes_of, together, turned_away, call_plan}

-- an index whose searches take at most seven frames, below the top of its tally
pub record Seven (v : View) : Type 0 where
  pub most_frames : most v.width ≤ 7
  pub counts : v.tally < 2 ^ 64

record Stepping (v : View) (cs : List Call) (rs : List Answer) (v' : View) : Type 0 where
  limit : v'.limit ≡ v.limit
  width : v'.width ≡ v.width
  shut : v'.shut ≡ v.shut
  tally : v'.tally ≡ raised v.tally (frames_of rs)
  paid : frames_of rs + v'.credit ≤ 7 * length cs + v.credit + 9 * changes_of cs rs
  still : changes_of cs rs ≡ 0 → (rebuilding_of rs ≡ Unchanged) × (v'.pairs ≡ v.pairs) × (v'.credit ≡ v.credit) × (v'.cost ≡ v.cost)

raised_none : (t : ℕ) → t < 2 ^ 64 → t ≡ raised t 0
raised_none t h = omega arith

raised_twice : (t a b : ℕ) → raised (raised t a) b ≡ raised t (a + b)
raised_twice t a b = omega arith

raised_below : (t a : ℕ) → raised t a < 2 ^ 64
raised_below t a = omega arith

last_rebuilding : (a : Answer) (rs : List Answer) → a.rebuilding ≡ Unchanged → rebuilding_of rs ≡ Unchanged → rebuilding_of (a ∷ rs) ≡ Unchanged
last_rebuilding a [] e f = e
last_rebuilding a (b ∷ rs) e f = f

seven_more : (v u : View) (c : Call) (a : Answer) → Seven v → Stepped v c [] a [] u → Seven u
seven_more v u c a s st = record { most_frames = rw st.width s.most_frames; counts = rw st.tally (raised_below v.tally a.frames) }

stepping : {v v' : View} {cs : List Call} {rs : List Answer} → Seven v → Steps v cs rs v' → Stepping v cs rs v'
stepping {v} s none = record { limit = refl; width = refl; shut = refl; tally = raised_none v.tally s.counts; paid = omega arith; still = λ _. (refl, refl, refl, refl) }
stepping s (next {v} {u} {v'} {c} {a} {cs} {rs} st more) =
    let rest = stepping (seven_more v u c a s st) more in
    record {
      limit = rest.limit ∙ st.limit;
      width = rest.width ∙ st.width;
      shut = rest.shut ∙ st.shut;
      tally = rest.tally ∙ ap (λ (t : ℕ). raised t (frames_of rs)) st.tally ∙ raised_twice v.tally a.frames (frames_of rs);
      paid = omega (arith, rest.paid, st.paid, s.most_frames);
      still = λ e.
          let now = st.still (omega (arith, e)) in
          let then = rest.still (omega (arith, e)) in
          (last_rebuilding a rs now.0 then.0, then.1 ∙ now.1, then.2 ∙ now.2, then.3 ∙ now.3);
    }

-- what an answer is, besides what it tells
pub record Sums (r : Answer) (rs : List Answer) : Type 0 where
  pub number : r.number ≡ 0
  pub frames : r.frames ≡ frames_of rs
  pub visits : r.visits ≡ visits_of rs
  pub rebuilding : r.rebuilding ≡ rebuilding_of rs

carried_out : (v v' : View) (p : Plan) (r : Answer) (rs : List Answer) → Seven v → Steps v p.calls rs v' → Sums r rs →
    r.outcome ≡ p.told → v'.entries ≡ p.after → changes_of p.calls rs ≡ p.changes → Planned v p r v'
carried_out v v' p r rs s st sums o e n =
    let all = stepping s st in
    record {
      answers = rs;
      steps = st;
      outcome = o;
      number = sums.number;
      frames = sums.frames;
      visits = sums.visits;
      rebuilding = sums.rebuilding;
      entries = e;
      changes = n;
      limit = all.limit;
      width = all.width;
      shut = all.shut;
      tally = all.tally ∙ ap (raised v.tally) (sym sums.frames);
      paid = omega (arith, all.paid, sums.frames, n);
      still = λ z. let k = all.still (n ∙ z) in (sums.rebuilding ∙ k.0, k.1, k.2, k.3);
    }

pub refuse_early : (v : View) (e : Refusal) → Seven v → Planned v (turned_away e [] v) (no_of e 0 0) v
refuse_early v e s = carried_out v v (turned_away e [] v) (no_of e 0 0) [] s none (record { number = refl; frames = refl; visits = refl; rebuilding = refl }) refl refl refl

-- a call that changes nothing
pub record Quiet (v : View) (c : Call) (a : Answer) (u : View) : Type 0 where
  pub step : Stepped v c [] a [] u
  pub unchanged : changed c a.outcome ≡ 0
  pub entries : u.entries ≡ v.entries
  pub number : a.number ≡ 0

one_sums : (a : Answer) → a.number ≡ 0 → Sums a (a ∷ [])
one_sums a n = record { number = n; frames = omega arith; visits = omega arith; rebuilding = refl }

pub refuse_after : (v u : View) (c : Call) (a : Answer) (e : Refusal) → Seven v → Quiet v c a u → Planned v (turned_away e (c ∷ []) v) (no_of e a.frames a.visits) u
refuse_after v u c a e s q =
    carried_out v u (turned_away e (c ∷ []) v) (no_of e a.frames a.visits) (a ∷ []) s (next q.step none)
    (record { number = refl; frames = omega arith; visits = omega arith; rebuilding = sym (q.step.still q.unchanged).0 }) refl q.entries (omega (arith, q.unchanged))

pub quiet_call : (v u : View) (c : Call) (a : Answer) (o : Result Entry Refusal) → Seven v → Quiet v c a u → a.outcome ≡ o →
    Planned v (record { told = o; calls = c ∷ []; after = v.entries; changes = 0 }) a u
quiet_call v u c a o s q e =
    carried_out v u (record { told = o; calls = c ∷ []; after = v.entries; changes = 0 }) a (a ∷ []) s (next q.step none) (one_sums a q.number) e q.entries (omega (arith, q.unchanged))

-- only a range with places has a number
pub tells_number : (why : Option Refusal) (e : Entry) → (tells why e []).number ≡ 0
tells_number None e = refl
tells_number (Some r) e = refl

writes_number : (ys : List Entry) → (writes (no_range (length ys) 0) ys []).number ≡ 0
writes_number [] = refl
writes_number (y ∷ ys) = rw (lt-ltb 0 (length (y ∷ ys)) (omega arith))

fitting_number : (limit : ℕ) (c : Call) (xs : List Entry) → (fitting limit c [] xs).told.number ≡ 0
fitting_number limit (Add k n) xs = tells_number (no_add limit (at k xs) (length xs)) (record { key = k; note = n })
fitting_number limit (Remove k) xs = tells_number (no_find (at k xs)) (first (at k xs))
fitting_number limit (Find k) xs = tells_number (no_find (at k xs)) (first (at k xs))
fitting_number limit (Next k) xs = tells_number (no_near (from k xs)) (first (from k xs))
fitting_number limit (Last k) xs = tells_number (no_near (upto k xs)) (final (upto k xs))
fitting_number limit (Range a b) xs = writes_number (between a b xs)

unless_number : (why : Option Refusal) (xs : List Entry) (l : Listed Entry) → l.told.number ≡ 0 → (listed_unless why [] xs l).told.number ≡ 0
unless_number None xs l e = e
unless_number (Some r) xs l e = refl

told_number : (v : View) (c : Call) → (told v c []).number ≡ 0
unfolding answers listed
told_number v c = elim (cases_Bool v.shut) [
  | inl s ↦ rw s refl
  | inr s ↦ rw s (unless_number (misfit v.width c) v.entries (fitting v.limit c [] v.entries) (fitting_number v.limit c v.entries))
]

pub one_call : (v v' : View) (c : Call) (a : Answer) → Seven v → Stepped v c [] a [] v' → Planned v (call_plan v c) a v'
one_call v v' c a s st =
    let more : changed c a.outcome ≡ changed c (told v c []).outcome = ap (changed c) st.outcome in
    carried_out v v' (call_plan v c) a (a ∷ []) s (next st none) (one_sums a (st.number ∙ told_number v c)) st.outcome st.entries (omega (arith, more))

pub two_calls : (v u v' : View) (c d : Call) (a b : Answer) (o : Result Entry Refusal) (xs : List Entry) → Seven v → Quiet v c a u → Stepped u d [] b [] v' →
    b.outcome ≡ o → v'.entries ≡ xs → changed d o ≡ 1 → Planned v (record { told = o; calls = c ∷ d ∷ []; after = xs; changes = 1 }) (together a b) v'
two_calls v u v' c d a b o xs s q st e es n =
    let more : changed d b.outcome ≡ 1 = ap (changed d) e ∙ n in
    carried_out v v' (record { told = o; calls = c ∷ d ∷ []; after = xs; changes = 1 }) (together a b) (a ∷ b ∷ []) s (next q.step (next st none))
    (record { number = refl; frames = omega arith; visits = omega arith; rebuilding = refl }) e es (omega (arith, q.unchanged, more))
