-- The answers to the track: each is what the rules of the buckets reply, and their replies are computed.
--
--   replies_of     what is seen of the rules' replies to some calls, one after another
--   driven         the answers to the track, from what a run on a new index does
use Rattle.std.proofs.Common.{◌≡◌, ℕ, ◌+◌, ◌*◌, Bool, true, false, List, [], ◌∷◌, map, length, take, sym, refl, ap, ◌∙◌, subst, rules, arith}
use Rattle.std.proofs.lemmas.List.{take_all}
use Rattle.dictionary.specs.Pairs.{Pairs}
use Rattle.entry.specs.declared.Entry.{Entry}
use Rattle.levels.specs.Nodes.{node_at}
use Rattle.levels.specs.Counts.{gets_by, ends}
use Rattle.ordered.specs.declared.calls.Answer.{Answer}
use Rattle.ordered.specs.declared.calls.Call.{Call}
use Rattle.ordered.specs.declared.refusal.Refusal.TheVariants.{Shut}
use Rattle.ordered.specs.Kinds.{Kind}
use Rattle.ordered.specs.Runs.{Asked}
use Rattle.ordered.specs.Sorted.{Told}
use Rattle.rules.specs.Buckets.{Bucket, new}
use Rattle.rules.specs.Buckets.{Sound as BucketsSound}
use Rattle.rules.specs.Changes.{grown, shrunk, split_at, join_at, share_at}
use Rattle.rules.specs.Steps.{Reply, step, served, added, removed}
use Rattle.rules.proofs.Blind.{Plain, step_blind}
use Rattle.rules.proofs.Calls.{agrees}
use Rattle.rules.proofs.Running.{new_sound}
use Rattle.runs.specs.States.{State, Answered}
use Rattle.runs.specs.Runs.{Run, ended, then}
use Rattle.ordered.specs.Answers.{no_of}
use Rattle.inside.specs.Runs.{made, begun, RanNew}
use Rattle.tracks.specs.Track.{track, Seen, seen, expected, Driven}

abbrev AllPlain : List Call → Type 0
AllPlain [] = Unit {0}
AllPlain (c ∷ cs) = Plain c × AllPlain cs

abbrev replied : Reply → Seen
replied r = (r.told.outcome, r.frames, r.rebuilding)

-- ---- a run answers what the rules reply
unfoldable replies_of : List Call → List Bucket → List Seen
replies_of [] s = []
replies_of (c ∷ cs) s =
    let t = step 8 64 c [] s in
    replied t.reply ∷ replies_of cs t.after

run_seen : {σ σ' : State} {cs : List Asked} {rs : List Answered} → Run 8 64 σ cs rs σ' → BucketsSound 8 64 σ.buckets → AllPlain (map (λ (c : Asked). c.call) cs) →
    map (λ (a : Answered). seen a.answer) rs ≡ replies_of (map (λ (c : Asked). c.call) cs) σ.buckets
unfolding replies_of
run_seen ended so p = refl
run_seen {σ = σ} (then {τ = τ} {c = c} {a = a} {cs = cs} {as' = rs} t r) so p =
    let s = σ.buckets in
    let g = agrees 8 64 (omega arith) s so c.call c.places in
    let b = step_blind 8 64 c.call c.places [] s in
    let o : a.answer.outcome ≡ (step 8 64 c.call c.places s).reply.told.outcome = ap (λ (x : Told). x.outcome) (t.told ∙ sym g.told) in
    let one : seen a.answer ≡ replied (step 8 64 c.call [] s).reply = (λ i. (o i, t.frames i, t.rebuilding i)) ∙ (λ i. (b.outcome p.0 i, b.frames i, b.rebuilding i)) in
    let rest : map (λ (x : Answered). seen x.answer) rs ≡ replies_of (map (λ (x : Asked). x.call) cs) (step 8 64 c.call [] s).after =
    run_seen r t.sound.buckets p.1 ∙ ap (replies_of (map (λ (x : Asked). x.call) cs)) (t.buckets ∙ b.after) in
    cc (one, rest)

-- ---- the track
computed : replies_of track new ≡ expected
unfolding replies_of node_at gets_by ends step served added removed grown shrunk split_at join_at share_at
computed = refl

plain : AllPlain track
plain = search rules

answers_seen : (rs : List Answered) → map seen (map (λ (a : Answered). a.answer) rs) ≡ map (λ (a : Answered). seen a.answer) rs
answers_seen [] = refl
answers_seen (a ∷ rs) = ap (λ xs. seen a.answer ∷ xs) (answers_seen rs)

module _ (ps : List Entry) (calls : List Call) (before rs : List Answer) (is : calls ≡ track) (long : length before ≡ 32) (far : length rs ≡ 32) where
  all_calls : take (made calls before) calls ≡ track
  all_calls =
      let n : length calls ≡ 32 = ap length is in
      take_all (made calls before) calls (omega arith) ∙ is

  all_answers : take (made calls before) rs ≡ rs
  all_answers =
      let n : length calls ≡ 32 = ap length is in
      take_all (made calls before) rs (omega arith)

  pub driven : {K : Type 0} (kind : Kind K) (shut fit : Bool) (f : Pairs) (tally : ℕ) (qs : List Entry) (σ : State) → kind.width ≡ 8 → shut ≡ fit →
      RanNew shut kind 64 f tally ps (take (made calls before) calls) (take (made calls before) rs) σ qs → Driven fit rs
  driven kind true true f tally qs σ w e ran =
      sym all_answers ∙ (ran.answers ∙ ap (λ cs. map (λ (c : Call). no_of Shut 0 0) cs) all_calls)
  driven kind true false f tally qs σ w e ran = absurd (let z : ◌≡◌ {A = ℕ} 0 1 = cc in omega arith)
  driven kind false true f tally qs σ w e ran = absurd (let z : ◌≡◌ {A = ℕ} 0 1 = cc in omega arith)
  driven kind false false f tally qs σ w e ran =
      let ch = ran.governed.chain in
      let asked : map (λ (c : Asked). c.call) ch.asked ≡ track = ch.calls ∙ all_calls in
      let answered : map (λ (a : Answered). a.answer) ch.answered ≡ rs = ch.answers ∙ all_answers in
      let run : Run 8 64 (begun ran.pairs (2 * (8 + 1))) ch.asked ch.answered σ = subst (λ n. Run n 64 (begun ran.pairs (2 * (n + 1))) ch.asked ch.answered σ) w ch.run in
      ap (map seen) (sym answered)
      ∙ (answers_seen ch.answered
      ∙ (run_seen run (new_sound 8 64) (subst AllPlain (sym asked) plain)
      ∙ (ap (λ cs. replies_of cs new) asked ∙ computed)))
