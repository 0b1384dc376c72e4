-- A run follows the rules call by call, and one run goes on where another ended.
use Rattle.std.proofs.Common.{◌≡◌, ℕ, ◌+◌, ◌^◌, ◌<◌, ◌≤◌, List, [], ◌∷◌, ◌++◌, map, sym, refl, ap, ◌∙◌, arith}
use Rattle.std.proofs.lemmas.List.Sums.{sum_by-cons}
use Rattle.ordered.specs.Runs.{Asked}
use Rattle.rules.specs.Steps.{Reply, step}
use Rattle.rules.specs.Runs.{after, replies}
use Rattle.rules.proofs.Calls.{agrees}
use Rattle.runs.specs.States.{State, Answered, Step, Sound, told_by}
use Rattle.runs.specs.Runs.{Run, ended, then, frames}
use Rattle.runs.proofs.Counting.{reply_of}

same_reply : (a b : Reply) → a.told ≡ b.told → a.frames ≡ b.frames → a.rebuilding ≡ b.rebuilding → a ≡ b
same_reply a b p q r = λ i. record { told = p i; frames = q i; rebuilding = r i }

module _ {w limit : ℕ} where
  pub run_more : {σ τ σ' : State} {cs : List Asked} {rs : List Answered} {c : Asked} {a : Answered} →
      Run w limit σ cs rs τ → Step w limit τ c.call c.places a σ' → Run w limit σ (cs ++ (c ∷ [])) (rs ++ (a ∷ [])) σ'
  run_more ended s = then s ended
  run_more (then t r) s = then t (run_more r s)

  pub run_sound : {σ σ' : State} {cs : List Asked} {rs : List Answered} → Run w limit σ cs rs σ' → Sound w limit σ → Sound w limit σ'
  run_sound ended so = so
  run_sound (then t r) so = run_sound r t.sound

  -- the tally rises by the frames, while it stays below its top
  pub rises : {σ σ' : State} {cs : List Asked} {rs : List Answered} → Run w limit σ cs rs σ' → σ.tally + frames rs < 2 ^ 64 → σ'.tally ≡ σ.tally + frames rs
  rises ended h = omega arith
  rises {σ = σ} (then {τ = τ} {a = a} {as' = rs} t r) h =
      let e = sum_by-cons (λ (x : Answered). x.answer.frames) a rs in
      let up : τ.tally ≡ σ.tally + a.answer.frames = omega (arith, t.tally) in
      omega (arith, rises r (omega arith))

pub record Follows (w limit : ℕ) (σ : State) (cs : List Asked) (rs : List Answered) (σ' : State) : Type 0 where
  pub replied : map reply_of rs ≡ replies w limit cs σ.buckets
  pub left : σ'.buckets ≡ after w limit cs σ.buckets

pub follows : {w limit : ℕ} → 8 ≤ w → {σ σ' : State} {cs : List Asked} {rs : List Answered} → Run w limit σ cs rs σ' → Sound w limit σ → Follows w limit σ cs rs σ'
unfolding replies after
follows big ended so = record { replied = refl; left = refl }
follows {w = w} {limit = limit} big {σ = σ} (then {τ = τ} {c = c} {a = a} {cs = cs} {as' = rs} t r) so =
    let g = agrees w limit big σ.buckets so.buckets c.call c.places in
    let ih = follows big r t.sound in
    let told : told_by a ≡ (step w limit c.call c.places σ.buckets).reply.told = t.told ∙ sym g.told in
    let one : reply_of a ≡ (step w limit c.call c.places σ.buckets).reply = same_reply (reply_of a) (step w limit c.call c.places σ.buckets).reply told t.frames t.rebuilding in
    let rest : map reply_of rs ≡ replies w limit cs (step w limit c.call c.places σ.buckets).after = ih.replied ∙ ap (replies w limit cs) t.buckets in
    record { replied = cc (one, rest); left = ih.left ∙ ap (after w limit cs) t.buckets }
