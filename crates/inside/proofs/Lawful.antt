-- The law over runs on a new index.
use Rattle.std.proofs.Common.{◌≡◌, ℕ, ◌+◌, ◌*◌, ◌^◌, ◌<◌, true, false, List, is_none, Option, None, Some, length, sym, refl, ap, ◌∙◌, subst, arith}
use lib.ListN.{length-map}
use Rattle.dictionary.specs.Pairs.{Pairs}
use Rattle.entry.specs.declared.Entry.{Entry}
use Rattle.ordered.specs.declared.calls.Call.{Call}
use Rattle.ordered.specs.declared.calls.Answer.{Answer}
use Rattle.ordered.specs.Kinds.{Kind, KindLaws}
use Rattle.ordered.specs.Runs.{Asked}
use Rattle.runs.specs.States.{State}
use Rattle.runs.specs.States.{Sound as StateSound}
use Rattle.runs.proofs.Laws.{law}
use Rattle.inside.specs.declared.Inside.{Inside}
use Rattle.inside.specs.Whole.{Sound, limit_of, state_of}
use Rattle.inside.specs.Making.{Bare}
use Rattle.inside.specs.Runs.{Idle, Governed, Ran, RanNew, begun}
use Rattle.inside.proofs.Parts.{sound_state}

same_begun : (f f₀ : Pairs) (tally tally₀ : ℕ) (o : Option Inside) → Bare o → f ≡ f₀ → tally ≡ tally₀ → state_of f tally o ≡ begun f₀ tally₀
same_begun f f₀ tally tally₀ o b p q = λ j. record { buckets = b.buckets j; trees = b.trees j; pairs = p j; tally = q j }

module _ {K : Type 0} (kind : Kind K) (laws : KindLaws kind) (limit : ℕ) (f₀ : Pairs) (tally₀ : ℕ)
    (f : Pairs) (room tally : ℕ)
    (ps : List Entry) (cs : List Call) (rs : List Answer) (σ' : State) (qs : List Entry) where
  pub ran_new : (o : Option Inside) → Bare o → (is_none o ≡ true → (f ≡ f₀) × (tally ≡ tally₀)) → (is_none o ≡ false → (limit_of o ≡ limit) × (tally ≡ 2 * (kind.width + 1))) →
      tally < 2 ^ 64 → Sound kind.width f room tally o →
      Ran (is_none o) kind.width (limit_of o) (state_of f tally o) ps cs rs σ' qs → RanNew (is_none o) kind limit f₀ tally₀ ps cs rs σ' qs
  ran_new None bare kept made h so ran = subst (λ σ. Idle σ ps cs rs σ' qs) (same_begun f f₀ tally tally₀ None bare (kept refl).0 (kept refl).1) ran
  ran_new (Some i) bare kept made h so ran =
      let w = kind.width in
      let same = same_begun f f tally (2 * (w + 1)) (Some i) bare refl (made refl).1 in
      let σ = begun f (2 * (w + 1)) in
      let governed : Governed w limit σ ps cs rs σ' qs =
      subst (λ x. Governed w limit x ps cs rs σ' qs) same (subst (λ x. Governed w x (state_of f tally (Some i)) ps cs rs σ' qs) (made refl).0 ran) in
      let sound : StateSound w limit σ = subst (StateSound w limit) same (subst (λ x. StateSound w x (state_of f tally (Some i))) (made refl).0 (sound_state w f room tally i h so)) in
      let chain = governed.chain in
      let many : length chain.asked ≡ length cs = sym (length-map chain.asked (λ (c : Asked). c.call)) ∙ ap length chain.calls in
      record {
        pairs = f;
        governed = governed;
        law = λ few. law kind laws chain.run sound refl (let wide = laws.wide.1 in omega arith) (omega arith);
      }
