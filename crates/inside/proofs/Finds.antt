-- What is known of an index once its keys have passed, and once they have not.
use Rattle.std.proofs.Common.{◌≡◌, ℕ, ◌^◌, ◌<◌, ◌≤◌, leb, List, is_none, Option, Some, None, sym, refl, ap, ◌∙◌, subst, inl, inr, arith}
use Rattle.std.proofs.lemmas.Bool.{cases_Bool, cond-true, leb-false}
use Rattle.dictionary.specs.Pairs.{Pairs}
use Rattle.entry.specs.declared.Entry.{Entry}
use Rattle.ordered.specs.declared.calls.Answer.{Answer}
use Rattle.ordered.specs.declared.calls.Call.{Call}
use Rattle.ordered.specs.declared.calls.Call.TheVariants.{Range}
use Rattle.ordered.specs.declared.refusal.Refusal.{Refusal}
use Rattle.ordered.specs.declared.refusal.Refusal.TheVariants.{TooLarge}
use Rattle.ordered.specs.Sorted.{misfit, large}
use Rattle.runs.specs.States.{State, Answered, Step}
use Rattle.key.specs.Widths.{needed}
use Rattle.trie.specs.Sound.{Sound as TrieSound}
use Rattle.inside.specs.declared.Inside.{Inside}
use Rattle.ordered.specs.Answers.{no_of}
use Rattle.inside.specs.Whole.{Whole, Sound, Does, limit_of, state_of}
use Rattle.inside.proofs.Quiet.{barred_step, one_key}

-- an index that is not shut is whole
pub whole_of : (w : ℕ) (f : Pairs) (room tally : ℕ) (o : Option Inside) (i : Inside) → o ≡ Some i → Sound w f room tally o → Whole w f room tally i
whole_of w f room tally o i s so = subst (Sound w f room tally) s so

-- a key that passed fits
pub one_fits : (w k : ℕ) → None ≡ misfit w (Range k k) → k < 2 ^ w
one_fits w k e = elim (cases_Bool (leb (2 ^ w) k)) [
  | inl t ↦ absurd (let q : large w k ≡ Some TooLarge = cond-true (leb (2 ^ w) k) (Some TooLarge) None t in let r = e ∙ one_key w k in let z : ◌≡◌ {A = ℕ} 0 1 = cc in omega arith)
  | inr t ↦ leb-false (2 ^ w) k t
]

-- a step on an index that is not shut
pub step_does : (w : ℕ) (f : Pairs) (tally : ℕ) (o : Option Inside) (i : Inside) (c : Call) (ps : List Entry) (a : Answered) (σ' : State) → o ≡ Some i →
    Step w i.limit (state_of f tally (Some i)) c ps a σ' → Does (is_none o) w (limit_of o) (state_of f tally o) c ps a σ'
step_does w f tally o i c ps a σ' s t = subst (λ x. Does (is_none x) w (limit_of x) (state_of f tally x) c ps a σ') (sym s) t

-- and one whose dictionary kept its pairs
pub open_does : (w : ℕ) (f f' : Pairs) (tally n : ℕ) (o o' : Option Inside) (i : Inside) (c : Call) (ps : List Entry) (a a' : Answered) → o ≡ Some i → o' ≡ Some i → f' ≡ f → a' ≡ a →
    Step w i.limit (state_of f tally (Some i)) c ps a (state_of f n (Some i)) → Does (is_none o) w (limit_of o) (state_of f tally o) c ps a' (state_of f' n o')
open_does w f f' tally n o o' i c ps a a' s s' e q t =
    step_does w f tally o i c ps a' (state_of f' n o') s
    (subst (λ x. Step w i.limit (state_of f tally (Some i)) c ps a' (state_of f' n x)) (sym s')
    (subst (λ h. Step w i.limit (state_of f tally (Some i)) c ps a' (state_of h n (Some i))) (sym e)
    (subst (λ x. Step w i.limit (state_of f tally (Some i)) c ps x (state_of f n (Some i))) (sym q) t)))

-- what a call keeps that alters nothing but the tally
pub sound_kept : (w : ℕ) (f f' : Pairs) (room room' tally n : ℕ) (o : Option Inside) → f' ≡ f → room' ≡ room → Sound w f room tally o → Sound w f' room' n o
sound_kept w f f' room room' tally n None e r so = tt
sound_kept w f f' room room' tally n (Some i) e r so =
    record { trie = subst (λ h. TrieSound w h i.grove.table) (sym e) so.trie; buckets = so.buckets; notes = so.notes; counted = so.counted; small = so.small; fits = subst (λ x. needed w i.limit ≤ x) (sym r) so.fits }

-- a call that is barred there changes nothing
pub barred_does : (w : ℕ) (f : Pairs) (room tally : ℕ) (o o' : Option Inside) (i : Inside) → 8 ≤ w → tally < 2 ^ 64 → o ≡ Some i → o' ≡ Some i → Sound w f room tally o →
    (c : Call) (ps : List Entry) (x : Answer) (r : Refusal) → x ≡ no_of r 0 0 → misfit w c ≡ Some r →
    Does (is_none o) w (limit_of o) (state_of f tally o) c ps (record { answer = x; places = ps }) (state_of f tally o')
barred_does w f room tally o o' i big h s s' so c ps x r q e =
    open_does w f f tally tally o o' i c ps _ (record { answer = x; places = ps }) s s' refl (ap (λ y. record { answer = y; places = ps }) q)
    (barred_step w f room tally i big (whole_of w f room tally o i s so) c ps r e h)
