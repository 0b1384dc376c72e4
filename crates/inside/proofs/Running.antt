-- A run, call by call.
use Rattle.std.proofs.Common.{◌≡◌, ℕ, ◌+◌, ◌^◌, ◌<◌, ◌≤◌, Bool, true, false, List, [], ◌∷◌, ◌++◌, map, length, get_or, take, drop, set, is_none, Option, None, Some, sym, refl, ap, ◌∙◌, subst, arith}
use mathlib.Core.List.{map-append}
use Rattle.std.proofs.lemmas.List.{take_more, take_more_set, drop-set-lt, drop-drop}
use Rattle.dictionary.specs.Pairs.{Pairs}
use Rattle.entry.specs.declared.Entry.{Entry}
use Rattle.ordered.specs.declared.calls.Call.{Call}
use Rattle.ordered.specs.declared.calls.Answer.{Answer}
use Rattle.ordered.specs.declared.refusal.Refusal.TheVariants.{Shut}
use Rattle.ordered.specs.Runs.{Asked}
use Rattle.runs.specs.States.{State, Answered}
use Rattle.runs.specs.Runs.{ended}
use Rattle.runs.proofs.Chains.{run_more}
use Rattle.runs.proofs.Laws.{general}
use Rattle.inside.specs.declared.Inside.{Inside}
use Rattle.ordered.specs.Answers.{no_of}
use Rattle.inside.specs.Whole.{Sound, Does, limit_of, state_of}
use Rattle.inside.specs.Runs.{Handed, Went, Ran}
use Rattle.inside.proofs.Parts.{sound_state}

abbrev pub with_places : Answer → List Entry → Answered
with_places a ps = record { answer = a; places = ps }

-- ---- no call, and one call more
pub went_none : (shut : Bool) (w limit : ℕ) (σ : State) (ps : List Entry) → Went shut w limit σ ps [] [] σ ps
went_none true w limit σ ps = record { answers = refl; state = refl; places = refl }
went_none false w limit σ ps = record { asked = []; answered = []; calls = refl; answers = refl; places = refl; run = ended }

handed_more : (ps qs qs' : List Entry) (cs : List Asked) (rs : List Answered) (c : Asked) (a : Answered) →
    Handed ps cs rs qs → c.places ≡ qs → qs' ≡ a.places → Handed ps (cs ++ c ∷ []) (rs ++ a ∷ []) qs'
handed_more ps qs qs' [] [] c a h e q = (e ∙ h, q)
handed_more ps qs qs' [] (b ∷ rs) c a h e q = absurd h
handed_more ps qs qs' (d ∷ cs) [] c a h e q = absurd h
handed_more ps qs qs' (d ∷ cs) (b ∷ rs) c a h e q = (h.0, handed_more b.places qs qs' cs rs c a h.1 e q)

pub went_more : (shut : Bool) (w limit : ℕ) (σ τ σ' : State) (ps qs qs' : List Entry) (cs : List Call) (rs : List Answer) (c : Call) (a : Answer) →
    Went shut w limit σ ps cs rs τ qs → Does shut w limit τ c qs (with_places a qs') σ' → Went shut w limit σ ps (cs ++ c ∷ []) (rs ++ a ∷ []) σ' qs'
went_more true w limit σ τ σ' ps qs qs' cs rs c a h d = record {
  answers =
      ap (λ x. x ++ a ∷ []) h.answers
      ∙ (ap (λ (x : Answered). map (λ (y : Call). no_of Shut 0 0) cs ++ x.answer ∷ []) d.0 ∙ sym (map-append (λ (y : Call). no_of Shut 0 0) cs (c ∷ [])));
  state = d.1 ∙ h.state;
  places = ap (λ (x : Answered). x.places) d.0 ∙ h.places;
}
went_more false w limit σ τ σ' ps qs qs' cs rs c a h d =
    let asks : Asked = record { call = c; places = qs } in
    record {
      asked = h.asked ++ asks ∷ [];
      answered = h.answered ++ with_places a qs' ∷ [];
      calls = map-append (λ (x : Asked). x.call) h.asked (asks ∷ []) ∙ ap (λ x. x ++ c ∷ []) h.calls;
      answers = map-append (λ (x : Answered). x.answer) h.answered (with_places a qs' ∷ []) ∙ ap (λ x. x ++ a ∷ []) h.answers;
      places = handed_more ps qs qs' h.asked h.answered asks (with_places a qs') h.places refl refl;
      run = run_more h.run d;
    }

-- ---- between two calls
pub record Running (w : ℕ) (cs : List Call) (old : List Answer) (ps : List Entry) (f₀ : Pairs) (room₀ tally₀ : ℕ) (o₀ : Option Inside) (n : ℕ) (rs : List Answer) (qs : List Entry) (f : Pairs) (room' tally : ℕ) (o : Option Inside) : Type 0 where
  pub limit : limit_of o ≡ limit_of o₀
  pub shut : is_none o ≡ is_none o₀
  pub room : room' ≡ room₀
  pub rest : drop n rs ≡ drop n old
  pub went : Went (is_none o₀) w (limit_of o₀) (state_of f₀ tally₀ o₀) ps (take n cs) (take n rs) (state_of f tally o) qs

module _ (w : ℕ) (cs : List Call) (old : List Answer) (ps : List Entry) (f₀ : Pairs) (room₀ tally₀ : ℕ) (o₀ : Option Inside) where
  pub running : Running w cs old ps f₀ room₀ tally₀ o₀ 0 old ps f₀ room₀ tally₀ o₀
  running = record { limit = refl; shut = refl; room = refl; rest = refl; went = went_none (is_none o₀) w (limit_of o₀) (state_of f₀ tally₀ o₀) ps }

  module _ (n : ℕ) (rs : List Answer) (qs : List Entry) (f : Pairs) (room tally : ℕ) (o : Option Inside) (r : Running w cs old ps f₀ room₀ tally₀ o₀ n rs qs f room tally o) where
    rest_more : (a : Answer) → drop (n + 1) (set rs n a) ≡ drop (n + 1) old
    rest_more a = drop-set-lt (n + 1) rs n a (omega arith) ∙ (sym (drop-drop 1 n rs) ∙ (ap (drop 1) r.rest ∙ drop-drop 1 n old))

    pub runs_on : (d : Call) (a : Answer) (qs' : List Entry) (f' : Pairs) (room' tally' : ℕ) (o' : Option Inside) →
        n < length cs → n < length rs →
        limit_of o' ≡ limit_of o → is_none o' ≡ is_none o → room' ≡ room →
        Does (is_none o) w (limit_of o) (state_of f tally o) (get_or cs n d) qs (with_places a qs') (state_of f' tally' o') →
        Running w cs old ps f₀ room₀ tally₀ o₀ (n + 1) (set rs n a) qs' f' room' tally' o'
    runs_on d a qs' f' room' tally' o' h k l s same does =
        let c = get_or cs n d in
        let σ = state_of f₀ tally₀ o₀ in
        let one : Does (is_none o₀) w (limit_of o₀) (state_of f tally o) c qs (with_places a qs') (state_of f' tally' o') =
        subst (λ x. Does x w (limit_of o₀) (state_of f tally o) c qs (with_places a qs') (state_of f' tally' o')) r.shut
        (subst (λ x. Does (is_none o) w x (state_of f tally o) c qs (with_places a qs') (state_of f' tally' o')) r.limit does) in
        let more = went_more (is_none o₀) w (limit_of o₀) σ (state_of f tally o) (state_of f' tally' o') ps qs qs' (take n cs) (take n rs) c a r.went one in
        record {
          limit = l ∙ r.limit;
          shut = s ∙ r.shut;
          room = same ∙ r.room;
          rest = rest_more a;
          went =
              subst (λ x. Went (is_none o₀) w (limit_of o₀) σ ps x (take (n + 1) (set rs n a)) (state_of f' tally' o') qs') (sym (take_more cs n d h))
              (subst (λ x. Went (is_none o₀) w (limit_of o₀) σ ps (take n cs ++ c ∷ []) x (state_of f' tally' o') qs') (sym (take_more_set rs n a k)) more);
        }

-- ---- at the end
pub ran_of : (w : ℕ) (f : Pairs) (room tally : ℕ) (o : Option Inside) → 8 ≤ w → w ≤ 60 → tally < 2 ^ 64 → Sound w f room tally o →
    (ps : List Entry) (cs : List Call) (rs : List Answer) (σ' : State) (qs : List Entry) →
    Went (is_none o) w (limit_of o) (state_of f tally o) ps cs rs σ' qs → Ran (is_none o) w (limit_of o) (state_of f tally o) ps cs rs σ' qs
ran_of w f room tally None big small h so ps cs rs σ' qs went = went
ran_of w f room tally (Some i) big small h so ps cs rs σ' qs went = record { chain = went; general = general big small went.run (sound_state w f room tally i h so) }
