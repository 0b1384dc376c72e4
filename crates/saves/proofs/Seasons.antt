-- A season, deed by deed.
use Rattle.std.proofs.Common.{◌≡◌, ℕ, ◌+◌, ◌-◌, ◌*◌, ◌<◌, ◌≤◌, min, List, [], ◌∷◌, ◌++◌, length, get_or, take, drop, set, sym, refl, ap, ◌∙◌, subst, ⊎_elim, arith, length-append, length-drop, take_all, drop-drop}
use Rattle.std.proofs.lemmas.List.{take_more, take_more_set, drop-set-lt, drop_all}
use Rattle.std.proofs.lemmas.Bool.{cases_lt}
use Rattle.ordered.specs.declared.calls.Answer.{Answer}
use Rattle.book.specs.Books.{BookView}
use Rattle.book.specs.Serving.{Served}
use Rattle.book.proofs.Summing.{Adds, adds_none, adds_then, adds_frames, frames_adds, served_adds}
use Rattle.saves.specs.Loads.{Loaded as LoadAnswer}
use Rattle.saves.specs.declared.season.Deed.{Deed}
use Rattle.saves.specs.declared.season.Deed.TheVariants.{Command, Load}
use Rattle.saves.specs.declared.season.Outcome.{Outcome}
use Rattle.saves.specs.declared.season.Outcome.TheVariants.{Answered, Loaded}
use Rattle.saves.specs.Loads.{Loads}
use Rattle.saves.specs.Seasons.{long, Acted, command, load, Acts, Season, start, more, Seasoned}

pub acts_command : {b : BookView} {p : List ℕ} {n : ℕ} {r : Answer} {b' : BookView} → Served b p r b' → Acts b p (Command n) (Answered r) b'
acts_command s = record { frames = _; tried = _; changes = _; acted = command s }

pub acts_load : {b : BookView} {p : List ℕ} {n : ℕ} {l : LoadAnswer} {b' : BookView} → Loads b p l b' → Acts b p (Load n) (Loaded l) b'
acts_load d = record { frames = _; tried = _; changes = _; acted = load d }

-- ---- sums
acted_adds : {b : BookView} {p : List ℕ} {d : Deed} {o : Outcome} {f n c : ℕ} {b' : BookView} → Acted b p d o f n c b' → Adds b f n c b'
acted_adds (command s) = served_adds s
acted_adds (load d) = frames_adds d.law

acted_few : {b : BookView} {p : List ℕ} {d : Deed} {o : Outcome} {f n c : ℕ} {b' : BookView} → Acted b p d o f n c b' → n ≤ 769
acted_few (command s) = omega arith
acted_few (load d) = d.most

season_adds : {b : BookView} {tape : List ℕ} {ds : List Deed} {os : List Outcome} {f n c : ℕ} {rest : List ℕ} {b' : BookView} → Season b tape ds os f n c rest b' → Adds b f n c b'
season_adds {b} start = adds_none b
season_adds (more s a) = adds_then (season_adds s) (acted_adds a)

season_few : {b : BookView} {tape : List ℕ} {ds : List Deed} {os : List Outcome} {f n c : ℕ} {rest : List ℕ} {b' : BookView} → Season b tape ds os f n c rest b' → n ≤ 769 * length ds
season_few start = omega arith
season_few (more {ds} {os} {f} {n} {c} {rest} {u} {b'} {d} {o} {f'} {n'} {c'} s a) = omega (arith, season_few s, acted_few a, length-append ds (d ∷ []))

-- ---- the first i deeds are done
pub record Going (b : BookView) (tape : List ℕ) (deeds : List Deed) (before : List Outcome) (i at : ℕ) (out : List Outcome) (u : BookView) : Type 0 where
  pub outcomes : List Outcome
  pub frames : ℕ
  pub tried : ℕ
  pub changes : ℕ
  pub season : Season b tape (take i deeds) outcomes frames tried changes (drop at tape) u
  pub within : at ≤ length tape
  pub front : take i out ≡ outcomes
  pub rest : drop i out ≡ drop i before

pub going_start : (b : BookView) (tape : List ℕ) (deeds : List Deed) (before : List Outcome) → Going b tape deeds before 0 0 before b
going_start b tape deeds before = record { outcomes = []; frames = 0; tried = 0; changes = 0; season = start; within = omega arith; front = refl; rest = refl }

-- as many bytes as are left of those asked for
taken : (tape : List ℕ) (at n : ℕ) → at ≤ length tape → take ((at + min n (length tape - at)) - at) (drop at tape) ≡ take n (drop at tape)
taken tape at n h =
    let left = length-drop at tape in
    ⊎_elim
    (λ (l : length tape - at < n). take_all ((at + min n (length tape - at)) - at) (drop at tape) (omega arith) ∙ sym (take_all n (drop at tape) (omega arith)))
    (λ (l : n ≤ length tape - at). ap (λ (k : ℕ). take k (drop at tape)) (omega arith)) (cases_lt (length tape - at) n)

left_over : (tape : List ℕ) (at n : ℕ) → at ≤ length tape → drop (at + min n (length tape - at)) tape ≡ drop n (drop at tape)
left_over tape at n h =
    let left = length-drop at tape in
    ⊎_elim
    (λ (l : length tape - at < n). drop_all (at + min n (length tape - at)) tape (omega arith) ∙ sym (drop_all n (drop at tape) (omega arith)))
    (λ (l : n ≤ length tape - at). ap (λ (k : ℕ). drop k tape) (omega arith) ∙ sym (drop-drop n at tape)) (cases_lt (length tape - at) n)

pub going_more : (b u b' : BookView) (tape part : List ℕ) (deeds : List Deed) (before out : List Outcome) (i at end : ℕ) (d x : Deed) (o : Outcome) → i < length deeds → i < length out →
    Going b tape deeds before i at out u → d ≡ get_or deeds i x → end ≡ at + min (long d) (length tape - at) → part ≡ take (end - at) (drop at tape) → Acts u part d o b' →
    Going b tape deeds before (i + 1) end (set out i o) b'
going_more b u b' tape part deeds before out i at end d x o h room g is e pe a =
    let A : List ℕ → Type 0 = λ p. Acted u p d o a.frames a.tried a.changes b' in
    let here : part ≡ take (long d) (drop at tape) = pe ∙ ap (λ (k : ℕ). take (k - at) (drop at tape)) e ∙ taken tape at (long d) g.within in
    let ds : take i deeds ++ (d ∷ []) ≡ take (i + 1) deeds = ap (λ (y : Deed). take i deeds ++ (y ∷ [])) is ∙ sym (take_more deeds i x h) in
    let rest : drop (long d) (drop at tape) ≡ drop end tape = sym (left_over tape at (long d) g.within) ∙ ap (λ (k : ℕ). drop k tape) (sym e) in
    let S : List Deed → List ℕ → Type 0 = λ l r. Season b tape l (g.outcomes ++ (o ∷ [])) (g.frames + a.frames) (g.tried + a.tried) (g.changes + a.changes) r b' in
    let next : S (take i deeds ++ (d ∷ [])) (drop (long d) (drop at tape)) = more g.season (subst A here a.acted) in
    let S1 : List Deed → Type 0 = λ l. S l (drop (long d) (drop at tape)) in
    let S2 : List ℕ → Type 0 = λ r. S (take (i + 1) deeds) r in
    record {
      outcomes = g.outcomes ++ (o ∷ []);
      frames = g.frames + a.frames;
      tried = g.tried + a.tried;
      changes = g.changes + a.changes;
      season = subst S2 rest (subst S1 ds next);
      within = omega arith;
      front = take_more_set out i o room ∙ ap (λ (l : List Outcome). l ++ (o ∷ [])) g.front;
      rest = drop-set-lt (i + 1) out i o (omega arith) ∙ on out ∙ ap (drop 1) g.rest ∙ sym (on before);
    }
  where
    on : (l : List Outcome) → drop (i + 1) l ≡ drop 1 (drop i l)
    on l = ap (λ (k : ℕ). drop k l) (omega arith) ∙ sym (drop-drop 1 i l)

pub gone : (b b' : BookView) (tape : List ℕ) (deeds : List Deed) (before out : List Outcome) (i at : ℕ) → i ≡ length deeds → Going b tape deeds before i at out b' → Seasoned b tape deeds before out b'
gone b b' tape deeds before out i at e g =
    let S : List Deed → Type 0 = λ l. Season b tape l g.outcomes g.frames g.tried g.changes (drop at tape) b' in
    let s : S deeds = subst S (take_all i deeds (omega arith)) g.season in
    let law = adds_frames (season_adds s) in
    let few = season_few s in
    record {
      outcomes = g.outcomes;
      frames = g.frames;
      tried = g.tried;
      changes = g.changes;
      left = drop at tape;
      season = s;
      law = law;
      most = few;
      new = λ n h. law.new n (omega arith);
      front = ap (λ (k : ℕ). take k out) (sym e) ∙ g.front;
      rest = ap (λ (k : ℕ). drop k out) (sym e) ∙ g.rest ∙ ap (λ (k : ℕ). drop k before) e;
    }
