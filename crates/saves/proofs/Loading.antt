-- A whole load: what it tries, its frames, and the bytes that a save writes after it.
use Rattle.std.proofs.Common.{◌≡◌, ℕ, ◌*◌, ◌%◌, ◌≤◌, true, false, eqb, List, [], ◌∷◌, ◌++◌, length, Some, None, Ok, Err, Option, sym, refl, ap, ◌∙◌, subst, inl, inr, arith, length-append, take_all}
use Rattle.std.proofs.lemmas.Bool.{cases_Bool, eqb-true, eq-eqb}
use Rattle.ordered.specs.declared.refusal.Refusal.{Refusal}
use Rattle.book.specs.Books.{BookView, shut}
use Rattle.book.specs.Runs.{Turn, frames, changes, piece}
use Rattle.book.proofs.Summing.{Adds, adds_none, adds_then, adds_frames}
use Rattle.book.proofs.Running.{frames_push, changes_push}
use Rattle.std.specs.Result.{result_err, OnOk}
use Rattle.saves.specs.Loads.{Loaded, taken}
use Rattle.saves.specs.declared.load.Refused.{Refused}
use Rattle.saves.specs.Saves.{saved, records}
use Rattle.saves.specs.Loads.{empty, unready, whole_refused, Ends, TakesAll, whole, ready, Loads, Restores}
use Rattle.saves.proofs.Wires.{length_wires}
use Rattle.saves.proofs.Settling.{Settled, settled, few_taken, takes_adds, turned_adds, turned_change}
use Rattle.saves.proofs.Restoring.{restored}

-- ---- what a load is ready for
pub record Ready (b : BookView) (n : ℕ) : Type 0 where
  pub unshut : shut b ≡ false
  pub none : empty b ≡ true
  pub even : n % 32 ≡ 0

pub is_ready : (b : BookView) (n : ℕ) → unready b n ≡ None → Ready b n
is_ready b n h = elim (cases_Bool (shut b)) [
  | inl s ↦ let x = rw s at h in let z : ◌≡◌ {A = ℕ} 0 1 = cc in absurd (omega arith)
  | inr s ↦ elim (cases_Bool (empty b)) [
    | inl e ↦ elim (cases_Bool (eqb (n % 32) 0)) [
      | inl k ↦ record { unshut = s; none = e; even = eqb-true (n % 32) 0 k }
      | inr k ↦ let x = rw (s, e, k) at h in let z : ◌≡◌ {A = ℕ} 0 1 = cc in absurd (omega arith)
    ]
    | inr e ↦ let x = rw (s, e) at h in let z : ◌≡◌ {A = ℕ} 0 1 = cc in absurd (omega arith)
  ]
]

ready_is : (b : BookView) (n : ℕ) → Ready b n → unready b n ≡ None
ready_is b n r = rw (r.unshut, r.none, eq-eqb (n % 32) 0 r.even) refl

-- ---- refused as a whole
pub whole_load : (b : BookView) (bytes : List ℕ) (e : Refusal) → unready b (length bytes) ≡ Some e → Loads b bytes (whole_refused e) b
whole_load b bytes e h = record { tried = []; loading = whole e h refl refl; most = omega arith; counted = refl; law = adds_frames (adds_none b) }

pub whole_restores : (b : BookView) (bytes : List ℕ) (e : Refusal) → unready b (length bytes) ≡ Some e → Restores b bytes (whole_refused e) b
whole_restores b bytes e h = λ other so oo is ob eb.
    let even : length bytes % 32 ≡ 0 = omega (arith, ap length is, length_wires (records other)) in
    let fine = ready_is b (length bytes) (record { unshut = ob; none = eb; even = even }) in
    let z : ◌≡◌ {A = ℕ} 0 1 = cc in
    absurd (omega arith)

where_ok : {X : Type 0} (l : Loaded) → (result_err l ≡ None → X) → OnOk l X
where_ok (Ok n) f = f refl
where_ok (Err x) f = tt

-- ---- taken record by record
module _ (b : BookView) (bytes : List ℕ) (l : Loaded) (b' : BookView) (fit : unready b (length bytes) ≡ None) (t : TakesAll b bytes l b') where
  r : Ready b (length bytes)
  r = is_ready b (length bytes) fit

  so_far : Settled bytes t.turns t.last t.met
  so_far = settled r.unshut r.none t.takes

  record Tried (tried : List Turn) : Type 0 where
    most : length tried ≤ 769
    counted : changes tried ≡ taken l
    adds : Adds b (frames tried) (length tried) (changes tried) b'

  tried : (x : Option Refused) → Ends bytes t.turns x t.last t.met t.tried b' → Tried t.tried
  tried None e =
      subst Tried (sym e.1)
      (record { most = omega (arith, few_taken so_far t.stands); counted = so_far.changed ∙ sym t.taken; adds = subst (Adds b (frames t.turns) (length t.turns) (changes t.turns)) (sym e.2) (takes_adds t.takes) })
  tried (Some x) e =
      let ts = t.turns in
      let now : Turn = record { bytes = piece bytes (length ts); answer = e.2.0 } in
      let a = adds_then (takes_adds t.takes) (turned_adds e.2.1) in
      let n : changes (ts ++ (now ∷ [])) ≡ length ts = changes_push ts now ∙ omega (arith, so_far.changed, turned_change e.2.1) in
      subst Tried (sym e.2.2)
      (record {
        most = omega (arith, few_taken so_far t.stands, length-append ts (now ∷ []));
        counted = n ∙ sym t.taken;
        adds = rw (frames_push ts now, changes_push ts now, length-append ts (now ∷ [])) a;
      })

  pub taken_load : Loads b bytes l b'
  taken_load =
      let all = tried (result_err l) t.ends in
      record { tried = t.tried; loading = ready fit t; most = all.most; counted = all.counted; law = adds_frames all.adds }

  pub taken_restores : Restores b bytes l b'
  taken_restores = λ other so oo is ob eb.
      let T : List ℕ → Type 0 = λ bs. TakesAll b bs l b' in
      restored other so oo b ob eb l b' (subst T is t)

  pub saved_again : OnOk l (saved b' ≡ bytes)
  saved_again = where_ok l (go (result_err l) t.ends)
    where
      go : (x : Option Refused) → Ends bytes t.turns x t.last t.met t.tried b' → x ≡ None → saved b' ≡ bytes
      go None e z =
          let n : length bytes ≤ 32 * length t.turns = omega (arith, e.0, r.even) in
          ap saved e.2 ∙ so_far.same ∙ take_all (32 * length t.turns) bytes n
      go (Some x) e z = let z : ◌≡◌ {A = ℕ} 0 1 = cc in absurd (omega arith)
