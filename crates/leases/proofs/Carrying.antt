-- Each command carried out, from the index calls that its function makes.
--
--   seven           a lawful index of one of the book's widths
--   lease_full, lease_shared, lease_granted
--   release_absent, release_other, release_done
--   who-nobody, who_short, who_found
--   due_none, due_later, due_taken
use Rattle.std.proofs.Common.{◌≡◌, ℕ, ◌+◌, ◌*◌, ◌/◌, ◌%◌, ◌^◌, ◌<◌, ◌≤◌, true, false, eqb, leb, List, [], ◌∷◌, length, None, Ok, Err, sym, refl, ap, ◌∙◌, subst, inl, inr, arith}
use Rattle.std.specs.List.{AllByRecursion}
use Rattle.std.proofs.lemmas.Bool.{le-leb, lt-leb, lt-ltb, le-ltb, eq-eqb, ne_eqb}
use Rattle.std.proofs.lemmas.Bool.Decides.{nat_tests as tests}
use Rattle.key.proofs.Logs.{most_within}
use Rattle.entry.specs.declared.Entry.{Entry}
use Rattle.entry.specs.Lists.{at, from, upto, put, without, filled, first}
use Rattle.ordered.specs.declared.calls.Answer.{Answer}
use Rattle.ordered.specs.declared.calls.Call.TheVariants.{Add, Remove, Find, Next, Last}
use Rattle.ordered.specs.declared.refusal.Refusal.{Refusal}
use Rattle.ordered.specs.declared.refusal.Refusal.TheVariants.{Absent, Full, Nothing, Shared, Holder, Later}
use Rattle.ordered.specs.Sorted.{no_find, no_add, tells, keeps}
use Rattle.ordered.specs.Meaning.{View, Stepped, Lawful}
use Rattle.leases.specs.Checks.{unfit}
use Rattle.ordered.specs.Answers.{no_of}
use Rattle.leases.specs.Plans.{Planned, together}
use Rattle.leases.specs.Stretches.{end, holder_of, entered, Noted, Spaced, sharing, Leased}
use Rattle.leases.specs.Commands.{lease_plan, release_plan, who_plan, due_plan}
use Rattle.leases.proofs.Planning.{Seven, Quiet, refuse_early, refuse_after, quiet_call, two_calls}
use Rattle.leases.proofs.Spacing.{spaced_put, spaced_without, Clear}
use Rattle.leases.proofs.Deciding.{Free, reached, not_reached, none_sharing, clear, covering, none_at, spaced_upto, final_small}
use Rattle.leases.proofs.Telling.{fits, Found, outcome_is, entries_are, quiet_last, quiet_find, quiet_next, last_found, last_missed, find_held, find_absent, next_found, next_missed}

pub seven : (w : ℕ) (v : View) → 8 ≤ w → w ≤ 60 → Lawful w v → Seven v
seven w v lo hi law = record { most_frames = rw law.wide (most_within w lo hi).1; counts = law.counts }

-- ---- the ends of a lease
pub record Fit (f t : ℕ) : Type 0 where
  pub low : f < 2 ^ 32
  pub high : t < 2 ^ 32
  pub rises : f ≤ t
  pub level : f / 2 ^ 24 ≡ t / 2 ^ 24

pub fit : (f t : ℕ) → unfit f t ≡ None → Fit f t
unfolding unfit
fit f t e = record { low = grind (arith, tests, e); high = grind (arith, tests, e); rises = grind (arith, tests, e); level = grind (arith, tests, e) }

pub noted : (f t h : ℕ) → Fit f t → (0 < h) × (h < 2 ^ 32) → Noted (entered f t h)
noted f t h ok b = record { small = ok.low; rises = omega (arith, ok.level, ok.rises, b.1); inside = omega (arith, b.1); held = omega (arith, b.0, b.1) }

pub end_is : (f t h : ℕ) → Fit f t → h < 2 ^ 32 → end (entered f t h) ≡ t
end_is f t h ok small = omega (arith, ok.level)

-- ---- changes that the list accepts
removes : (ys xs new : List Entry) → filled ys ≡ true → ((tells (no_find ys) (first ys) []).outcome ≡ Ok (first ys)) × (keeps (no_find ys) new xs ≡ new)
removes [] xs new e = let z : ◌≡◌ {A = ℕ} 0 1 = cc in absurd (omega arith)
removes (y ∷ ys) xs new e = (refl, refl)

first_at : (xs : List Entry) → filled xs ≡ true → (filled (at (first xs).key xs) ≡ true) × (first (at (first xs).key xs) ≡ first xs)
first_at [] e = let z : ◌≡◌ {A = ℕ} 0 1 = cc in absurd (omega arith)
first_at (x ∷ xs) e = let t : eqb x.key x.key ≡ true = eq-eqb x.key x.key refl in (rw t refl, rw t refl)

first_small : (xs : List Entry) → AllByRecursion (λ (e : Entry). e.key < 2 ^ 48) xs → (x : Entry) → Found xs (first xs) x → x.key < 2 ^ 48
first_small [] a x found = let z : ◌≡◌ {A = ℕ} 0 1 = cc in absurd (omega arith)
first_small (y ∷ ys) a x found = let P : Entry → Type 0 = λ e. e.key < 2 ^ 48 in subst P found.same a.0

from_zero : (xs : List Entry) → from 0 xs ≡ xs
from_zero [] = refl
from_zero (x ∷ xs) = rw (le-leb 0 x.key (omega arith)) (ap (λ (ys : List Entry). x ∷ ys) (from_zero xs))

-- ---- lease
module _ (v : View) (law : Lawful 32 v) (ok : Leased v) (f t h : ℕ) (bounds : (0 < h) × (h < 2 ^ 32)) (ends : unfit f t ≡ None) where
  pub lease_full : v.limit ≤ length v.entries → Planned v (lease_plan v f t h) (no_of Full 0 0) v
  unfolding lease_plan
  lease_full e = rw (le-leb v.limit (length v.entries) e) (refuse_early v Full (seven 32 v (omega arith) (omega arith) law))

  module _ (u : View) (a : Answer) (st : Stepped v (Last t) [] a [] u) (room : length v.entries < v.limit) where
    high : t < 2 ^ v.width
    high = rw law.wide (fit f t ends).high

    quiet : Quiet v (Last t) a u
    quiet = quiet_last v u t a ok.unshut high st

    pub lease_spaced : Spaced u.entries
    lease_spaced = rw quiet.entries ok.spaced

    pub found_small : (x : Entry) → a.outcome ≡ Ok x → x.key < 2 ^ 32
    found_small x o =
        let found = last_found v u t a ok.unshut high st x o in
        let P : Entry → Type 0 = λ e. e.key < 2 ^ 32 in
        subst P found.same (final_small (upto t v.entries) (spaced_upto v.entries t ok.spaced) found.some).small

    pub lease_shared : (x : Entry) → a.outcome ≡ Ok x → f ≤ end x → Planned v (lease_plan v f t h) (no_of Shared a.frames a.visits) u
    unfolding lease_plan
    lease_shared x o e =
        let found = last_found v u t a ok.unshut high st x o in
        let hit : filled (sharing f t v.entries) ≡ true = reached v.entries ok.spaced f t found.some (rw found.same e) in
        rw (lt-leb v.limit (length v.entries) room, hit) (refuse_after v u (Last t) a Shared (seven 32 v (omega arith) (omega arith) law) quiet)

    pub free_none : (r : Refusal) → a.outcome ≡ Err r → Free v.entries f t
    free_none r o = inl (last_missed v u t a ok.unshut high st r o).empty

    pub free_short : (x : Entry) → a.outcome ≡ Ok x → end x < f → Free v.entries f t
    free_short x o e = inr (rw (last_found v u t a ok.unshut high st x o).same e)

    pub lease_granted : Free v.entries f t → (v' : View) (b : Answer) → Stepped u (Add f (t % 2 ^ 24 * 2 ^ 32 + h)) [] b [] v' → Planned v (lease_plan v f t h) (together a b) v' × Spaced v'.entries
    unfolding lease_plan
    lease_granted free v' b next =
        let e = entered f t h in
        let xs = v.entries in
        let good = fit f t ends in
        let ended = not_reached xs ok.spaced f t free in
        let gap : Clear xs f t = clear xs ok.spaced f t ended in
        let low : f < 2 ^ u.width = rw (st.width ∙ law.wide) good.low in
        let unshut : u.shut ≡ false = st.shut ∙ ok.unshut in
        let same : u.entries ≡ xs = quiet.entries in
        let empty : at f u.entries ≡ [] = rw same (none_at xs f t good.rises ok.spaced gap) in
        let room' : length u.entries < u.limit = rw (same, st.limit) room in
        let full : leb u.limit (length u.entries) ≡ false = lt-leb u.limit (length u.entries) room' in
        let none : no_add u.limit (at f u.entries) (length u.entries) ≡ None = rw (empty, full) refl in
        let out : b.outcome ≡ Ok e = outcome_is u v' (Add f e.note) b next unshut (fits u.width f low) ∙ (rw none refl) in
        let new : v'.entries ≡ put e xs = entries_are u v' (Add f e.note) b next unshut (fits u.width f low) ∙ (rw none (ap (put e) same)) in
        let gap' : Clear xs f (end e) = rw (end_is f t h good bounds.1) gap in (
          rw (lt-leb v.limit (length xs) room, none_sharing xs ok.spaced f t ended) (two_calls v u v' (Last t) (Add f e.note) a b (Ok e) (put e xs) (seven 32 v (omega arith) (omega arith) law) quiet next out new refl),
          rw new (spaced_put xs e ok.spaced (noted f t h good bounds) gap'),
        )

-- ---- release
module _ (v : View) (law : Lawful 32 v) (ok : Leased v) (f h : ℕ) (small : f < 2 ^ 32) (u : View) (a : Answer) (st : Stepped v (Find f) [] a [] u) where
  short : f < 2 ^ v.width
  short = rw law.wide small

  quiet_release : Quiet v (Find f) a u
  quiet_release = quiet_find v u f a ok.unshut short st

  pub release_spaced : Spaced u.entries
  release_spaced = rw quiet_release.entries ok.spaced

  pub release_absent : (r : Refusal) → a.outcome ≡ Err r → Planned v (release_plan v f h) a u
  unfolding release_plan
  release_absent r o =
      let missed = find_absent v u f a ok.unshut short st r o in
      rw missed.empty (quiet_call v u (Find f) a (Err Absent) (seven 32 v (omega arith) (omega arith) law) quiet_release (o ∙ ap Err (sym missed.same)))

  pub release_other : (x : Entry) → a.outcome ≡ Ok x → (holder_of x ≡ h → ⊥) → Planned v (release_plan v f h) (no_of Holder a.frames a.visits) u
  unfolding release_plan
  release_other x o ne =
      let found = find_held v u f a ok.unshut short st x o in
      rw (found.some, found.same, ne_eqb (holder_of x) h ne) (refuse_after v u (Find f) a Holder (seven 32 v (omega arith) (omega arith) law) quiet_release)

  pub release_done : (x : Entry) → a.outcome ≡ Ok x → holder_of x ≡ h → (v' : View) (b : Answer) → Stepped u (Remove f) [] b [] v' → Planned v (release_plan v f h) (together a b) v' × Spaced v'.entries
  unfolding release_plan
  release_done x o e v' b next =
      let xs = v.entries in
      let found = find_held v u f a ok.unshut short st x o in
      let low : f < 2 ^ u.width = rw st.width short in
      let unshut : u.shut ≡ false = st.shut ∙ ok.unshut in
      let same : u.entries ≡ xs = quiet_release.entries in
      let some : filled (at f u.entries) ≡ true = rw same found.some in
      let both = removes (at f u.entries) u.entries (without f u.entries) some in
      let out : b.outcome ≡ Ok x = outcome_is u v' (Remove f) b next unshut (fits u.width f low) ∙ both.0 ∙ (rw same (ap Ok found.same)) in
      let new : v'.entries ≡ without f xs = entries_are u v' (Remove f) b next unshut (fits u.width f low) ∙ both.1 ∙ (rw same refl) in (
        rw (found.some, found.same, eq-eqb (holder_of x) h e) (two_calls v u v' (Find f) (Remove f) a b (Ok x) (without f xs) (seven 32 v (omega arith) (omega arith) law) quiet_release next out new refl),
        rw new (spaced_without f xs ok.spaced),
      )

-- ---- who
module _ (v : View) (law : Lawful 32 v) (ok : Leased v) (s : ℕ) (small : s < 2 ^ 32) (u : View) (a : Answer) (st : Stepped v (Last s) [] a [] u) where
  near : s < 2 ^ v.width
  near = rw law.wide small

  quiet_who : Quiet v (Last s) a u
  quiet_who = quiet_last v u s a ok.unshut near st

  pub who_small : (x : Entry) → a.outcome ≡ Ok x → x.key < 2 ^ 32
  who_small x o =
      let found = last_found v u s a ok.unshut near st x o in
      let P : Entry → Type 0 = λ e. e.key < 2 ^ 32 in
      subst P found.same (final_small (upto s v.entries) (spaced_upto v.entries s ok.spaced) found.some).small

  nobody : Free v.entries s s → Planned v (who_plan v s) (no_of Absent a.frames a.visits) u
  unfolding who_plan
  nobody free =
      rw (none_sharing v.entries ok.spaced s s (not_reached v.entries ok.spaced s s free)) (refuse_after v u (Last s) a Absent (seven 32 v (omega arith) (omega arith) law) quiet_who)

  pub who_none : (r : Refusal) → a.outcome ≡ Err r → Planned v (who_plan v s) (no_of Absent a.frames a.visits) u
  who_none r o = nobody (inl (last_missed v u s a ok.unshut near st r o).empty)

  pub who_short : (x : Entry) → a.outcome ≡ Ok x → end x < s → Planned v (who_plan v s) (no_of Absent a.frames a.visits) u
  who_short x o e = nobody (inr (rw (last_found v u s a ok.unshut near st x o).same e))

  pub who_found : (x : Entry) → a.outcome ≡ Ok x → s ≤ end x → Planned v (who_plan v s) a u
  unfolding who_plan
  who_found x o e =
      let found = last_found v u s a ok.unshut near st x o in
      let only : sharing s s v.entries ≡ x ∷ [] = covering v.entries ok.spaced s found.some (rw found.same e) ∙ ap (λ (y : Entry). y ∷ []) found.same in
      rw only (quiet_call v u (Last s) a (Ok x) (seven 32 v (omega arith) (omega arith) law) quiet_who o)

  pub who_spaced : Spaced u.entries
  who_spaced = rw quiet_who.entries ok.spaced

-- ---- due
module _ (v : View) (law : Lawful 48 v) (unshut : v.shut ≡ false) (m : ℕ) (u : View) (a : Answer) (st : Stepped v (Next 0) [] a [] u) where
  zero_fits : 0 < 2 ^ v.width
  zero_fits = rw law.wide (omega arith)

  quiet_due : Quiet v (Next 0) a u
  quiet_due = quiet_next v u 0 a unshut zero_fits st

  pub due_none : (r : Refusal) → a.outcome ≡ Err r → Planned v (due_plan v m) a u
  unfolding due_plan
  due_none r o =
      let missed = next_missed v u 0 a unshut zero_fits st r o in
      let empty : v.entries ≡ [] = sym (from_zero v.entries) ∙ missed.empty in
      rw (ap filled empty) (quiet_call v u (Next 0) a (Err Nothing) (seven 48 v (omega arith) (omega arith) law) quiet_due (o ∙ ap Err (sym missed.same)))

  first_found : (x : Entry) → a.outcome ≡ Ok x → Found v.entries (first v.entries) x
  first_found x o = rw from_zero at (next_found v u 0 a unshut zero_fits st x o)

  pub due_later : (x : Entry) → a.outcome ≡ Ok x → m < x.key → Planned v (due_plan v m) (no_of Later a.frames a.visits) u
  unfolding due_plan
  due_later x o e =
      let found = first_found x o in
      rw (found.some, found.same, lt-ltb m x.key e) (refuse_after v u (Next 0) a Later (seven 48 v (omega arith) (omega arith) law) quiet_due)

  pub due_taken : (x : Entry) → a.outcome ≡ Ok x → x.key ≤ m → (v' : View) (b : Answer) → Stepped u (Remove x.key) [] b [] v' → Planned v (due_plan v m) (together a b) v'
  unfolding due_plan
  due_taken x o e v' b next =
      let xs = v.entries in
      let found = first_found x o in
      let low : x.key < 2 ^ u.width = rw (st.width ∙ law.wide) (first_small xs law.keys x found) in
      let open' : u.shut ≡ false = st.shut ∙ unshut in
      let same : u.entries ≡ xs = quiet_due.entries in
      let held = rw found.same at (first_at xs found.some) in
      let some : filled (at x.key u.entries) ≡ true = rw same held.0 in
      let both = removes (at x.key u.entries) u.entries (without x.key u.entries) some in
      let out : b.outcome ≡ Ok x = outcome_is u v' (Remove x.key) b next open' (fits u.width x.key low) ∙ both.0 ∙ (rw same (ap Ok held.1)) in
      let new : v'.entries ≡ without x.key xs = entries_are u v' (Remove x.key) b next open' (fits u.width x.key low) ∙ both.1 ∙ (rw same refl) in
      rw (found.some, found.same, le-ltb m x.key e) (two_calls v u v' (Next 0) (Remove x.key) a b (Ok x) (without x.key xs) (seven 48 v (omega arith) (omega arith) law) quiet_due next out new refl)
