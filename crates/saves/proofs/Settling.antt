-- What a load has done so far: the book's records are those taken, in their order.
--
--   LastOf      the last of some records, or none
--   Settled     the book after some records taken
--   settled     every book that a load meets is settled
--   few_taken   it has at most 768 records
--   takes_adds, turned_adds   the frames of the records tried
use Rattle.std.proofs.Common.{◌≡◌, ℕ, ◌+◌, ◌*◌, ◌^◌, ◌<◌, ◌≤◌, Bool, true, false, not, ◌||◌, List, [], ◌∷◌, ◌++◌, length, take, Some, None, Ok, Option, sym, refl, ap, ◌∙◌, append_assoc, append-nil, arith, length-append, take-add}
use Rattle.std.specs.List.{AllByRecursion}
use Rattle.std.proofs.ByRecursion.{All-push, All-weaker}
use Rattle.std.proofs.lemmas.List.{map-append, length-map}
use Rattle.std.proofs.lemmas.Bool.{and_parts}
use Rattle.std.proofs.lemmas.Bool.Decides.{nat_tests}
use Rattle.entry.specs.declared.Entry.{Entry}
use Rattle.entry.specs.Lists.{put, filled, Under}
use Rattle.entry.proofs.Filters.{under_below, under_above}
use Rattle.ordered.specs.declared.calls.Answer.{Answer}
use Rattle.ordered.specs.declared.refusal.Refusal.{Refusal}
use Rattle.wire.specs.declared.record.Record.{Record}
use Rattle.wire.specs.declared.command.Command.{Command}
use Rattle.wire.specs.Records.{wire}
use Rattle.wire.specs.Commands.{fields, changing}
use Rattle.wire.specs.Reading.{code_of}
use Rattle.wire.proofs.Codes.{code_spelt}
use Rattle.leases.specs.Commands.{change}
use Rattle.leases.proofs.Counting.{no_change}
use Rattle.book.specs.declared.part.Part.{Part}
use Rattle.book.specs.declared.part.Part.TheVariants.{Names, Leases, Events}
use Rattle.book.specs.Books.{BookView, look, shut, Standing, Kept}
use Rattle.book.specs.Runs.{Turn, frames, changes, piece}
use Rattle.book.proofs.Obeying.{did_shut}
use Rattle.book.proofs.Summing.{Adds, adds_none, adds_then, did_adds, adds_away}
use Rattle.book.proofs.Running.{frames_push, changes_push}
use Rattle.saves.specs.Saves.{form, forms, records, wires, saved}
use Rattle.saves.specs.Loads.{loadable, in_turn, empty, Took, Turned, unread, out_of_turn, answered, Takes, start, more}
use Rattle.saves.proofs.Wires.{wires_push}
use Rattle.saves.proofs.Saving.{part_few}
use Rattle.saves.proofs.Ranks.{code_for, rank, rank_of, Short, form_rank, turn_rank}
use Rattle.saves.proofs.Accepting.{added, part_all}

-- ---- one record more
put_last : (e : Entry) (xs : List Entry) → Under e.key xs → put e xs ≡ xs ++ (e ∷ [])
put_last e xs u = rw (under_below e.key xs u, under_above e.key xs u) refl

none_left : (P : Entry → Type 0) (xs : List Entry) → AllByRecursion P xs → ((x : Entry) → P x → ⊥) → xs ≡ []
none_left P [] a never = refl
none_left P (x ∷ xs) a never = absurd (never x a.0)

forms_push : (p : Part) (e : Entry) (xs : List Entry) → Under e.key xs → forms p (put e xs) ≡ forms p xs ++ (form p e ∷ [])
forms_push p e xs u = ap (forms p) (put_last e xs u) ∙ map-append (form p) xs (e ∷ [])

module _ (u u' : BookView) (m : ℕ) (all : AllByRecursion (λ y. rank y ≤ m) (records u)) where
  under : (p : Part) (e : Entry) → m < code_for p * 2 ^ 64 + e.key → Under e.key (look p u).entries
  under p e h = All-weaker (λ (x : Entry). rank (form p x) ≤ m) (λ (x : Entry). x.key < e.key) (λ x l. omega (arith, form_rank p x)) (look p u).entries (part_all (λ y. rank y ≤ m) p u all)

  none_of : (p : Part) → m < code_for p * 2 ^ 64 → (look p u).entries ≡ []
  none_of p h = none_left (λ (x : Entry). rank (form p x) ≤ m) (look p u).entries (part_all (λ y. rank y ≤ m) p u all) (λ x l. omega (arith, form_rank p x))

  pushed : (p : Part) (e : Entry) → (look p u').entries ≡ put e (look p u).entries → Kept p u u' → m < code_for p * 2 ^ 64 + e.key → e.key < 2 ^ 64 → records u' ≡ records u ++ (form p e ∷ [])
  pushed Names e is k h s =
      let l = none_of Leases (omega arith) in
      let v = none_of Events (omega arith) in
      let l' : u'.leases.entries ≡ [] = ap (λ w. w.entries) k.0 ∙ l in
      let v' : u'.events.entries ≡ [] = ap (λ w. w.entries) k.1 ∙ v in
      let n' : forms Names u'.names.entries ≡ forms Names u.names.entries ++ (form Names e ∷ []) = ap (forms Names) is ∙ forms_push Names e u.names.entries (under Names e h) in
      rw (n', l', v', l, v) (append-nil (forms Names u.names.entries ++ (form Names e ∷ [])) ∙ ap (λ (r : List Record). r ++ (form Names e ∷ [])) (sym (append-nil (forms Names u.names.entries))))
  pushed Leases e is k h s =
      let n = forms Names u.names.entries in
      let ls = forms Leases u.leases.entries in
      let v = none_of Events (omega arith) in
      let n' : u'.names.entries ≡ u.names.entries = ap (λ w. w.entries) k.0 in
      let v' : u'.events.entries ≡ [] = ap (λ w. w.entries) k.1 ∙ v in
      let l' : forms Leases u'.leases.entries ≡ ls ++ (form Leases e ∷ []) = ap (forms Leases) is ∙ forms_push Leases e u.leases.entries (under Leases e h) in
      rw (n', l', v', v)
      (ap (λ (r : List Record). n ++ r) (append-nil (ls ++ (form Leases e ∷ []))) ∙ sym (append_assoc n ls (form Leases e ∷ []))
      ∙ ap (λ (r : List Record). (n ++ r) ++ (form Leases e ∷ [])) (sym (append-nil ls)))
  pushed Events e is k h s =
      let n = forms Names u.names.entries in
      let ls = forms Leases u.leases.entries in
      let vs = forms Events u.events.entries in
      let n' : u'.names.entries ≡ u.names.entries = ap (λ w. w.entries) k.0 in
      let l' : u'.leases.entries ≡ u.leases.entries = ap (λ w. w.entries) k.1 in
      let v' : forms Events u'.events.entries ≡ vs ++ (form Events e ∷ []) = ap (forms Events) is ∙ forms_push Events e u.events.entries (under Events e h) in
      rw (n', l', v') (ap (λ (r : List Record). n ++ r) (sym (append_assoc ls vs (form Events e ∷ []))) ∙ sym (append_assoc n (ls ++ vs) (form Events e ∷ [])))

-- ---- so far
pub data LastOf : Option Record → List Record → Type 0 where
  nothing : LastOf None []
  this : (zs : List Record) (y : Record) → LastOf (Some y) (zs ++ (y ∷ []))

pub record Settled (bytes : List ℕ) (ts : List Turn) (o : Option Record) (u : BookView) : Type 0 where
  pub unshut : shut u ≡ false
  pub short : Short o
  pub bound : AllByRecursion (λ y. rank y ≤ rank_of o) (records u)
  pub last : LastOf o (records u)
  pub count : length (records u) ≡ length ts
  pub same : saved u ≡ take (32 * length ts) bytes
  pub changed : changes ts ≡ length ts

no_records : (b : BookView) → empty b ≡ true → records b ≡ []
no_records b e =
    let n = or_none b.names.entries (filled b.leases.entries || filled b.events.entries) e in
    let l = or_none' b.leases.entries b.events.entries n.1 in
    rw (n.0, l.0, l.1) refl
  where
    or_none : (xs : List Entry) (t : Bool) → not (filled xs || t) ≡ true → (xs ≡ []) × (t ≡ false)
    or_none [] true h = let z : ◌≡◌ {A = ℕ} 0 1 = cc in absurd (omega arith)
    or_none [] false h = (refl, refl)
    or_none (x ∷ xs) t h = let z : ◌≡◌ {A = ℕ} 0 1 = cc in absurd (omega arith)

    or_none' : (xs ys : List Entry) → filled xs || filled ys ≡ false → (xs ≡ []) × (ys ≡ [])
    or_none' [] [] h = (refl, refl)
    or_none' [] (y ∷ ys) h = let z : ◌≡◌ {A = ℕ} 0 1 = cc in absurd (omega arith)
    or_none' (x ∷ xs) ys h = let z : ◌≡◌ {A = ℕ} 0 1 = cc in absurd (omega arith)

settled_start : (b : BookView) (bytes : List ℕ) → shut b ≡ false → empty b ≡ true → Settled bytes [] None b
unfolding wires
settled_start b bytes o e =
    let z = no_records b e in
    record { unshut = o; short = tt; bound = rw z tt; last = rw z nothing; count = rw z refl; same = rw z refl; changed = refl }

loads_change : (code : ℕ) (e : Entry) → loadable code ≡ true → change code (Ok e) ≡ 1
loads_change code e h = let c : changing code ≡ true = grind (arith, nat_tests, h) in rw c refl

turn_loads : (o : Option Record) (x : Record) → in_turn o x ≡ true → loadable x.code ≡ true
turn_loads o x t = (and_parts (loadable x.code) _ t).0

took_change : (u : BookView) (o : Option Record) (p : List ℕ) (c : Command) (r : Answer) (u' : BookView) → Took u o p c r u' → change (code_of p) r.outcome ≡ 1
took_change u o p c r u' t = rw (code_spelt p c t.spelt, t.accepted) (loads_change (fields c).code t.entry (turn_loads o (fields c) t.turn))

-- the records of the book are those taken before, and this one
pub took_records : (u : BookView) (bytes : List ℕ) (ts : List Turn) (o : Option Record) (p : List ℕ) (c : Command) (r : Answer) (u' : BookView) → Settled bytes ts o u → Took u o p c r u' →
    records u' ≡ records u ++ (fields c ∷ [])
took_records u bytes ts o p c r u' s t =
    let ad = added u u' c r o t.stands s.unshut t.turn t.did t.entry t.accepted in
    let low : ad.entry.key < 2 ^ 64 = first_of ad.part ad.entry (rw ad.form_is t.spelt.within.first) in
    let up : rank_of o < rank (form ad.part ad.entry) = rw ad.form_is (turn_rank o (fields c) s.short t.spelt.within.first t.turn) in
    pushed u u' (rank_of o) s.bound ad.part ad.entry ad.entries ad.kept (omega (arith, form_rank ad.part ad.entry)) low ∙ ap (λ (x : Record). records u ++ (x ∷ [])) ad.form_is
  where
    first_of : (p : Part) (e : Entry) → (form p e).first < 2 ^ 64 → e.key < 2 ^ 64
    first_of Names e h = h
    first_of Leases e h = h
    first_of Events e h = h

settled_more : (u : BookView) (bytes : List ℕ) (ts : List Turn) (o : Option Record) (c : Command) (r : Answer) (u' : BookView) → Settled bytes ts o u → Took u o (piece bytes (length ts)) c r u' →
    Settled bytes (ts ++ (record { bytes = piece bytes (length ts); answer = r } ∷ [])) (Some (fields c)) u'
settled_more u bytes ts o c r u' s t =
    let n = length ts in
    let now : Turn = record { bytes = piece bytes n; answer = r } in
    let is = took_records u bytes ts o (piece bytes n) c r u' s t in
    let up = turn_rank o (fields c) s.short t.spelt.within.first t.turn in
    let long : length (ts ++ (now ∷ [])) ≡ n + 1 = length-append ts (now ∷ []) in
    record {
      unshut = did_shut u c r u' t.did ∙ s.unshut;
      short = t.spelt.within.first;
      bound = rw is (All-push (λ y. rank y ≤ rank (fields c)) (records u) (fields c) (All-weaker (λ y. rank y ≤ rank_of o) (λ y. rank y ≤ rank (fields c)) (λ y h. omega arith) (records u) s.bound) (omega arith));
      last = rw is (this (records u) (fields c));
      count = ap length is ∙ length-append (records u) (fields c ∷ []) ∙ ap (λ (k : ℕ). k + 1) s.count ∙ sym long;
      same =
          ap wires is ∙ wires_push (records u) (fields c) ∙ ap (λ (l : List ℕ). l ++ wire (fields c)) s.same ∙ ap (λ (l : List ℕ). take (32 * n) bytes ++ l) (sym t.spelt.bytes)
          ∙ sym (take-add (32 * n) 32 bytes) ∙ ap (λ (k : ℕ). take k bytes) (omega (arith, long));
      changed = changes_push ts now ∙ omega (arith, s.changed, took_change u o (piece bytes n) c r u' t, long);
    }

pub settled : {b : BookView} {bytes : List ℕ} {ts : List Turn} {o : Option Record} {u : BookView} → shut b ≡ false → empty b ≡ true → Takes b bytes ts o u → Settled bytes ts o u
settled {b} {bytes} h e start = settled_start b bytes h e
settled {b} {bytes} h e (more {ts} {o} {u} {b'} {c} {r} l t) = settled_more u bytes ts o c r b' (settled h e l) t

-- ---- counts and sums
pub record_count : (b : BookView) → length (records b) ≡ length b.names.entries + length b.leases.entries + length b.events.entries
record_count b =
    let n = forms Names b.names.entries in
    let l = forms Leases b.leases.entries in
    let e = forms Events b.events.entries in
    let ln = length-map b.names.entries (form Names) in
    let ll = length-map b.leases.entries (form Leases) in
    let le = length-map b.events.entries (form Events) in
    omega (arith, length-append n (l ++ e), length-append l e)

pub few_taken : {bytes : List ℕ} {ts : List Turn} {o : Option Record} {u : BookView} → Settled bytes ts o u → Standing u → length ts ≤ 768
few_taken {bytes} {ts} {o} {u} s st =
    omega (arith, s.count, record_count u, part_few Names u st s.unshut, part_few Leases u st s.unshut, part_few Events u st s.unshut)

took_adds : (u : BookView) (o : Option Record) (p : List ℕ) (c : Command) (r : Answer) (u' : BookView) → Took u o p c r u' → Adds u r.frames 1 (change (code_of p) r.outcome) u'
took_adds u o p c r u' t = rw (code_spelt p c t.spelt) (did_adds u c r u' t.did)

pub takes_adds : {b : BookView} {bytes : List ℕ} {ts : List Turn} {o : Option Record} {u : BookView} → Takes b bytes ts o u → Adds b (frames ts) (length ts) (changes ts) u
takes_adds {b} start = adds_none b
takes_adds {b} {bytes} (more {ts} {o} {u} {b'} {c} {r} l t) =
    let now : Turn = record { bytes = piece bytes (length ts); answer = r } in
    let a = adds_then (takes_adds l) (took_adds u o (piece bytes (length ts)) c r b' t) in
    rw (frames_push ts now, changes_push ts now, length-append ts (now ∷ [])) a

pub turned_adds : {u : BookView} {o : Option Record} {p : List ℕ} {e : Refusal} {r : Answer} {b' : BookView} → Turned u o p e r b' → Adds u r.frames 1 (change (code_of p) r.outcome) b'
turned_adds {u} {o} {p} {e} (unread w) = adds_away u u (code_of p) _ e refl refl
turned_adds {u} {o} {p} {e} (out_of_turn c s t z) = adds_away u u (code_of p) _ e refl refl
turned_adds {u} {o} {p} {e} (answered c {r} {b'} s t d z) = rw (code_spelt p c s) (did_adds u c r b' d)

pub turned_change : {u : BookView} {o : Option Record} {p : List ℕ} {e : Refusal} {r : Answer} {b' : BookView} → Turned u o p e r b' → change (code_of p) r.outcome ≡ 0
turned_change {u} {o} {p} {e} (unread w) = no_change (code_of p) e
turned_change {u} {o} {p} {e} (out_of_turn c s t z) = no_change (code_of p) e
turned_change {u} {o} {p} {e} (answered c {r} {b'} s t d z) = rw z (no_change (code_of p) e)
