-- A record's command: what it adds where it is accepted, and that it is accepted behind records before it.
--
--   Added      an accepted record has put its entry into its part, and the other parts are as they were
--   added      every record taken does so
--   Proper     an entry that a part of a book can hold
--   command_for   the command of such an entry's record
--   granted    it is accepted where all records standing are before it, and there is room
use Rattle.std.proofs.Common.{◌≡◌, ℕ, ◌/◌, ◌^◌, ◌<◌, true, false, eqb, ltb, leb, List, [], ◌∷◌, ◌++◌, map, length, Some, None, Ok, Option, sym, refl, ap, ◌∙◌, inl, inr, arith}
use Rattle.std.specs.List.{AllByRecursion}
use Rattle.std.proofs.ByRecursion.{All-weaker, all_kept_by}
use Rattle.std.proofs.lemmas.Bool.{cases_Bool, lt-leb, le-ltb, eq-eqb, false≢true}
use Rattle.entry.specs.declared.Entry.{Entry}
use Rattle.entry.specs.Lists.{at, put, filled, Under}
use Rattle.entry.proofs.Filters.{under_at}
use Rattle.entry.proofs.Orders.{all_parts}
use Rattle.ordered.specs.declared.calls.Answer.{Answer}
use Rattle.ordered.specs.declared.calls.Call.TheVariants.{Add}
use Rattle.ordered.specs.declared.refusal.Refusal.{Refusal}
use Rattle.ordered.specs.Sorted.{Listed, large, no_add, tells, keeps}
use Rattle.ordered.specs.Meaning.{View}
use Rattle.wire.specs.declared.record.Record.{Record}
use Rattle.wire.specs.declared.command.Command.{Command}
use Rattle.wire.specs.declared.command.Command.TheVariants.{AddName, RemoveName, FindName, NextName, Lease, Release, Who, AddEvent, RemoveEvent, Due}
use Rattle.wire.specs.Records.{Within}
use Rattle.wire.specs.Commands.{fields}
use Rattle.leases.specs.Checks.{unfit}
use Rattle.leases.specs.Plans.{Plan, unless, call_plan}
use Rattle.leases.specs.Stretches.{end, holder_of, entered, Noted, Spaced, sharing}
use Rattle.leases.specs.Commands.{lease_plan}
use Rattle.leases.proofs.Carrying.{fit, end_is}
use Rattle.leases.proofs.Deciding.{none_sharing}
use Rattle.leases.proofs.Telling.{told_fit, fits}
use Rattle.book.specs.declared.part.Part.{Part}
use Rattle.book.specs.declared.part.Part.TheVariants.{Names, Leases, Events}
use Rattle.book.specs.Books.{BookView, look, shut, Standing, Kept, Did, book_plan}
use Rattle.book.proofs.Obeying.{book_plan_open}
use Rattle.saves.specs.Saves.{form, forms, records}
use Rattle.saves.specs.Loads.{in_turn}
use Rattle.saves.proofs.Saving.{part_limit}
use Rattle.saves.proofs.Ranks.{Before}

-- ---- an add
abbrev add_plan : View → ℕ → ℕ → ℕ → Plan
add_plan v w k n = unless (large w k) v (call_plan v (Add k n))

keeps_new : (why : Option Refusal) (x e : Entry) (new old : List Entry) → (tells why x []).outcome ≡ Ok e → keeps why new old ≡ new
keeps_new None x e new old o = refl
keeps_new (Some r) x e new old o = let z : ◌≡◌ {A = ℕ} 0 1 = cc in absurd (omega arith)

add_took : (v : View) (w k n : ℕ) (e : Entry) → v.shut ≡ false → v.width ≡ w → (add_plan v w k n).told ≡ Ok e → (add_plan v w k n).after ≡ put (record { key = k; note = n }) v.entries
add_took v w k n e open' wide o = go (large w k) refl o
  where
    go : (why : Option Refusal) → large w k ≡ why → (unless why v (call_plan v (Add k n))).told ≡ Ok e → (unless why v (call_plan v (Add k n))).after ≡ put (record { key = k; note = n }) v.entries
    go None q o =
        let t = told_fit v (Add k n) open' (ap (λ (x : ℕ). large x k) wide ∙ q) in
        ap (λ (l : Listed Entry). l.after) t
        ∙ keeps_new (no_add v.limit (at k v.entries) (length v.entries)) (record { key = k; note = n }) e (put (record { key = k; note = n }) v.entries) v.entries
        (sym (ap (λ (l : Listed Entry). l.told.outcome) t) ∙ o)
    go (Some r) q o = let z : ◌≡◌ {A = ℕ} 0 1 = cc in absurd (omega arith)

add_told : (v : View) (w k n : ℕ) → v.shut ≡ false → v.width ≡ w → k < 2 ^ w → at k v.entries ≡ [] → length v.entries < v.limit → (add_plan v w k n).told ≡ Ok (record { key = k; note = n })
add_told v w k n open' wide small none room =
    let t = told_fit v (Add k n) open' (ap (λ (x : ℕ). large x k) wide ∙ fits w k small) in
    let free : no_add v.limit (at k v.entries) (length v.entries) ≡ None = rw (none, lt-leb v.limit (length v.entries) room) refl in
    rw (fits w k small) (ap (λ (l : Listed Entry). l.told.outcome) t ∙ rw free refl)

-- ---- a lease
abbrev leasing : View → ℕ → ℕ → ℕ → Plan
leasing v f t h = unless (unfit f t) v (lease_plan v f t h)

lease_took : (v : View) (f t h : ℕ) (e : Entry) → (leasing v f t h).told ≡ Ok e → (unfit f t ≡ None) × ((leasing v f t h).after ≡ put (entered f t h) v.entries)
unfolding lease_plan
lease_took v f t h e o = go (unfit f t) refl o
  where
    go : (why : Option Refusal) → unfit f t ≡ why → (unless why v (lease_plan v f t h)).told ≡ Ok e → (why ≡ None) × ((unless why v (lease_plan v f t h)).after ≡ put (entered f t h) v.entries)
    go None q o = elim (cases_Bool (leb v.limit (length v.entries))) [
      | inl a ↦ let x = rw a at o in let z : ◌≡◌ {A = ℕ} 0 1 = cc in absurd (omega arith)
      | inr a ↦ elim (cases_Bool (filled (sharing f t v.entries))) [
        | inl b ↦ let x = rw (a, b) at o in let z : ◌≡◌ {A = ℕ} 0 1 = cc in absurd (omega arith)
        | inr b ↦ (refl, rw (a, b) refl)
      ]
    ]
    go (Some r) q o = let z : ◌≡◌ {A = ℕ} 0 1 = cc in absurd (omega arith)

lease_told : (v : View) (f t h : ℕ) → unfit f t ≡ None → length v.entries < v.limit → Spaced v.entries → AllByRecursion (λ (x : Entry). end x < f) v.entries → (leasing v f t h).told ≡ Ok (entered f t h)
unfolding lease_plan
lease_told v f t h ok room s a =
    let free = none_sharing v.entries s f t (all_kept_by (λ x. leb x.key t) (λ (x : Entry). end x < f) v.entries a) in
    rw (ok, lt-leb v.limit (length v.entries) room, free) refl

-- ---- what an accepted record has added
pub record Added (u : BookView) (c : Command) (u' : BookView) : Type 0 where
  pub part : Part
  pub entry : Entry
  pub form_is : form part entry ≡ fields c
  pub entries : (look part u').entries ≡ put entry (look part u).entries
  pub kept : Kept part u u'

never : {A : Type 0} → false ≡ true → A
never e = absurd (false≢true e)

pub added : (u u' : BookView) (c : Command) (r : Answer) (o : Option Record) → Standing u → shut u ≡ false → in_turn o (fields c) ≡ true → Did u c r u' → (e : Entry) → r.outcome ≡ Ok e → Added u c u'
added u u' (AddName k n) r o s open' t d e acc =
    let is = book_plan_open u (AddName k n) open' in
    record {
      part = Names;
      entry = record { key = k; note = n };
      form_is = refl;
      entries = d.planned.entries ∙ ap (λ (p : Plan). p.after) is
          ∙ add_took u.names 56 k n e (part_limit Names u s open').1 s.names.wide (sym (ap (λ (p : Plan). p.told) is) ∙ sym d.planned.outcome ∙ acc);
      kept = d.kept;
    }
added u u' (RemoveName k) r o s open' t d e acc = never t
added u u' (FindName k) r o s open' t d e acc = never t
added u u' (NextName k) r o s open' t d e acc = never t
added u u' (Lease f l h) r o s open' t d e acc =
    let is = book_plan_open u (Lease f l h) open' in
    let both = lease_took u.leases f l h.number e (sym (ap (λ (p : Plan). p.told) is) ∙ sym d.planned.outcome ∙ acc) in
    let ends : end (entered f l h.number) ≡ l = end_is f l h.number (fit f l both.0) h.bounds.1 in
    let holds : holder_of (entered f l h.number) ≡ h.number = omega (arith, h.bounds.1) in
    record {
      part = Leases;
      entry = entered f l h.number;
      form_is = rw (ends, holds) refl;
      entries = d.planned.entries ∙ ap (λ (p : Plan). p.after) is ∙ both.1;
      kept = d.kept;
    }
added u u' (Release f h) r o s open' t d e acc = never t
added u u' (Who f) r o s open' t d e acc = never t
added u u' (AddEvent k n) r o s open' t d e acc =
    let is = book_plan_open u (AddEvent k n) open' in
    record {
      part = Events;
      entry = record { key = k; note = n };
      form_is = refl;
      entries = d.planned.entries ∙ ap (λ (p : Plan). p.after) is
          ∙ add_took u.events 48 k n e (part_limit Events u s open').1 s.events.wide (sym (ap (λ (p : Plan). p.told) is) ∙ sym d.planned.outcome ∙ acc);
      kept = d.kept;
    }
added u u' (RemoveEvent k) r o s open' t d e acc = never t
added u u' (Due m) r o s open' t d e acc = never t

-- ---- entries that a book can hold, and their records
abbrev pub Proper : Part → Entry → Type 0
Proper Names e = (e.key < 2 ^ 56) × (e.note < 2 ^ 64)
Proper Leases e = Noted e × (e.note < 2 ^ 64)
Proper Events e = (e.key < 2 ^ 48) × (e.note < 2 ^ 64)

pub within_form : (p : Part) (e : Entry) → Proper p e → Within (form p e)
within_form Names e h = record { code = omega arith; first = omega (arith, h.0); second = omega arith; note = h.1 }
within_form Leases e h = record { code = omega arith; first = omega (arith, h.0.small); second = omega (arith, h.0.small, h.1); note = omega arith }
within_form Events e h = record { code = omega arith; first = omega (arith, h.0); second = omega arith; note = h.1 }

pub command_for : (p : Part) (e : Entry) → Proper p e → (c : Command) × (fields c ≡ form p e)
command_for Names e h = (AddName e.key e.note, refl)
command_for Leases e h = (Lease e.key (end e) (record { number = holder_of e; bounds = (h.0.held, omega arith) }), refl)
command_for Events e h = (AddEvent e.key e.note, refl)

-- ---- all records, part by part
all_unmap : (P : Record → Type 0) (f : Entry → Record) (xs : List Entry) → AllByRecursion P (map f xs) → AllByRecursion (λ e. P (f e)) xs
all_unmap P f [] a = tt
all_unmap P f (x ∷ xs) a = (a.0, all_unmap P f xs a.1)

pub part_all : (P : Record → Type 0) (p : Part) (b : BookView) → AllByRecursion P (records b) → AllByRecursion (λ e. P (form p e)) (look p b).entries
part_all P Names b a = all_unmap P (form Names) b.names.entries (all_parts P (forms Names b.names.entries) (forms Leases b.leases.entries ++ forms Events b.events.entries) a).0
part_all P Leases b a =
    all_unmap P (form Leases) b.leases.entries
    (all_parts P (forms Leases b.leases.entries) (forms Events b.events.entries) (all_parts P (forms Names b.names.entries) (forms Leases b.leases.entries ++ forms Events b.events.entries) a).1).0
part_all P Events b a =
    all_unmap P (form Events) b.events.entries
    (all_parts P (forms Leases b.leases.entries) (forms Events b.events.entries) (all_parts P (forms Names b.names.entries) (forms Leases b.leases.entries ++ forms Events b.events.entries) a).1).1

-- a lease that stands has ends that fit
noted_fit : (e : Entry) → Noted e → unfit e.key (end e) ≡ None
unfolding unfit
noted_fit e n =
    let a : leb (2 ^ 32) e.key ≡ false = lt-leb (2 ^ 32) e.key n.small in
    let b : leb (2 ^ 32) (end e) ≡ false = lt-leb (2 ^ 32) (end e) (omega (arith, n.small, n.inside)) in
    let c : ltb (end e) e.key ≡ false = le-ltb (end e) e.key n.rises in
    let d : eqb (e.key / 2 ^ 24) (end e / 2 ^ 24) ≡ true = eq-eqb (e.key / 2 ^ 24) (end e / 2 ^ 24) (omega (arith, n.inside)) in
    rw (a, b, c, d) refl

pub granted : (p : Part) (e : Entry) (h : Proper p e) (u : BookView) → Standing u → shut u ≡ false → AllByRecursion (λ y. Before y (form p e)) (records u) → length (look p u).entries < 256 →
    (x : Entry) × ((book_plan u (command_for p e h).0).told ≡ Ok x)
unfolding command_for
granted Names e h u s open' a room =
    let under : Under e.key u.names.entries =
    All-weaker (λ (x : Entry). Before (form Names x) (form Names e)) (λ (x : Entry). x.key < e.key) (λ x b. omega (arith, b.rises)) u.names.entries (part_all (λ y. Before y (form Names e)) Names u a) in
    let lim = part_limit Names u s open' in (
      record { key = e.key; note = e.note },
      ap (λ (p : Plan). p.told) (book_plan_open u (AddName e.key e.note) open')
          ∙ add_told u.names 56 e.key e.note lim.1 s.names.wide h.0 (under_at e.key u.names.entries under) (omega (arith, lim.0)),
    )
granted Leases e h u s open' a room =
    let ended : AllByRecursion (λ (x : Entry). end x < e.key) u.leases.entries =
    All-weaker (λ (x : Entry). Before (form Leases x) (form Leases e)) (λ (x : Entry). end x < e.key) (λ x b. b.apart refl refl) u.leases.entries (part_all (λ y. Before y (form Leases e)) Leases u a) in
    let lim = part_limit Leases u s open' in (
      entered e.key (end e) (holder_of e),
      ap (λ (p : Plan). p.told) (book_plan_open u (command_for Leases e h).0 open')
          ∙ lease_told u.leases e.key (end e) (holder_of e) (noted_fit e h.0) (omega (arith, lim.0)) s.bounded.spaced ended,
    )
granted Events e h u s open' a room =
    let under : Under e.key u.events.entries =
    All-weaker (λ (x : Entry). Before (form Events x) (form Events e)) (λ (x : Entry). x.key < e.key) (λ x b. omega (arith, b.rises)) u.events.entries (part_all (λ y. Before y (form Events e)) Events u a) in
    let lim = part_limit Events u s open' in (
      record { key = e.key; note = e.note },
      ap (λ (p : Plan). p.told) (book_plan_open u (AddEvent e.key e.note) open')
          ∙ add_told u.events 48 e.key e.note lim.1 s.events.wide h.0 (under_at e.key u.events.entries under) (omega (arith, lim.0)),
    )
