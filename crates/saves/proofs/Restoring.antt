-- A load of a save takes every record, and gives the same entries.
use Rattle.std.proofs.Common.{◌≡◌, ℕ, ◌+◌, ◌/◌, ◌^◌, ◌<◌, ◌≤◌, true, false, List, [], ◌∷◌, ◌++◌, map, length, get_or, take, Some, None, Ok, Err, filter, Option, sym, refl, ap, ◌∙◌, subst, arith, length-append, take_all}
use Rattle.std.specs.List.{AllByRecursion}
use Rattle.std.proofs.ByRecursion.{All-append, All-map, All-get_or, All-weaker}
use Rattle.std.proofs.lemmas.List.{take_more, length-map}
use Rattle.std.proofs.lemmas.Bool.{both_ways}
use Rattle.entry.specs.declared.Entry.{Entry}
use Rattle.entry.proofs.Orders.{all_parts}
use Rattle.ordered.specs.declared.calls.Answer.{Answer}
use Rattle.ordered.specs.declared.refusal.Refusal.{Refusal}
use Rattle.wire.specs.declared.record.Record.{Record}
use Rattle.wire.specs.declared.command.Command.{Command}
use Rattle.wire.specs.Records.{wire, Within}
use Rattle.wire.specs.Commands.{fields, plain}
use Rattle.wire.specs.Reading.{Spells, Unread, long, foreign}
use Rattle.wire.proofs.Weights.{wire_same}
use Rattle.wire.proofs.Holders.{fields_same}
use Rattle.leases.specs.Stretches.{Noted, Spaced}
use Rattle.book.specs.declared.part.Part.{Part}
use Rattle.book.specs.declared.part.Part.TheVariants.{Names, Leases, Events}
use Rattle.book.specs.Books.{BookView, look, shut, Standing, book_plan}
use Rattle.book.specs.Runs.{Turn, piece}
use Rattle.std.specs.Result.{result_err}
use Rattle.saves.specs.Loads.{Loaded, taken}
use Rattle.saves.specs.declared.load.Refused.{Refused}
use Rattle.saves.specs.Saves.{form, forms, records, saved}
use Rattle.saves.specs.Loads.{loadable, in_turn, empty, Turned, unread, out_of_turn, answered, Takes, start, more, Ends, TakesAll, SameEntries, Restored}
use Rattle.saves.proofs.Wires.{length_wires, piece_wires}
use Rattle.saves.proofs.Saving.{part_keys, part_few}
use Rattle.saves.proofs.Ranks.{rank, rank_of, rank_turn, Before, Climbing, climbing, earlier, of_part, kept_forms, entry_for, entries_again, kept_take}
use Rattle.saves.proofs.Accepting.{Proper, within_form, command_for, granted}
use Rattle.saves.proofs.Settling.{LastOf, nothing, this, Settled, settled, took_records}

-- ---- the records of a book that stands
pub record Good (x : Record) : Type 0 where
  pub part : Part
  pub entry : Entry
  pub is : x ≡ form part entry
  pub proper : Proper part entry

both : (P Q : Entry → Type 0) (xs : List Entry) → AllByRecursion P xs → AllByRecursion Q xs → AllByRecursion (λ e. P e × Q e) xs
both P Q [] a b = tt
both P Q (x ∷ xs) a b = ((a.0, b.0), both P Q xs a.1 b.1)

all_noted : (xs : List Entry) → Spaced xs → AllByRecursion Noted xs
all_noted [] s = tt
all_noted (x ∷ xs) s = (s.0, all_noted xs s.2)

good_forms : (p : Part) (xs : List Entry) → AllByRecursion (Proper p) xs → AllByRecursion Good (forms p xs)
good_forms p xs a = All-map Good (form p) xs (All-weaker (Proper p) (λ (e : Entry). Good (form p e)) (λ e h. record { part = p; entry = e; is = refl; proper = h }) xs a)

good : (b : BookView) → Standing b → AllByRecursion Good (records b)
good b s =
    let n = b.names.entries in
    let l = b.leases.entries in
    let e = b.events.entries in
    All-append Good (forms Names n) (forms Leases l ++ forms Events e)
    (good_forms Names n (both (λ (e : Entry). e.key < 2 ^ 56) (λ (e : Entry). e.note < 2 ^ 64) n s.names.keys s.names.notes))
    (All-append Good (forms Leases l) (forms Events e)
    (good_forms Leases l (both Noted (λ (e : Entry). e.note < 2 ^ 64) l (all_noted l s.bounded.spaced) s.leases.notes))
    (good_forms Events e (both (λ (e : Entry). e.key < 2 ^ 48) (λ (e : Entry). e.note < 2 ^ 64) e s.events.keys s.events.notes)))

form_loads : (p : Part) (e : Entry) → loadable (form p e).code ≡ true
form_loads Names e = refl
form_loads Leases e = refl
form_loads Events e = refl

form_part : (p : Part) (e : Entry) → of_part p (form p e) ≡ true
form_part Names e = refl
form_part Leases e = refl
form_part Events e = refl

positive : (p : Part) (e : Entry) → 0 < rank (form p e)
positive Names e = omega arith
positive Leases e = omega arith
positive Events e = omega arith

nowhere : Record
nowhere = plain 0 0 0

last_before : {o : Option Record} {rs : List Record} (x : Record) → LastOf o rs → AllByRecursion (λ y. Before y x) rs → 0 < rank x → rank_of o < rank x
last_before x nothing a h = h
last_before x (this zs y) a h = (all_parts (λ y. Before y x) zs (y ∷ []) a).1.0.rises

length_none : (xs : List Record) → length xs ≡ 0 → xs ≡ []
length_none [] e = refl
length_none (x ∷ xs) e = absurd (omega arith)

same_records : (a b : BookView) → records a ≡ records b → SameEntries b a
same_records a b e =
    record {
      names = sym (entries_again Names a) ∙ ap (λ (rs : List Record). map (entry_for Names) (filter (of_part Names) rs)) e ∙ entries_again Names b;
      leases = sym (entries_again Leases a) ∙ ap (λ (rs : List Record). map (entry_for Leases) (filter (of_part Leases) rs)) e ∙ entries_again Leases b;
      events = sym (entries_again Events a) ∙ ap (λ (rs : List Record). map (entry_for Events) (filter (of_part Events) rs)) e ∙ entries_again Events b;
    }

-- ---- a load of a save
module _ (other : BookView) (so : Standing other) (oo : shut other ≡ false) where
  all : List Record
  all = records other

  at : ℕ → Record
  at n = get_or all n nowhere

  climbs : Climbing all
  unfolding all
  climbs = climbing other so.names.rising so.bounded.spaced so.events.rising (part_keys Names other so) (part_keys Leases other so)

  good_at : (n : ℕ) → n < length all → Good (at n)
  unfolding all at
  good_at n h = All-get_or Good (records other) n nowhere h (good other so)

  within_at : (n : ℕ) → n < length all → Within (at n)
  within_at n h = let g = good_at n h in subst Within (sym g.is) (within_form g.part g.entry g.proper)

  piece_at : (n : ℕ) → n < length all → piece (saved other) n ≡ wire (at n)
  unfolding all at
  piece_at n h = piece_wires (records other) n nowhere h

  -- the command read is that of the record
  same_fields : (n : ℕ) (c : Command) → n < length all → Spells (piece (saved other) n) c → fields c ≡ at n
  same_fields n c h s = wire_same (fields c) (at n) s.within (within_at n h) (sym s.bytes ∙ piece_at n h)

  module _ (b : BookView) (ob : shut b ≡ false) (eb : empty b ≡ true) where
    -- the records taken are the first ones of the save
    front : {ts : List Turn} {o : Option Record} {u : BookView} → Takes b (saved other) ts o u → length ts ≤ length all → records u ≡ take (length ts) all
    unfolding all at
    front start h = let s : Settled (saved other) [] None b = settled ob eb start in length_none (records b) s.count
    front (more {ts} {o} {u} {b'} {c} {r} l t) h =
        let n = length ts in
        let now : Turn = record { bytes = piece (saved other) n; answer = r } in
        let long : length (ts ++ (now ∷ [])) ≡ n + 1 = length-append ts (now ∷ []) in
        let lt : n < length (records other) = omega arith in
        took_records u (saved other) ts o (piece (saved other) n) c r b' (settled ob eb l) t
        ∙ ap (λ (rs : List Record). rs ++ (fields c ∷ [])) (front l (omega arith)) ∙ ap (λ (x : Record). take n (records other) ++ (x ∷ [])) (same_fields n c lt t.spelt)
        ∙ sym (take_more (records other) n nowhere lt) ∙ ap (λ (k : ℕ). take k (records other)) (sym long)

    module _ (ts : List Turn) (o : Option Record) (u : BookView) (l : Takes b (saved other) ts o u) (su : Standing u) where
      so_far : Settled (saved other) ts o u
      so_far = settled ob eb l

      module _ (h : length ts < length all) where
        x : Record
        x = at (length ts)

        before_it : AllByRecursion (λ y. Before y x) (records u)
        unfolding all at x
        before_it = rw (front l (omega arith)) (earlier (records other) (length ts) nowhere climbs h)

        room : length (look (good_at (length ts) h).part u).entries < 256
        unfolding all at
        room =
            let g = good_at (length ts) h in
            let mine : length (filter (of_part g.part) (records u)) ≡ length (look g.part u).entries = ap length (kept_forms g.part u) ∙ length-map (look g.part u).entries (form g.part) in
            let theirs : length (filter (of_part g.part) (records other)) ≡ length (look g.part other).entries =
            ap length (kept_forms g.part other) ∙ length-map (look g.part other).entries (form g.part) in
            let part : of_part g.part (get_or (records other) (length ts) nowhere) ≡ true = ap (of_part g.part) g.is ∙ form_part g.part g.entry in
            let less = kept_take (of_part g.part) (records other) (length ts) nowhere h part in
            let is : length (filter (of_part g.part) (records u)) ≡ length (filter (of_part g.part) (take (length ts) (records other))) =
            ap (λ (rs : List Record). length (filter (of_part g.part) rs)) (front l (omega arith)) in
            omega (arith, part_few g.part other so oo)

        in_order : in_turn o x ≡ true
        unfolding x
        in_order =
            let g = good_at (length ts) h in
            let loads : loadable (at (length ts)).code ≡ true = ap (λ (r : Record). loadable r.code) g.is ∙ form_loads g.part g.entry in
            let some : 0 < rank (at (length ts)) = rw g.is (positive g.part g.entry) in
            rank_turn o (at (length ts)) so_far.short (within_at (length ts) h).first loads (last_before (at (length ts)) so_far.last before_it some)

        readable : (e : Refusal) → Unread (piece (saved other) (length ts)) e → ⊥
        readable e (long ne z) = ne (ap length (piece_at (length ts) h))
        readable e (foreign l f z) =
            let g = good_at (length ts) h in
            let c = command_for g.part g.entry g.proper in
            let is : fields c.0 ≡ at (length ts) = c.1 ∙ sym g.is in
            f c.0 (record { bytes = piece_at (length ts) h ∙ ap wire (sym is); within = subst Within (sym is) (within_at (length ts) h) })

        not_refused : (e : Refusal) (r : Answer) (b' : BookView) → Turned u o (piece (saved other) (length ts)) e r b' → ⊥
        unfolding x
        not_refused e r b' (unread w) = readable e w
        not_refused e r b' (out_of_turn c s t z) =
            both_ways (in_turn o (fields c)) t (ap (in_turn o) (same_fields (length ts) c h s) ∙ in_order)
        not_refused e r b' (answered c s t d z) =
            let g = good_at (length ts) h in
            let k = command_for g.part g.entry g.proper in
            let is : c ≡ k.0 = fields_same c k.0 (same_fields (length ts) c h s ∙ g.is ∙ sym k.1) in
            let a : AllByRecursion (λ y. Before y (form g.part g.entry)) (records u) = rw g.is at before_it in
            let ok = granted g.part g.entry g.proper u su so_far.unshut a room in
            let told : (book_plan u c).told ≡ Ok ok.0 = ap (λ (c : Command). (book_plan u c).told) is ∙ ok.1 in
            let err : (book_plan u c).told ≡ Err e = sym d.planned.outcome ∙ z in
            let contra : ◌≡◌ {A = ℕ} 0 1 = cc in
            omega arith

    pub restored : (l : Loaded) (b' : BookView) → TakesAll b (saved other) l b' → Restored other l b'
    unfolding all
    restored l b' t =
        let done = go (result_err l) t.ends in
        record { accepted = done.0; taken = t.taken ∙ done.1; same = done.2 }
      where
        size : length (saved other) / 32 ≡ length (records other)
        size = omega (arith, length_wires (records other))

        go : (x : Option Refused) → Ends (saved other) t.turns x t.last t.met t.tried b' → (x ≡ None) × (length t.turns ≡ length (records other)) × SameEntries other b'
        go None e =
            let n : length t.turns ≡ length (records other) = e.0 ∙ size in
            let is : records b' ≡ records other = ap records e.2 ∙ front t.takes (omega arith) ∙ take_all (length t.turns) (records other) (omega arith) in
            (refl, n, same_records b' other is)
        go (Some x) e = absurd (not_refused t.turns t.last t.met t.takes t.stands (omega (arith, size, e.0)) x.refusal e.2.0 b' e.2.1)
