-- From a plan carried out on one index to a command done on the book.
--
--   stands          what always holds, from what holds of each index
--   refused-did     a command refused before the first frame
--   planned-did     a command carried out on its index
--   names_bounded, leases_bounded, events_bounded   what a book keeps, as one index steps on
use Rattle.std.proofs.Common.{◌≡◌, Bool, true, false, cond, [], Some, None, Err, Option, sym, refl, ap, ◌∙◌, subst, arith}
use Rattle.ordered.specs.declared.calls.Answer.{Answer}
use Rattle.ordered.specs.declared.refusal.Refusal.{Refusal}
use Rattle.ordered.specs.declared.refusal.Refusal.TheVariants.{Shut}
use Rattle.ordered.specs.Meaning.{View}
use Rattle.wire.specs.declared.command.Command.{Command}
use Rattle.wire.specs.Commands.{fields}
use Rattle.ordered.specs.Answers.{no_of}
use Rattle.leases.specs.Plans.{Plan, Planned, turned_away, unless}
use Rattle.leases.specs.Checks.{early}
use Rattle.leases.specs.Stretches.{Spaced}
use Rattle.leases.specs.Commands.{plan, commanded, change}
use Rattle.leases.proofs.Planning.{Seven, refuse_early}
use Rattle.leases.proofs.Carrying.{seven}
use Rattle.leases.proofs.Counting.{Sized, sized, shut_sized, no_change}
use Rattle.book.specs.declared.part.Part.{Part}
use Rattle.book.specs.declared.part.Part.TheVariants.{Names, Leases, Events}
use Rattle.book.specs.Books.{BookView, view_of, look, part_of, shut, Bounded, Standing, book_plan, Kept, Did}

-- ---- one of the three indexes
pub part_seven : (p : Part) (b : BookView) → Standing b → Seven (look p b)
part_seven Names b s = seven 56 b.names (omega arith) (omega arith) s.names
part_seven Leases b s = seven 32 b.leases (omega arith) (omega arith) s.leases
part_seven Events b s = seven 48 b.events (omega arith) (omega arith) s.events

kept_self : (p : Part) (b : BookView) → Kept p b b
kept_self Names b = (refl, refl)
kept_self Leases b = (refl, refl)
kept_self Events b = (refl, refl)

-- ---- every plan of the book
pub book_sized : (b : BookView) (c : Command) → Sized (look (part_of c) b) (fields c).code (book_plan b c)
book_sized b c = go (shut b)
  where
    go : (t : Bool) → Sized (look (part_of c) b) (fields c).code (cond t (turned_away Shut [] (look (part_of c) b)) (commanded (look (part_of c) b) c))
    go true = shut_sized (look (part_of c) b) c Shut
    go false = sized (look (part_of c) b) c

pub did : (b : BookView) (c : Command) (r : Answer) (b' : BookView) → Planned (look (part_of c) b) (book_plan b c) r (look (part_of c) b') → Kept (part_of c) b b' → Did b c r b'
did b c r b' p k =
    let size = book_sized b c in
    record {
      planned = p;
      kept = k;
      refusal = λ e o.
          let told : (book_plan b c).told ≡ Err e = sym p.outcome ∙ o in
          let none : (book_plan b c).changes ≡ 0 = size.changes ∙ ap (change (fields c).code) told ∙ no_change (fields c).code e in
          (p.entries ∙ size.kept e told, (p.still none).1);
    }

pub did_shut : (b : BookView) (c : Command) (r : Answer) (b' : BookView) → Did b c r b' → shut b' ≡ shut b
did_shut b c r b' d = go (part_of c) d.planned.shut d.kept
  where
    go : (p : Part) → (look p b').shut ≡ (look p b).shut → Kept p b b' → shut b' ≡ shut b
    go Names e k = rw (e, ap (λ (v : View). v.shut) k.0, ap (λ (v : View). v.shut) k.1) refl
    go Leases e k = rw (e, ap (λ (v : View). v.shut) k.0, ap (λ (v : View). v.shut) k.1) refl
    go Events e k = rw (e, ap (λ (v : View). v.shut) k.0, ap (λ (v : View). v.shut) k.1) refl

-- ---- on the way to a command
pub refused_shut : (b : BookView) (c : Command) → Standing b → shut b ≡ true → Did b c (no_of Shut 0 0) b
refused_shut b c s e =
    let P : Bool → Type 0 = λ t. Planned (look (part_of c) b) (cond t (turned_away Shut [] (look (part_of c) b)) (commanded (look (part_of c) b) c)) (no_of Shut 0 0) (look (part_of c) b) in
    did b c (no_of Shut 0 0) b (subst P (sym e) (refuse_early (look (part_of c) b) Shut (part_seven (part_of c) b s))) (kept_self (part_of c) b)

pub book_plan_open : (b : BookView) (c : Command) → shut b ≡ false → book_plan b c ≡ commanded (look (part_of c) b) c
book_plan_open b c e = ap (λ (t : Bool). cond t (turned_away Shut [] (look (part_of c) b)) (commanded (look (part_of c) b) c)) e

pub refused_early : (b : BookView) (c : Command) (e : Refusal) → Standing b → shut b ≡ false → early c ≡ Some e → Did b c (no_of e 0 0) b
refused_early b c e s o h =
    let v = look (part_of c) b in
    let P : Plan → Type 0 = λ p. Planned v p (no_of e 0 0) v in
    let Q : Option Refusal → Type 0 = λ why. Planned v (unless why v (plan v c)) (no_of e 0 0) v in
    did b c (no_of e 0 0) b (subst P (sym (book_plan_open b c o)) (subst Q (sym h) (refuse_early v e (part_seven (part_of c) b s)))) (kept_self (part_of c) b)

pub carried : (b : BookView) (c : Command) (r : Answer) (b' : BookView) → shut b ≡ false → early c ≡ None → Planned (look (part_of c) b) (plan (look (part_of c) b) c) r (look (part_of c) b') →
    Kept (part_of c) b b' → Did b c r b'
carried b c r b' o h p k =
    let v = look (part_of c) b in
    let P : Plan → Type 0 = λ q. Planned v q r (look (part_of c) b') in
    let Q : Option Refusal → Type 0 = λ why. Planned v (unless why v (plan v c)) r (look (part_of c) b') in
    did b c r b' (subst P (sym (book_plan_open b c o)) (subst Q (sym h) p)) k

-- ---- what a book keeps
pub names_bounded : (b : BookView) (v : View) (p : Plan) (r : Answer) → Bounded b → Planned b.names p r v → Bounded (view_of v b.leases b.events)
names_bounded b v p r s d = record { names = λ e. d.limit ∙ s.names (sym d.shut ∙ e); leases = s.leases; events = s.events; spaced = s.spaced }

pub leases_bounded : (b : BookView) (v : View) (p : Plan) (r : Answer) → Bounded b → Planned b.leases p r v → Spaced v.entries → Bounded (view_of b.names v b.events)
leases_bounded b v p r s d sp = record { names = s.names; leases = λ e. d.limit ∙ s.leases (sym d.shut ∙ e); events = s.events; spaced = sp }

pub events_bounded : (b : BookView) (v : View) (p : Plan) (r : Answer) → Bounded b → Planned b.events p r v → Bounded (view_of b.names b.leases v)
events_bounded b v p r s d = record { names = s.names; leases = s.leases; events = λ e. d.limit ∙ s.events (sym d.shut ∙ e); spaced = s.spaced }

-- ---- a command, known by its case
pub moved : (b b' : BookView) (c k : Command) (r : Answer) → c ≡ k → shut b ≡ false → early c ≡ None → Planned (look (part_of k) b) (plan (look (part_of k) b) k) r (look (part_of k) b') →
    Kept (part_of k) b b' → Did b c r b'
moved b b' c k r is o h p kept =
    let D : Command → Type 0 = λ d. Did b d r b' in
    subst D (sym is) (carried b k r b' o (ap early (sym is) ∙ h) p kept)
