-- The frames of commands, summed.
--
--   Adds            what some commands add to the tallies
--   adds_none, adds_then   nothing done; one run after another
--   adds_frames, frames_adds   the law from it, and back
--   did_adds        a command that is obeyed
--   served_adds     any bytes
use Rattle.std.proofs.Common.{◌≡◌, ℕ, ◌+◌, ◌*◌, ◌^◌, ◌<◌, ◌≤◌, List, length, Ok, Err, Result, sym, ap, ◌∙◌, inl, inr, arith}
use Rattle.std.proofs.lemmas.Bool.{cases_Bool}
use Rattle.entry.specs.declared.Entry.{Entry}
use Rattle.ordered.specs.declared.calls.Answer.{Answer}
use Rattle.ordered.specs.declared.refusal.Refusal.{Refusal}
use Rattle.ordered.specs.Meaning.{View}
use Rattle.wire.specs.declared.command.Command.{Command}
use Rattle.wire.specs.Commands.{fields, changing}
use Rattle.wire.specs.Reading.{code_of}
use Rattle.wire.proofs.Codes.{code_spelt}
use Rattle.ordered.specs.Answers.{no_of}
use Rattle.leases.specs.Plans.{Plan, Planned}
use Rattle.leases.specs.Commands.{change}
use Rattle.leases.proofs.Counting.{no_change}
use Rattle.book.specs.declared.part.Part.{Part}
use Rattle.book.specs.declared.part.Part.TheVariants.{Names, Leases, Events}
use Rattle.book.specs.Books.{BookView, look, part_of, Kept, Did, book_plan}
use Rattle.book.specs.Serving.{Served, turned, unread, obeyed}
use Rattle.book.specs.Runs.{tallies, credits, Frames}
use Rattle.book.proofs.Obeying.{book_sized}

-- ---- what one step adds; a change is a try too
pub record Adds (b : BookView) (f n c : ℕ) (b' : BookView) : Type 0 where
  pub exact : tallies b + f < 2 ^ 64 → tallies b' ≡ tallies b + f
  pub few : f + credits b' ≤ 14 * n + credits b + 9 * c
  pub changes : c ≤ n

pub adds_none : (b : BookView) → Adds b 0 0 0 b
adds_none b = record { exact = λ _. omega arith; few = omega arith; changes = omega arith }

pub adds_then : {b u b' : BookView} {f n c f' n' c' : ℕ} → Adds b f n c u → Adds u f' n' c' b' → Adds b (f + f') (n + n') (c + c') b'
adds_then {b} {u} {b'} {f} {n} {c} {f'} {n'} {c'} a d =
    record {
      exact = λ small. let h = a.exact (omega arith) in omega (arith, d.exact (omega arith));
      few = omega (arith, a.few, d.few);
      changes = omega (arith, a.changes, d.changes);
    }

pub adds_frames : {b b' : BookView} {f n c : ℕ} → Adds b f n c b' → Frames b f n c b'
adds_frames {b} {b'} {f} {n} {c} a =
    record {
      exact = a.exact;
      few = a.few;
      each = a.changes;
      new = λ fresh small.
          let few : f ≤ 14 * n + 9 * c = omega (arith, a.few, fresh.names.credit, fresh.leases.credit, fresh.events.credit) in
          let low : tallies b ≤ 366 = omega (arith, fresh.names.tally, fresh.leases.tally, fresh.events.tally) in
          let sum : tallies b + f < 2 ^ 64 = omega (arith, few, low, small, a.changes) in
          let is = a.exact sum in
          record { exact = is; few = few; below = (omega (arith, is, few, low, small, a.changes), omega (arith, is, few, low, small, a.changes), omega (arith, is, few, low, small, a.changes)) };
    }

pub frames_adds : {b b' : BookView} {f n c : ℕ} → Frames b f n c b' → Adds b f n c b'
frames_adds a = record { exact = a.exact; few = a.few; changes = a.each }

-- ---- one command
change_one : (code : ℕ) (o : Result Entry Refusal) → change code o ≤ 1
change_one code (Ok e) = elim (cases_Bool (changing code)) [ inl t ↦ rw t (omega arith) | inr t ↦ rw t (omega arith) ]
change_one code (Err e) = omega (arith, no_change code e)

adds_by : (p : Part) (b b' : BookView) (q : Plan) (r : Answer) (n : ℕ) → Planned (look p b) q r (look p b') → Kept p b b' → length q.calls ≤ 2 → q.changes ≡ n → n ≤ 1 → Adds b r.frames 1 n b'
adds_by Names b b' q r n d k few e one =
    let e1 : b'.leases.tally ≡ b.leases.tally = ap (λ (v : View). v.tally) k.0 in
    let e2 : b'.events.tally ≡ b.events.tally = ap (λ (v : View). v.tally) k.1 in
    let f1 : b'.leases.credit ≡ b.leases.credit = ap (λ (v : View). v.credit) k.0 in
    let f2 : b'.events.credit ≡ b.events.credit = ap (λ (v : View). v.credit) k.1 in
    record { exact = λ small. omega (arith, d.tally); few = omega (arith, d.paid); changes = one }
adds_by Leases b b' q r n d k few e one =
    let e1 : b'.names.tally ≡ b.names.tally = ap (λ (v : View). v.tally) k.0 in
    let e2 : b'.events.tally ≡ b.events.tally = ap (λ (v : View). v.tally) k.1 in
    let f1 : b'.names.credit ≡ b.names.credit = ap (λ (v : View). v.credit) k.0 in
    let f2 : b'.events.credit ≡ b.events.credit = ap (λ (v : View). v.credit) k.1 in
    record { exact = λ small. omega (arith, d.tally); few = omega (arith, d.paid); changes = one }
adds_by Events b b' q r n d k few e one =
    let e1 : b'.names.tally ≡ b.names.tally = ap (λ (v : View). v.tally) k.0 in
    let e2 : b'.leases.tally ≡ b.leases.tally = ap (λ (v : View). v.tally) k.1 in
    let f1 : b'.names.credit ≡ b.names.credit = ap (λ (v : View). v.credit) k.0 in
    let f2 : b'.leases.credit ≡ b.leases.credit = ap (λ (v : View). v.credit) k.1 in
    record { exact = λ small. omega (arith, d.tally); few = omega (arith, d.paid); changes = one }

pub did_adds : (b : BookView) (c : Command) (r : Answer) (b' : BookView) → Did b c r b' → Adds b r.frames 1 (change (fields c).code r.outcome) b'
did_adds b c r b' d =
    let size = book_sized b c in
    let n : (book_plan b c).changes ≡ change (fields c).code r.outcome = size.changes ∙ ap (change (fields c).code) (sym d.planned.outcome) in
    adds_by (part_of c) b b' (book_plan b c) r (change (fields c).code r.outcome) d.planned d.kept size.few n (change_one (fields c).code r.outcome)

pub adds_away : (b b' : BookView) (code : ℕ) (r : Answer) (e : Refusal) → r ≡ no_of e 0 0 → b' ≡ b → Adds b r.frames 1 (change code r.outcome) b'
adds_away b b' code r e i k =
    let f : r.frames ≡ 0 = ap (λ (a : Answer). a.frames) i in
    let n : change code r.outcome ≡ 0 = ap (λ (a : Answer). change code a.outcome) i ∙ no_change code e in
    let t : tallies b' ≡ tallies b = ap tallies k in
    let d : credits b' ≡ credits b = ap credits k in
    record { exact = λ _. omega arith; few = omega arith; changes = omega arith }

pub served_adds : {b b' : BookView} {bs : List ℕ} {r : Answer} → Served b bs r b' → Adds b r.frames 1 (change (code_of bs) r.outcome) b'
served_adds {b} {b'} {bs} {r} (turned s i k) = adds_away b b' (code_of bs) r _ i k
served_adds {b} {b'} {bs} {r} (unread e o u i k) = adds_away b b' (code_of bs) r e i k
served_adds {b} {b'} {bs} {r} (obeyed c o s d) = rw (code_spelt bs c s) (did_adds b c r b' d)
