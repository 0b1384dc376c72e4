use Rattle.std.proofs.Common.{◌≡◌, ℕ, ◌<◌, ◌≤◌, ◌++◌, length, drop, Ok, sym, refl, ap, ◌∙◌, arith}
use Rattle.saves.specs.Saves.{saved, too_long, kept}
use Rattle.saves.proofs.Saving.{length_saved, whole}
use Rattle.saves.proofs.save.save.Goals as goal

pub returns-then-count-out : goal.returns-then-count-out
returns-then-count-out g c =
    let b = g.B.Ledger.view c.args.book.now in
    let more : length c.args.out.now < length (saved b) = omega (arith, length_saved b, c.len.ensures, c.len-2.ensures, c.len-3.ensures) in
    too_long (sym c.is_shut.ensures ∙ c.if-is_shut.false) more refl refl

pub returns : goal.returns
returns g c =
    let b = g.B.Ledger.view c.args.book.now in
    let before = c.args.out.now in
    let n1 = c.write_part-names.result in
    let n2 = c.write_part-leases.result in
    let n3 = c.write_part.result in
    let size : n3 ≡ length (saved b) = omega (arith, length_saved b, c.write_part-names.ensures.place, c.write_part-leases.ensures.place, c.write_part.ensures.place) in
    let fits : length (saved b) ≤ length before = omega (arith, length_saved b, c.len.ensures, c.len-2.ensures, c.len-3.ensures) in
    let out =
    whole b before c.write_part-names.new.out c.write_part-leases.new.out c.write_part.new.out n1 n2 n3
    (c.write_part-names.ensures.place ∙ omega arith) c.write_part-leases.ensures.place c.write_part.ensures.place
    c.write_part-names.ensures.bytes c.write_part-leases.ensures.bytes c.write_part.ensures.bytes in
    kept (sym c.is_shut.ensures ∙ c.if-is_shut.false) fits (ap Ok size) (out ∙ ap (λ (n : ℕ). saved b ++ drop n before) size)
