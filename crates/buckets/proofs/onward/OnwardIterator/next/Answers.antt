use Rattle.std.proofs.Common.{length, subst, sym, ap, ◌∙◌, arith}
use Rattle.buckets.specs.Onwards.{coming}
use Rattle.buckets.proofs.Lays.{small}
use Rattle.buckets.proofs.Onwards.{at_held, Stepped, step}
use Rattle.buckets.proofs.onward.OnwardIterator.next.Goals as goal

pub next-next-requires : goal.next-next-requires
next-next-requires c =
    let o = c.args.self.now in
    small o.table.now c.in_ok-number.number (at_held o c.in_ok-number.number c.in_ok-number.was c.requires)

stepped : (c : goal.After-self-1) → Stepped c.args.self.now.table.now c.in_ok-number.number c.then_some-self.result
stepped c =
    let o = c.args.self.now in
    let n = c.in_ok-number.number in
    subst (Stepped o.table.now n) (sym c.then_some-self.ensures) (step o.table.now n c.next-next.result (at_held o n c.in_ok-number.was c.requires) c.next-next.ensures)

pub returns-clause-steps : goal.returns-clause-steps
returns-clause-steps c = ap (coming c.args.self.now.table.now) c.in_ok-number.was ∙ (stepped c).0

pub returns-clause-goes : goal.returns-clause-goes
returns-clause-goes c =
    let s = (stepped c).1 in
    record { on = λ _. (s, tt, omega (arith, ap length (returns-clause-steps c))); keeps = s; rests = λ _. tt }
