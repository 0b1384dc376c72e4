use Rattle.std.proofs.Common.{sym, ◌∙◌, arith}
use Rattle.digits.proofs.Order.{differ_at, differ_nowhere}
use Rattle.key.proofs.name.NameKey.is_before.Goals as goal

pub returns-then-self-i : goal.returns-then-self-i
returns-then-self-i c =
    let a = c.args.self.now in
    let b = c.args.other.now in
    sym (differ_at a.bytes b.bytes c.loop-i.i (a.long ∙ sym b.long) (omega (arith, a.long)) c.loop-i.invariant c.if-self-i.true)

pub returns : goal.returns
returns c =
    let a = c.args.self.now in
    let b = c.args.other.now in
    sym (differ_nowhere a.bytes b.bytes (a.long ∙ sym b.long) (λ j h. c.loop-i.invariant j (omega (arith, a.long))))
