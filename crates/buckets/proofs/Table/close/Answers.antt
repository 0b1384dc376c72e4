use Rattle.std.proofs.Common.{refl, arith}
use Rattle.buckets.proofs.Lays.{small, next_small, prev_small, closed_stands, closed_shows}
use Rattle.buckets.proofs.Table.close.Goals as goal

pub prev-prev-requires : goal.prev-prev-requires
prev-prev-requires c = small c.args.self.now c.args.number c.requires.held

pub next-next-requires : goal.next-next-requires
next-next-requires c = small c.args.self.now c.args.number c.requires.held

pub bounds-self-prev : goal.bounds-self-prev
bounds-self-prev c = omega (arith, c.prev-prev.ensures, prev_small c.args.self.now c.args.number c.requires.later c.requires.held)

pub bounds-self-next : goal.bounds-self-next
bounds-self-next c = omega (arith, c.next-next.ensures, next_small c.args.self.now c.args.number c.requires.held)

pub bounds-self-number : goal.bounds-self-number
bounds-self-number c = small c.args.self.now c.args.number c.requires.held

pub invariant_of-self : goal.invariant_of-self
invariant_of-self c =
    let t = c.args.self.now in
    record { stands = closed_stands t c.args.number c.prev-prev.result c.next-next.result _ c.requires.held c.requires.later c.prev-prev.ensures c.next-next.ensures (omega (arith, t.stands.count)) }

pub returns : goal.returns
returns c =
    let t = c.args.self.now in
    closed_shows t c.args.number c.prev-prev.result c.next-next.result _ c.requires.held c.requires.later c.prev-prev.ensures c.next-next.ensures (omega (arith, t.stands.count)) _ refl refl
