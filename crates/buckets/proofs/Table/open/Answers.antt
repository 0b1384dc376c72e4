use Rattle.std.proofs.Common.{refl, arith}
use Rattle.buckets.proofs.Lays.{small, next_small, free_small, free_new, opened_stands, opened_shows}
use Rattle.buckets.proofs.Table.open.Goals as goal

pub next-next-requires : goal.next-next-requires
next-next-requires c = small c.args.self.now c.args.before c.requires.behind

pub next-self-requires : goal.next-self-requires
next-self-requires c = free_small c.args.self.now c.requires.room

pub bounds-self-number : goal.bounds-self-number
bounds-self-number c = free_small c.args.self.now c.requires.room

pub bounds-self-before : goal.bounds-self-before
bounds-self-before c = small c.args.self.now c.args.before c.requires.behind

pub bounds-self-next : goal.bounds-self-next
bounds-self-next c = omega (arith, c.next-next.ensures, next_small c.args.self.now c.args.before c.requires.behind)

pub invariant_of-self : goal.invariant_of-self
invariant_of-self c = record { stands = opened_stands c.args.self.now c.args.before c.args.rep c.next-next.result c.next-self.result c.requires.behind c.requires.room c.next-next.ensures c.next-self.ensures }

pub returns-clause-new : goal.returns-clause-new
returns-clause-new c = free_new c.args.self.now c.requires.room

pub returns-clause-shows : goal.returns-clause-shows
returns-clause-shows c = opened_shows c.args.self.now c.args.before c.args.rep c.next-next.result c.next-self.result c.requires.behind c.requires.room c.next-next.ensures c.next-self.ensures _ refl refl
