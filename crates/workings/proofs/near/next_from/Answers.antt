use Rattle.std.proofs.Common.{sym, ◌∙◌, inl, inr, arith}
use Rattle.buckets.proofs.Lays.{small, next_small}
use Rattle.inside.proofs.Near.{here_stands, next_stands, few_visits, above_here, above_end, above_there}
use Rattle.workings.proofs.near.next_from.Goals as goal

pub root-root-requires : goal.root-root-requires
root-root-requires c =
    let t = c.args.grove.now.table in
    small t c.args.number c.requires

pub next-here-requires : goal.next-here-requires
next-here-requires c =
    let i = c.args.grove.now in
    here_stands i.table i.pool c.args.grove.now.forest c.args.number c.requires c.root-root.result c.root-root.ensures

pub next-behind-requires : goal.next-behind-requires
next-behind-requires c =
    let t = c.args.grove.now.table in
    small t c.args.number c.requires

pub returns-then-is_some : goal.returns-then-is_some
returns-then-is_some c pre post is =
    let i = c.args.grove.now in
    elim c.then-is_some.either [
      | inl e ↦ above_here i.table i.pool c.args.grove.now.forest c.args.number c.args.key pre post is c.next-here.result c.root-root.result c.root-root.ensures c.next-here.ensures (sym c.is_some.ensures ∙ e)
      | inr e ↦ above_end i.table i.pool c.args.grove.now.forest c.args.number c.args.key pre post is c.next-here.result c.root-root.result c.next-behind.result c.root-root.ensures c.next-here.ensures c.next-behind.ensures e.1
    ]

pub root-other-requires : goal.root-other-requires
root-other-requires c =
    let t = c.args.grove.now.table in
    omega (arith, c.next-behind.ensures, next_small t c.args.number c.requires)

pub first_entry-there-requires : goal.first_entry-there-requires
first_entry-there-requires c =
    let i = c.args.grove.now in
    next_stands i.table i.pool c.args.grove.now.forest c.args.number c.requires c.next-behind.result c.root-other.result c.next-behind.ensures c.root-other.ensures

pub overflow_add-result : goal.overflow_add-result
overflow_add-result c =
    let i = c.args.grove.now in
    let a = here_stands i.table i.pool c.args.grove.now.forest c.args.number c.requires c.root-root.result c.root-root.ensures in
    let b = next_stands i.table i.pool c.args.grove.now.forest c.args.number c.requires c.next-behind.result c.root-other.result c.next-behind.ensures c.root-other.ensures in
    let few = few_visits i.pool c.root-root.result c.root-other.result c.next-here.result.visits c.first_entry-there.result.visits a b c.next-here.ensures.few c.first_entry-there.ensures.few in
    omega (arith, few)

pub returns : goal.returns
returns c pre post is =
    let i = c.args.grove.now in
    above_there i.table i.pool c.args.grove.now.forest c.args.number c.args.key pre post is c.next-here.result c.first_entry-there.result c.root-root.result c.next-behind.result c.root-other.result
    c.root-root.ensures c.next-here.ensures (sym c.is_some.ensures ∙ c.if-is_some.false) c.next-behind.ensures c.if-behind-eq0.false c.root-other.ensures c.first_entry-there.ensures
