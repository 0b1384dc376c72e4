use Rattle.std.proofs.Common.{◌<◌, sym, ◌∙◌, inl, inr, arith}
use Rattle.buckets.proofs.Lays.{small, prev_small}
use Rattle.inside.proofs.Near.{here_stands, prev_stands, few_visits, below_here, below_end, below_there}
use Rattle.workings.proofs.near.last_from.Goals as goal

pub root-root-requires : goal.root-root-requires
root-root-requires c =
    let t = c.args.grove.now.table in
    small t c.args.number c.requires

pub last-here-requires : goal.last-here-requires
last-here-requires c =
    let i = c.args.grove.now in
    here_stands i.table i.pool c.args.grove.now.forest c.args.number c.requires c.root-root.result c.root-root.ensures

pub returns-then-is_some : goal.returns-then-is_some
returns-then-is_some c pre post is =
    let i = c.args.grove.now in
    elim c.then-is_some.either [
      | inl e ↦ below_here i.table i.pool c.args.grove.now.forest c.args.number c.args.key pre post is c.last-here.result c.root-root.result c.root-root.ensures c.last-here.ensures (sym c.is_some.ensures ∙ e)
      | inr e ↦ below_end i.table i.pool c.args.grove.now.forest c.args.number c.args.key pre post is c.last-here.result c.root-root.result c.root-root.ensures c.last-here.ensures e.1
    ]

pub prev-before-requires : goal.prev-before-requires
prev-before-requires c =
    let t = c.args.grove.now.table in
    small t c.args.number c.requires

pub root-other-requires : goal.root-other-requires
root-other-requires c =
    let t = c.args.grove.now.table in
    let h : 0 < c.args.number = omega (arith, c.if-number-eq0.false) in
    omega (arith, c.prev-before.ensures, prev_small t c.args.number h c.requires)

pub last_entry-there-requires : goal.last_entry-there-requires
last_entry-there-requires c =
    let i = c.args.grove.now in
    let h : 0 < c.args.number = omega (arith, c.if-number-eq0.false) in
    prev_stands i.table i.pool c.args.grove.now.forest c.args.number c.requires c.prev-before.result c.root-other.result h c.prev-before.ensures c.root-other.ensures

pub overflow_add-result : goal.overflow_add-result
overflow_add-result c =
    let i = c.args.grove.now in
    let h : 0 < c.args.number = omega (arith, c.if-number-eq0.false) in
    let a = here_stands i.table i.pool c.args.grove.now.forest c.args.number c.requires c.root-root.result c.root-root.ensures in
    let b = prev_stands i.table i.pool c.args.grove.now.forest c.args.number c.requires c.prev-before.result c.root-other.result h c.prev-before.ensures c.root-other.ensures in
    let few = few_visits i.pool c.root-root.result c.root-other.result c.last-here.result.visits c.last_entry-there.result.visits a b c.last-here.ensures.few c.last_entry-there.ensures.few in
    omega (arith, few)

pub returns : goal.returns
returns c pre post is =
    let i = c.args.grove.now in
    let h : 0 < c.args.number = omega (arith, c.if-number-eq0.false) in
    below_there i.table i.pool c.args.grove.now.forest c.args.number c.args.key pre post is c.last-here.result c.last_entry-there.result c.root-root.result c.prev-before.result c.root-other.result
    c.root-root.ensures c.last-here.ensures (sym c.is_some.ensures ∙ c.if-is_some.false) h c.prev-before.ensures c.root-other.ensures c.last_entry-there.ensures
