use Rattle.std.proofs.Common.{sym, subst}
use Rattle.links.proofs.Orders.{all_among}
use Rattle.buckets.specs.Tables.{root_of, order_of}
use Rattle.buckets.proofs.Lays.{small}
use Rattle.trees.specs.Pools.{Standing}
use Rattle.yfast.proofs.look.look_up.Goals as goal

pub root-root-requires : goal.root-root-requires
root-root-requires g c = small c.args.inside.now.grove.table c.locate-at.result.number c.locate-at.ensures.held

pub find-requires : goal.find-requires
find-requires g c =
    let i = c.args.inside.now in
    subst (Standing i.grove.pool.nodes) (sym c.root-root.ensures)
    (all_among (λ n. Standing i.grove.pool.nodes (root_of i.grove.table n)) (order_of i.grove.table) c.locate-at.result.number i.grove.forest.trees c.locate-at.ensures.held)
