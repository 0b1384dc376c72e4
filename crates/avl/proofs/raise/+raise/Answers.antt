use Rattle.std.proofs.Common.{length, sym, subst, arith}
use Rattle.trees.specs.Pools.{tree_at}
use Rattle.avl.specs.Builds.{Built}
use Rattle.avl.proofs.Builds.{lower, same_low, halves, built_none, order_left, order_right, build_hook, built_join}
use Rattle.avl.proofs.raise.+raise.Goals as goal

pub returns-in_default : goal.returns-in_default
returns-in_default t c =
    let b = built_none c.args.nodes.now c.args.order.now c.requires.order.few (omega (arith, c.in_default.ensures.cases, c.split_at.ensures.back_len)) in
    record { built = b; height = same_low (length c.args.order.now) _ c.args.height b.lowest c.requires.height }

pub raise-left-requires : goal.raise-left-requires
raise-left-requires t c =
    let ha = halves _ _ _ _ _ c.split_at.ensures.by_index.0 c.in-Some.ensures.cases c.split_at.ensures.front_len in (
      omega (arith, c.decreases, lower (length c.args.order.now) c.args.height _ c.height_for.result c.requires.height c.height_for.ensures (omega (arith, ha.long)) (omega (arith, ha.long, ha.more))),
      (order_left c.args.nodes.now c.args.order.now _ _ _ c.requires.order ha, c.height_for.ensures),
    )

pub raise-right-requires : goal.raise-right-requires
raise-right-requires t c =
    let ha = halves _ _ _ _ _ c.split_at.ensures.by_index.0 c.in-Some.ensures.cases c.split_at.ensures.front_len in (
      omega (arith, c.decreases, lower (length c.args.order.now) c.args.height _ c.height_for-2.result c.requires.height c.height_for-2.ensures (omega (arith, ha.long)) (omega (arith, ha.long, ha.less))),
      (order_right c.args.nodes.now c.args.order.now _ _ _ c.requires.order ha c.raise-left.new.nodes c.raise-left.result c.raise-left.ensures.built, c.height_for-2.ensures),
    )

pub hang-requires : goal.hang-requires
hang-requires t c =
    let ha = halves _ _ _ _ _ c.split_at.ensures.by_index.0 c.in-Some.ensures.cases c.split_at.ensures.front_len in
    build_hook c.args.nodes.now c.args.order.now _ _ _ c.requires.order ha c.raise-left.new.nodes c.raise-left.result c.raise-left.ensures.built c.raise-right.new.nodes c.raise-right.result c.raise-right.ensures.built

pub returns : goal.returns
returns t c =
    let ha = halves _ _ _ _ _ c.split_at.ensures.by_index.0 c.in-Some.ensures.cases c.split_at.ensures.front_len in
    let m = c.in-Some.field-0-0.now in
    let b : Built c.args.nodes.now c.hang.new.nodes c.args.order.now m (tree_at c.hang.new.nodes m) =
    subst (λ ms. Built c.args.nodes.now ms c.args.order.now m (tree_at ms m)) (sym c.hang.ensures) (built_join c.args.nodes.now c.args.order.now _ _ _ c.requires.order ha c.raise-left.new.nodes c.raise-left.result c.raise-left.ensures.built c.raise-right.new.nodes c.raise-right.result c.raise-right.ensures.built) in
    record { built = b; height = same_low (length c.args.order.now) _ c.args.height b.lowest c.requires.height }
