use Rattle.std.proofs.Common.{arith}
use Rattle.trees.proofs.Pools.{opened, falls_left, falls_right, low}
use Rattle.avl.proofs.Inserts.{grew_leaf, fresh_left, fresh_right, loose_left, near_left, grew_left, loose_right, near_right, grew_right}
use Rattle.avl.proofs.grow.+insert.Goals as goal

pub returns-then-root-eq-NONE : goal.returns-then-root-eq-NONE
returns-then-root-eq-NONE t c = grew_leaf c.args.nodes.now c.args.root c.args.fresh c.args.new c.requires c.if-root-eq-NONE.true

pub insert-left-requires : goal.insert-left-requires
insert-left-requires t c =
    let o = opened c.args.nodes.now c.args.root c.requires.stands c.if-root-eq-NONE.false in
    (falls_left c.args.nodes.now c.args.root t c.requires.stands o c.decreases, fresh_left c.args.nodes.now c.args.root c.args.fresh c.args.new c.requires o c.if-new-here.true)

pub level-top-requires : goal.level-top-requires
level-top-requires t c =
    let o = opened c.args.nodes.now c.args.root c.requires.stands c.if-root-eq-NONE.false in
    let near = near_left c.args.nodes.now c.args.root c.args.fresh c.args.new c.requires o c.insert-left.new.nodes c.insert-left.result c.if-new-here.true c.insert-left.ensures in
    record { loose = loose_left c.args.nodes.now c.args.root c.args.fresh c.args.new c.requires o c.insert-left.new.nodes c.insert-left.result c.if-new-here.true c.insert-left.ensures; low = near.0; high = near.1 }

pub overflow_add-result : goal.overflow_add-result
overflow_add-result t c =
    let o = opened c.args.nodes.now c.args.root c.requires.stands c.if-root-eq-NONE.false in
    omega (arith, c.insert-left.ensures.few, low _ _ _ o.left)

pub returns-then-new-here : goal.returns-then-new-here
returns-then-new-here t c =
    let o = opened c.args.nodes.now c.args.root c.requires.stands c.if-root-eq-NONE.false in
    grew_left c.args.nodes.now c.args.root c.args.fresh c.args.new c.requires o c.insert-left.new.nodes c.insert-left.result c.if-new-here.true c.insert-left.ensures _ _ c.level-top.ensures

pub insert-right-requires : goal.insert-right-requires
insert-right-requires t c =
    let o = opened c.args.nodes.now c.args.root c.requires.stands c.if-root-eq-NONE.false in
    (falls_right c.args.nodes.now c.args.root t c.requires.stands o c.decreases, fresh_right c.args.nodes.now c.args.root c.args.fresh c.args.new c.requires o c.if-new-here.false)

pub level-top-requires-2 : goal.level-top-requires-2
level-top-requires-2 t c =
    let o = opened c.args.nodes.now c.args.root c.requires.stands c.if-root-eq-NONE.false in
    let near = near_right c.args.nodes.now c.args.root c.args.fresh c.args.new c.requires o c.insert-right.new.nodes c.insert-right.result c.if-new-here.false c.insert-right.ensures in
    record { loose = loose_right c.args.nodes.now c.args.root c.args.fresh c.args.new c.requires o c.insert-right.new.nodes c.insert-right.result c.if-new-here.false c.insert-right.ensures; low = near.0; high = near.1 }

pub overflow_add-result-2 : goal.overflow_add-result-2
overflow_add-result-2 t c =
    let o = opened c.args.nodes.now c.args.root c.requires.stands c.if-root-eq-NONE.false in
    omega (arith, c.insert-right.ensures.few, low _ _ _ o.right)

pub returns : goal.returns
returns t c =
    let o = opened c.args.nodes.now c.args.root c.requires.stands c.if-root-eq-NONE.false in
    grew_right c.args.nodes.now c.args.root c.args.fresh c.args.new c.requires o c.insert-right.new.nodes c.insert-right.result c.if-new-here.false c.insert-right.ensures _ _ c.level-top-2.ensures
