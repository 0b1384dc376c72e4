use Rattle.std.proofs.Common.{arith}
use Rattle.trees.specs.Pools.{node_at}
use Rattle.avl.proofs.Levels.{bound, right_open, right_outer_open, right_outer_four, right_outer, right_inner_four, right_inner}
use Rattle.avl.proofs.turns.lean_left.Goals as goal

pub slice_copy_out-high : goal.slice_copy_out-high
slice_copy_out-high c = (right_open c.args.nodes.now c.args.i c.args.left c.args.right c.requires.loose c.requires.two).inside

pub height_of-requires : goal.height_of-requires
height_of-requires c = bound c.args.nodes.now (node_at c.args.nodes.now c.args.right).left (right_open c.args.nodes.now c.args.i c.args.left c.args.right c.requires.loose c.requires.two).left

pub height_of-requires-2 : goal.height_of-requires-2
height_of-requires-2 c = bound c.args.nodes.now (node_at c.args.nodes.now c.args.right).right (right_open c.args.nodes.now c.args.i c.args.left c.args.right c.requires.loose c.requires.two).right

pub slice_copy_out-outer : goal.slice_copy_out-outer
slice_copy_out-outer c = (right_outer_open c.args.nodes.now c.args.i c.args.left c.args.right c.requires.loose c.requires.two (omega (arith, c.height_of.ensures, c.height_of-2.ensures, c.if-height_of.true))).inside

pub crown-requires : goal.crown-requires
crown-requires c = right_outer_four c.args.nodes.now c.args.i c.args.left c.args.right c.requires.loose c.requires.two (omega (arith, c.height_of.ensures, c.height_of-2.ensures, c.if-height_of.true))

pub crown-requires-else-height_of : goal.crown-requires-else-height_of
crown-requires-else-height_of c = right_inner_four c.args.nodes.now c.args.i c.args.left c.args.right c.requires.loose c.requires.two (omega (arith, c.height_of.ensures, c.height_of-2.ensures, c.if-height_of.false))

pub returns-then-height_of : goal.returns-then-height_of
returns-then-height_of c = right_outer c.args.nodes.now c.args.i c.args.left c.args.right c.requires.loose c.requires.two (omega (arith, c.height_of.ensures, c.height_of-2.ensures, c.if-height_of.true)) _ c.crown.ensures

pub returns-else-height_of : goal.returns-else-height_of
returns-else-height_of c = right_inner c.args.nodes.now c.args.i c.args.left c.args.right c.requires.loose c.requires.two (omega (arith, c.height_of.ensures, c.height_of-2.ensures, c.if-height_of.false)) _ c.crown-else-height_of.ensures
