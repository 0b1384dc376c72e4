use Rattle.std.proofs.Common.{arith}
use Rattle.avl.proofs.Levels.{left_outer_four, left_outer, left_inner_four, left_inner}
use Rattle.avl.proofs.turns.lean_right.Goals as goal

pub crown-requires : goal.crown-requires
crown-requires c = left_outer_four c.args.nodes.now c.args.i c.args.left c.args.right c.requires.loose c.requires.two (omega (arith, c.height_of.ensures, c.height_of-2.ensures, c.if-height_of.true))

pub crown-requires-else-height_of : goal.crown-requires-else-height_of
crown-requires-else-height_of c = left_inner_four c.args.nodes.now c.args.i c.args.left c.args.right c.requires.loose c.requires.two (omega (arith, c.height_of.ensures, c.height_of-2.ensures, c.if-height_of.false))

pub returns-then-height_of : goal.returns-then-height_of
returns-then-height_of c = left_outer c.args.nodes.now c.args.i c.args.left c.args.right c.requires.loose c.requires.two (omega (arith, c.height_of.ensures, c.height_of-2.ensures, c.if-height_of.true)) _ c.crown.ensures

pub returns-else-height_of : goal.returns-else-height_of
returns-else-height_of c = left_inner c.args.nodes.now c.args.i c.args.left c.args.right c.requires.loose c.requires.two (omega (arith, c.height_of.ensures, c.height_of-2.ensures, c.if-height_of.false)) _ c.crown-else-height_of.ensures
