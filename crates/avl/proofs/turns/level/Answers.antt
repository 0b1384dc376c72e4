use Rattle.std.proofs.Common.{◌+◌, ◌≤◌, sym, subst, arith}
use Rattle.trees.specs.Trees.{tall}
use Rattle.trees.specs.Pools.{entry_at, tree_at}
use Rattle.trees.proofs.Pools.{low, high_is}
use Rattle.avl.specs.Turns.{Level}
use Rattle.avl.proofs.Levels.{bound, hang_hook, from_hang}
use Rattle.avl.proofs.turns.level.Goals as goal

pub height_of-high-requires : goal.height_of-high-requires
height_of-high-requires c = bound c.args.nodes.now c.args.right c.requires.loose.upper

pub overflow_add-high : goal.overflow_add-high
overflow_add-high c = omega (arith, c.height_of-high.ensures, high_is _ _ c.requires.loose.upper, low _ _ _ c.requires.loose.upper)

pub overflow_add-low : goal.overflow_add-low
overflow_add-low c = omega (arith, c.height_of-low.ensures, high_is _ _ c.requires.loose.lower, low _ _ _ c.requires.loose.lower)

pub hang-requires : goal.hang-requires
hang-requires c = hang_hook c.args.nodes.now c.args.i c.args.left c.args.right c.requires.loose

pub returns : goal.returns
returns c =
    let p : tall (tree_at c.args.nodes.now c.args.left) ≤ 1 + tall (tree_at c.args.nodes.now c.args.right) = omega (arith, c.height_of-low.ensures, c.height_of-high.ensures, high_is _ _ c.requires.loose.lower, high_is _ _ c.requires.loose.upper, c.if-low-high.false) in
    let q : tall (tree_at c.args.nodes.now c.args.right) ≤ 1 + tall (tree_at c.args.nodes.now c.args.left) = omega (arith, c.height_of-low.ensures, c.height_of-high.ensures, high_is _ _ c.requires.loose.lower, high_is _ _ c.requires.loose.upper, c.if-high-low.false) in
    subst (λ ms. Level c.args.nodes.now ms c.args.i (entry_at c.args.nodes.now c.args.i) (tree_at c.args.nodes.now c.args.left) (tree_at c.args.nodes.now c.args.right) c.args.i (tree_at ms c.args.i)) (sym c.hang.ensures) (from_hang c.args.nodes.now c.args.i c.args.left c.args.right c.requires.loose p q)
