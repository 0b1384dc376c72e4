use Rattle.std.proofs.Common.{arith}
use Rattle.std.proofs.lemmas.Cmp.{ranked}
use Rattle.trees.proofs.Pools.{opened, falls_left, falls_right, low}
use Rattle.avl.proofs.Removals.{held_root, held_left, held_right, left_loose, left_near, cut_left_rising, cut_left, cut_right_loose, cut_right_near, cut_right, cut_here}
use Rattle.avl.proofs.cut.+remove.Goals as goal

pub remove-left-requires : goal.remove-left-requires
remove-left-requires t c =
    let o = opened c.args.nodes.now c.args.root c.requires.stands (held_root c.args.nodes.now c.args.root c.args.key c.requires) in
    (falls_left c.args.nodes.now c.args.root t c.requires.stands o c.decreases, held_left c.args.nodes.now c.args.root c.requires.stands o c.args.key (ranked _ _ _ c.in-Less.ensures) c.requires)

pub level-top-requires : goal.level-top-requires
level-top-requires t c =
    let o = opened c.args.nodes.now c.args.root c.requires.stands (held_root c.args.nodes.now c.args.root c.args.key c.requires) in
    let d = c.remove-left.ensures in
    let near = left_near c.args.nodes.now c.args.root c.requires.stands o c.remove-left.new.nodes c.remove-left.result.gone c.remove-left.result.root d.lost in
    record {
      loose = left_loose c.args.nodes.now c.args.root c.requires.stands o c.remove-left.new.nodes c.remove-left.result.gone c.remove-left.result.root d.lost
          (cut_left_rising c.args.nodes.now c.args.root c.requires.stands o c.args.key (ranked _ _ _ c.in-Less.ensures) c.remove-left.new.nodes c.remove-left.result d);
      low = near.0;
      high = near.1;
    }

pub overflow_add-result : goal.overflow_add-result
overflow_add-result t c =
    let o = opened c.args.nodes.now c.args.root c.requires.stands (held_root c.args.nodes.now c.args.root c.args.key c.requires) in
    omega (arith, c.remove-left.ensures.few, low _ _ _ o.left)

pub returns-in-Less : goal.returns-in-Less
returns-in-Less t c =
    let o = opened c.args.nodes.now c.args.root c.requires.stands (held_root c.args.nodes.now c.args.root c.args.key c.requires) in
    cut_left c.args.nodes.now c.args.root c.requires.stands o c.args.key (ranked _ _ _ c.in-Less.ensures) c.remove-left.new.nodes c.remove-left.result c.remove-left.ensures _ _ c.level-top.ensures

pub remove-right-requires : goal.remove-right-requires
remove-right-requires t c =
    let o = opened c.args.nodes.now c.args.root c.requires.stands (held_root c.args.nodes.now c.args.root c.args.key c.requires) in
    (falls_right c.args.nodes.now c.args.root t c.requires.stands o c.decreases, held_right c.args.nodes.now c.args.root c.requires.stands o c.args.key (ranked _ _ _ c.in-Greater.ensures) c.requires)

pub level-top-requires-in-Greater : goal.level-top-requires-in-Greater
level-top-requires-in-Greater t c =
    let o = opened c.args.nodes.now c.args.root c.requires.stands (held_root c.args.nodes.now c.args.root c.args.key c.requires) in
    let near = cut_right_near c.args.nodes.now c.args.root c.requires.stands o c.args.key (ranked _ _ _ c.in-Greater.ensures) c.remove-right.new.nodes c.remove-right.result c.remove-right.ensures in
    record {
      loose = cut_right_loose c.args.nodes.now c.args.root c.requires.stands o c.args.key (ranked _ _ _ c.in-Greater.ensures) c.remove-right.new.nodes c.remove-right.result c.remove-right.ensures;
      low = near.0;
      high = near.1;
    }

pub overflow_add-result-in-Greater : goal.overflow_add-result-in-Greater
overflow_add-result-in-Greater t c =
    let o = opened c.args.nodes.now c.args.root c.requires.stands (held_root c.args.nodes.now c.args.root c.args.key c.requires) in
    omega (arith, c.remove-right.ensures.few, low _ _ _ o.right)

pub returns-in-Greater : goal.returns-in-Greater
returns-in-Greater t c =
    let o = opened c.args.nodes.now c.args.root c.requires.stands (held_root c.args.nodes.now c.args.root c.args.key c.requires) in
    cut_right c.args.nodes.now c.args.root c.requires.stands o c.args.key (ranked _ _ _ c.in-Greater.ensures) c.remove-right.new.nodes c.remove-right.result c.remove-right.ensures _ _ c.level-top-in-Greater.ensures

pub returns-in-Equal : goal.returns-in-Equal
returns-in-Equal t c =
    let o = opened c.args.nodes.now c.args.root c.requires.stands (held_root c.args.nodes.now c.args.root c.args.key c.requires) in
    cut_here c.args.nodes.now c.args.root c.requires.stands o c.args.key _ _ (ranked _ _ _ c.in-Equal.ensures) c.drop_root-top.ensures
