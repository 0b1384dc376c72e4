use Rattle.trees.proofs.Pools.{opened}
use Rattle.avl.proofs.Removals.{rootless_left, rootless_right, root_loose, root_near, rootless_both}
use Rattle.avl.proofs.cut.drop_root.Goals as goal

pub returns-then-here : goal.returns-then-here
returns-then-here c = rootless_left c.args.nodes.now c.args.root c.requires.tree (opened c.args.nodes.now c.args.root c.requires.tree c.requires.some) c.if-here.true

pub returns-then-here-2 : goal.returns-then-here-2
returns-then-here-2 c = rootless_right c.args.nodes.now c.args.root c.requires.tree (opened c.args.nodes.now c.args.root c.requires.tree c.requires.some) c.if-here-2.true

pub take_first-first-requires : goal.take_first-first-requires
take_first-first-requires c = record { tree = (opened c.args.nodes.now c.args.root c.requires.tree c.requires.some).right; some = c.if-here-2.false }

pub level-requires : goal.level-requires
level-requires c =
    let o = opened c.args.nodes.now c.args.root c.requires.tree c.requires.some in
    let near = root_near c.args.nodes.now c.args.root c.requires.tree o c.take_first-first.new.nodes c.take_first-first.result.0 c.take_first-first.result.1 c.take_first-first.ensures in
    record {
      loose = root_loose c.args.nodes.now c.args.root c.requires.tree o c.take_first-first.new.nodes c.take_first-first.result.0 c.take_first-first.result.1 c.take_first-first.ensures;
      low = near.0;
      high = near.1;
    }

pub returns : goal.returns
returns c =
    let o = opened c.args.nodes.now c.args.root c.requires.tree c.requires.some in
    rootless_both c.args.nodes.now c.args.root c.requires.tree o c.take_first-first.new.nodes c.take_first-first.result.0 c.take_first-first.result.1 c.take_first-first.ensures _ _ c.level.ensures
