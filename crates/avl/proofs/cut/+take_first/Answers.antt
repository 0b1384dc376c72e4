use Rattle.trees.proofs.Pools.{opened, falls_left}
use Rattle.avl.proofs.Removals.{first_here, left_loose, left_near, first_rising, first_after}
use Rattle.avl.proofs.cut.+take_first.Goals as goal

pub returns-then-here : goal.returns-then-here
returns-then-here t c = first_here c.args.nodes.now c.args.root c.requires.tree (opened c.args.nodes.now c.args.root c.requires.tree c.requires.some) c.if-here.true

pub take_first-first-requires : goal.take_first-first-requires
take_first-first-requires t c =
    let o = opened c.args.nodes.now c.args.root c.requires.tree c.requires.some in
    (falls_left c.args.nodes.now c.args.root t c.requires.tree o c.decreases, (o.left, c.if-here.false))

pub level-top-requires : goal.level-top-requires
level-top-requires t c =
    let o = opened c.args.nodes.now c.args.root c.requires.tree c.requires.some in
    let f = c.take_first-first.ensures in
    let near = left_near c.args.nodes.now c.args.root c.requires.tree o c.take_first-first.new.nodes c.take_first-first.result.0 c.take_first-first.result.1 f.lost in
    record {
      loose = left_loose c.args.nodes.now c.args.root c.requires.tree o c.take_first-first.new.nodes c.take_first-first.result.0 c.take_first-first.result.1 f.lost
          (first_rising c.args.nodes.now c.args.root c.requires.tree o c.take_first-first.new.nodes c.take_first-first.result.0 c.take_first-first.result.1 f);
      low = near.0;
      high = near.1;
    }

pub returns : goal.returns
returns t c =
    let o = opened c.args.nodes.now c.args.root c.requires.tree c.requires.some in
    first_after c.args.nodes.now c.args.root c.requires.tree o c.take_first-first.new.nodes c.take_first-first.result.0 c.take_first-first.result.1 c.take_first-first.ensures _ _ c.level-top.ensures
