use Rattle.std.proofs.Common.{◌+◌, ◌<◌, length, set, sym, ap, ◌∙◌, arith, length-set, rules}
use Rattle.trees.specs.Trees.{places}
use Rattle.trees.specs.Pools.{left_at, right_at}
use Rattle.trees.specs.Answers.{laid}
use Rattle.trees.proofs.Pools.{opened, falls_left, falls_right}
use Rattle.trees.proofs.Looks.{walk_both, walk_long}
use Rattle.trees.proofs.Rows.{laid_long, laid_around}
use Rattle.trees.proofs.walks.+walk.Goals as goal

pub walk-middle-requires : goal.walk-middle-requires
walk-middle-requires t c =
    let o = opened c.args.nodes.now c.args.root c.requires.tree c.if-root-eq-NONE.false in (
      falls_left c.args.nodes.now c.args.root t c.requires.tree o c.decreases,
      (o.left, omega (arith, walk_long c.args.nodes.now c.args.root o, c.requires.room)),
    )

pub bounds-row-middle : goal.bounds-row-middle
bounds-row-middle t c =
    let o = opened c.args.nodes.now c.args.root c.requires.tree c.if-root-eq-NONE.false in
    omega (arith, ap length c.walk-middle.ensures.places, c.walk-middle.ensures.end, laid_long c.args.row.now c.args.start (places (left_at c.args.nodes.now c.args.root)), walk_long c.args.nodes.now c.args.root o, c.requires.room)

pub offset_bounds-row-middle : goal.offset_bounds-row-middle
offset_bounds-row-middle t c = let h : c.walk-middle.result < length c.walk-middle.new.row = bounds-row-middle t c in search rules

pub overflow_add-middle : goal.overflow_add-middle
overflow_add-middle t c =
    let o = opened c.args.nodes.now c.args.root c.requires.tree c.if-root-eq-NONE.false in
    let h : c.walk-middle.result < length c.args.row.now = omega (arith, c.walk-middle.ensures.end, walk_long c.args.nodes.now c.args.root o, c.requires.room) in
    search rules

pub walk-requires : goal.walk-requires
walk-requires t c =
    let o = opened c.args.nodes.now c.args.root c.requires.tree c.if-root-eq-NONE.false in
    let lows = places (left_at c.args.nodes.now c.args.root) in (
      falls_right c.args.nodes.now c.args.root t c.requires.tree o c.decreases,
      (o.right, omega (arith, ap length c.walk-middle.ensures.places, c.walk-middle.ensures.end, laid_long c.args.row.now c.args.start lows, walk_long c.args.nodes.now c.args.root o, c.requires.room, length-set c.walk-middle.new.row c.walk-middle.result c.args.root)),
    )

pub returns : goal.returns
returns t c =
    let ns = c.args.nodes.now in
    let root = c.args.root in
    let o = opened ns root c.requires.tree c.if-root-eq-NONE.false in
    let m = c.walk-middle.ensures in
    let lows = places (left_at ns root) in
    let highs = places (right_at ns root) in
    record {
      places = c.walk.ensures.places
          ∙ (λ d. laid (set (m.places d) (m.end d) root) (m.end d + 1) highs)
          ∙ laid_around c.args.row.now c.args.start lows root highs
          ∙ ap (laid c.args.row.now c.args.start) (sym (walk_both ns root o));
      end = omega (arith, c.walk.ensures.end, m.end, walk_long ns root o);
    }
