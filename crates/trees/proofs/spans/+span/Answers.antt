use Rattle.std.proofs.Common.{◌+◌, ◌<◌, length, set, sym, ap, ◌∙◌, arith, length-set, rules}
use Rattle.entry.specs.Lists.{between}
use Rattle.trees.specs.Trees.{entries}
use Rattle.trees.specs.Pools.{entry_at, left_at, right_at}
use Rattle.trees.specs.Answers.{laid}
use Rattle.trees.proofs.Pools.{opened, falls_left, falls_right}
use Rattle.trees.proofs.Looks.{span_low, span_high, span_both, span_long}
use Rattle.trees.proofs.Rows.{laid_long, laid_around}
use Rattle.trees.proofs.spans.+span.Goals as goal

pub span-requires : goal.span-requires
span-requires t c =
    let o = opened c.args.nodes.now c.args.root c.requires.tree c.if-root-eq-NONE.false in (
      falls_right c.args.nodes.now c.args.root t c.requires.tree o c.decreases,
      (o.right, omega (arith, ap length (span_high c.args.nodes.now c.args.root o c.args.first c.args.second c.if-here-first.true), c.requires.room)),
    )

pub returns-then-here-first : goal.returns-then-here-first
returns-then-here-first t c =
    let o = opened c.args.nodes.now c.args.root c.requires.tree c.if-root-eq-NONE.false in
    let is = span_high c.args.nodes.now c.args.root o c.args.first c.args.second c.if-here-first.true in
    record { places = c.span.ensures.places ∙ ap (laid c.args.out.now c.args.start) (sym is); end = omega (arith, c.span.ensures.end, ap length is) }

pub span-requires-then-second-here : goal.span-requires-then-second-here
span-requires-then-second-here t c =
    let o = opened c.args.nodes.now c.args.root c.requires.tree c.if-root-eq-NONE.false in (
      falls_left c.args.nodes.now c.args.root t c.requires.tree o c.decreases,
      (o.left, omega (arith, ap length (span_low c.args.nodes.now c.args.root o c.args.first c.args.second c.if-second-here.true), c.requires.room)),
    )

pub returns-then-second-here : goal.returns-then-second-here
returns-then-second-here t c =
    let o = opened c.args.nodes.now c.args.root c.requires.tree c.if-root-eq-NONE.false in
    let is = span_low c.args.nodes.now c.args.root o c.args.first c.args.second c.if-second-here.true in
    record { places = c.span-then-second-here.ensures.places ∙ ap (laid c.args.out.now c.args.start) (sym is); end = omega (arith, c.span-then-second-here.ensures.end, ap length is) }

pub span-middle-requires : goal.span-middle-requires
span-middle-requires t c =
    let o = opened c.args.nodes.now c.args.root c.requires.tree c.if-root-eq-NONE.false in
    let long = span_long c.args.nodes.now c.args.root o c.args.first c.args.second c.if-here-first.false c.if-second-here.false in
    (falls_left c.args.nodes.now c.args.root t c.requires.tree o c.decreases, (o.left, omega (arith, long, c.requires.room)))

pub bounds-out-middle : goal.bounds-out-middle
bounds-out-middle t c =
    let o = opened c.args.nodes.now c.args.root c.requires.tree c.if-root-eq-NONE.false in
    let long = span_long c.args.nodes.now c.args.root o c.args.first c.args.second c.if-here-first.false c.if-second-here.false in
    let lows = between c.args.first c.args.second (entries (left_at c.args.nodes.now c.args.root)) in
    omega (arith, ap length c.span-middle.ensures.places, c.span-middle.ensures.end, laid_long c.args.out.now c.args.start lows, long, c.requires.room)

pub offset_bounds-out-middle : goal.offset_bounds-out-middle
offset_bounds-out-middle t c = let h : c.span-middle.result < length c.span-middle.new.out = bounds-out-middle t c in search rules

pub overflow_add-middle : goal.overflow_add-middle
overflow_add-middle t c =
    let o = opened c.args.nodes.now c.args.root c.requires.tree c.if-root-eq-NONE.false in
    let long = span_long c.args.nodes.now c.args.root o c.args.first c.args.second c.if-here-first.false c.if-second-here.false in
    let h : c.span-middle.result < length c.args.out.now = omega (arith, c.span-middle.ensures.end, long, c.requires.room) in
    search rules

pub span-requires-2 : goal.span-requires-2
span-requires-2 t c =
    let o = opened c.args.nodes.now c.args.root c.requires.tree c.if-root-eq-NONE.false in
    let long = span_long c.args.nodes.now c.args.root o c.args.first c.args.second c.if-here-first.false c.if-second-here.false in
    let lows = between c.args.first c.args.second (entries (left_at c.args.nodes.now c.args.root)) in (
      falls_right c.args.nodes.now c.args.root t c.requires.tree o c.decreases,
      (o.right, omega (arith, ap length c.span-middle.ensures.places, c.span-middle.ensures.end, laid_long c.args.out.now c.args.start lows, long, c.requires.room, length-set c.span-middle.new.out c.span-middle.result c.entry.result)),
    )

pub returns : goal.returns
returns t c =
    let ns = c.args.nodes.now in
    let root = c.args.root in
    let o = opened ns root c.requires.tree c.if-root-eq-NONE.false in
    let m = c.span-middle.ensures in
    let lows = between c.args.first c.args.second (entries (left_at ns root)) in
    let highs = between c.args.first c.args.second (entries (right_at ns root)) in
    record {
      places = c.span-2.ensures.places
          ∙ (λ d. laid (set (m.places d) (m.end d) (c.entry.ensures d)) (m.end d + 1) highs)
          ∙ laid_around c.args.out.now c.args.start lows (entry_at ns root) highs
          ∙ ap (laid c.args.out.now c.args.start) (sym (span_both ns root o c.args.first c.args.second c.if-here-first.false c.if-second-here.false));
      end = omega (arith, c.span-2.ensures.end, m.end, span_long ns root o c.args.first c.args.second c.if-here-first.false c.if-second-here.false);
    }
