use Rattle.std.proofs.Common.{length, sym, ap, ◌∙◌, arith}
use Rattle.trees.proofs.Pools.{opened, steps_left, steps_right}
use Rattle.trees.proofs.Looks.{span_low, span_high, span_long, span_few}
use Rattle.trees.proofs.tally.+count.Goals as goal

pub count-requires : goal.count-requires
count-requires t c = steps_right _ _ t c.requires c.if-root-eq-NONE.false c.decreases

pub returns-then-here-first : goal.returns-then-here-first
returns-then-here-first t c =
    let o = opened c.args.nodes.now c.args.root c.requires c.if-root-eq-NONE.false in
    c.count.ensures ∙ sym (ap length (span_high c.args.nodes.now c.args.root o c.args.first c.args.second c.if-here-first.true))

pub count-requires-then-second-here : goal.count-requires-then-second-here
count-requires-then-second-here t c = steps_left _ _ t c.requires c.if-root-eq-NONE.false c.decreases

pub returns-then-second-here : goal.returns-then-second-here
returns-then-second-here t c =
    let o = opened c.args.nodes.now c.args.root c.requires c.if-root-eq-NONE.false in
    c.count-then-second-here.ensures ∙ sym (ap length (span_low c.args.nodes.now c.args.root o c.args.first c.args.second c.if-second-here.true))

pub count-low-requires : goal.count-low-requires
count-low-requires t c = steps_left _ _ t c.requires c.if-root-eq-NONE.false c.decreases

pub count-high-requires : goal.count-high-requires
count-high-requires t c = steps_right _ _ t c.requires c.if-root-eq-NONE.false c.decreases

pub returns : goal.returns
returns t c =
    let o = opened c.args.nodes.now c.args.root c.requires c.if-root-eq-NONE.false in
    omega (arith, c.count-low.ensures, c.count-high.ensures, span_long c.args.nodes.now c.args.root o c.args.first c.args.second c.if-here-first.false c.if-second-here.false)

pub overflow_add-result : goal.overflow_add-result
overflow_add-result t c =
    let o = opened c.args.nodes.now c.args.root c.requires c.if-root-eq-NONE.false in
    omega (arith, c.count-low.ensures, span_few c.args.first c.args.second c.args.nodes.now _ o.left)

pub overflow_add-result-2 : goal.overflow_add-result-2
overflow_add-result-2 t c =
    let o = opened c.args.nodes.now c.args.root c.requires c.if-root-eq-NONE.false in
    omega (arith, c.count-low.ensures, c.count-high.ensures, span_few c.args.first c.args.second c.args.nodes.now _ o.left, span_few c.args.first c.args.second c.args.nodes.now _ o.right)
