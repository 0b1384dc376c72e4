use Rattle.std.proofs.Common.{[], sym, ap, ◌∙◌, arith}
use Rattle.std.proofs.lemmas.Cmp.{ranked}
use Rattle.trees.specs.Trees.{entries}
use Rattle.trees.specs.Pools.{left_at}
use Rattle.trees.specs.Answers.{hindmost}
use Rattle.trees.proofs.Pools.{opened, steps_left, steps_right}
use Rattle.trees.proofs.Looks.{saw_here, saw_more, saw_or, saw_few, back_or, tall_open, upto_here, upto_low, upto_high, path_here, path_low, path_high}
use Rattle.trees.proofs.below.+last.Goals as goal

pub last-requires : goal.last-requires
last-requires t c = steps_left _ _ t c.requires c.if-root-eq-NONE.false c.decreases

pub one_more-requires : goal.one_more-requires
one_more-requires t c = saw_few (opened _ _ c.requires c.if-root-eq-NONE.false).left c.last.ensures

pub last-requires-in-Greater : goal.last-requires-in-Greater
last-requires-in-Greater t c = steps_right _ _ t c.requires c.if-root-eq-NONE.false c.decreases

pub or_here-requires : goal.or_here-requires
or_here-requires t c = saw_few (opened _ _ c.requires c.if-root-eq-NONE.false).right c.last-in-Greater.ensures

pub returns-in-Less : goal.returns-in-Less
returns-in-Less t c =
    let o = opened _ _ c.requires c.if-root-eq-NONE.false in
    let lt = ranked _ _ _ c.in-Less.ensures in
    saw_more c.one_more.ensures c.last.ensures (ap hindmost (upto_low _ _ o _ lt)) (path_low _ _ o _ lt) (omega (arith, tall_open _ _ o))

pub returns-in-Equal : goal.returns-in-Equal
returns-in-Equal t c =
    let o = opened _ _ c.requires c.if-root-eq-NONE.false in
    let is = ranked _ _ _ c.in-Equal.ensures in
    saw_here c.found.ensures (ap hindmost (upto_here _ _ o _ is) ∙ sym (back_or (entries (left_at _ _)) _ [])) (path_here _ _ o _ is) (omega (arith, tall_open _ _ o))

pub returns-in-Greater : goal.returns-in-Greater
returns-in-Greater t c =
    let o = opened _ _ c.requires c.if-root-eq-NONE.false in
    let gt = ranked _ _ _ c.in-Greater.ensures in
    saw_or _ c.or_here.ensures c.last-in-Greater.ensures (ap hindmost (upto_high _ _ o _ gt) ∙ sym (back_or (entries (left_at _ _)) _ _)) (path_high _ _ o _ gt) (omega (arith, tall_open _ _ o))
