use Rattle.std.proofs.Common.{ap, arith}
use Rattle.std.proofs.lemmas.Cmp.{ranked}
use Rattle.trees.specs.Answers.{foremost}
use Rattle.trees.proofs.Pools.{opened, steps_left, steps_right}
use Rattle.trees.proofs.Looks.{saw_here, saw_more, saw_few, tall_open, at_here, at_low, at_high, path_here, path_low, path_high}
use Rattle.trees.proofs.seek.+find.Goals as goal

pub find-requires : goal.find-requires
find-requires t c = steps_left _ _ t c.requires c.if-root-eq-NONE.false c.decreases

pub one_more-requires : goal.one_more-requires
one_more-requires t c = saw_few (opened _ _ c.requires c.if-root-eq-NONE.false).left c.find.ensures

pub find-requires-in-Greater : goal.find-requires-in-Greater
find-requires-in-Greater t c = steps_right _ _ t c.requires c.if-root-eq-NONE.false c.decreases

pub one_more-requires-in-Greater : goal.one_more-requires-in-Greater
one_more-requires-in-Greater t c = saw_few (opened _ _ c.requires c.if-root-eq-NONE.false).right c.find-in-Greater.ensures

pub returns-in-Less : goal.returns-in-Less
returns-in-Less t c =
    let o = opened _ _ c.requires c.if-root-eq-NONE.false in
    let lt = ranked _ _ _ c.in-Less.ensures in
    saw_more c.one_more.ensures c.find.ensures (ap foremost (at_low _ _ o _ lt)) (path_low _ _ o _ lt) (omega (arith, tall_open _ _ o))

pub returns-in-Equal : goal.returns-in-Equal
returns-in-Equal t c =
    let o = opened _ _ c.requires c.if-root-eq-NONE.false in
    let is = ranked _ _ _ c.in-Equal.ensures in
    saw_here c.found.ensures (ap foremost (at_here _ _ o _ is)) (path_here _ _ o _ is) (omega (arith, tall_open _ _ o))

pub returns-in-Greater : goal.returns-in-Greater
returns-in-Greater t c =
    let o = opened _ _ c.requires c.if-root-eq-NONE.false in
    let gt = ranked _ _ _ c.in-Greater.ensures in
    saw_more c.one_more-in-Greater.ensures c.find-in-Greater.ensures (ap foremost (at_high _ _ o _ gt)) (path_high _ _ o _ gt) (omega (arith, tall_open _ _ o))
