use Rattle.std.proofs.Common.{sym, ap, ◌∙◌, arith}
use Rattle.trees.specs.Answers.{foremost}
use Rattle.trees.proofs.Pools.{opened, steps_left}
use Rattle.trees.proofs.Looks.{saw_or, saw_few, front_or, entries_open, tall_open, low_open}
use Rattle.trees.proofs.ends.+first_entry.Goals as goal

pub first_entry-requires : goal.first_entry-requires
first_entry-requires t c = steps_left _ _ t c.requires c.if-root-eq-NONE.false c.decreases

pub or_here-requires : goal.or_here-requires
or_here-requires t c = saw_few (opened _ _ c.requires c.if-root-eq-NONE.false).left c.first_entry.ensures

pub returns : goal.returns
returns t c =
    let o = opened _ _ c.requires c.if-root-eq-NONE.false in
    saw_or _ c.or_here.ensures c.first_entry.ensures (ap foremost (entries_open _ _ o) ∙ sym (front_or _ _ _)) (low_open _ _ o) (omega (arith, tall_open _ _ o))
