use Rattle.std.proofs.Common.{sym, ap, ◌∙◌, arith}
use Rattle.trees.specs.Trees.{entries}
use Rattle.trees.specs.Pools.{left_at}
use Rattle.trees.specs.Answers.{hindmost}
use Rattle.trees.proofs.Pools.{opened, steps_right}
use Rattle.trees.proofs.Looks.{saw_or, saw_few, back_or, entries_open, tall_open, high_open}
use Rattle.trees.proofs.ends.+last_entry.Goals as goal

pub last_entry-requires : goal.last_entry-requires
last_entry-requires t c = steps_right _ _ t c.requires c.if-root-eq-NONE.false c.decreases

pub or_here-requires : goal.or_here-requires
or_here-requires t c = saw_few (opened _ _ c.requires c.if-root-eq-NONE.false).right c.last_entry.ensures

pub returns : goal.returns
returns t c =
    let o = opened _ _ c.requires c.if-root-eq-NONE.false in
    saw_or _ c.or_here.ensures c.last_entry.ensures (ap hindmost (entries_open _ _ o) ∙ sym (back_or (entries (left_at _ _)) _ _)) (high_open _ _ o) (omega (arith, tall_open _ _ o))
