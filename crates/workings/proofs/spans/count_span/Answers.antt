use Rattle.std.proofs.Common.{◌≡◌, true, sym, ap, ◌∙◌, subst, arith}
use Rattle.dictionary.specs.Pairs.{among}
use Rattle.buckets.specs.Tables.{order_of}
use Rattle.buckets.specs.Onwards.{left, Stands}
use Rattle.buckets.proofs.Lays.{small}
use Rattle.inside.proofs.Near.{here_stands}
use Rattle.inside.proofs.Spans.{first_held, counting_starts, counting_few, counting_goes}
use Rattle.workings.proofs.spans.count_span.Goals as goal
use Rattle.workings.proofs.spans.count_span.Goals.{In-Some}

held : (c : In-Some) → among c.in-Some.bucket (order_of c.args.grove.now.table) ≡ true
held c = first_held c.args.grove.now.table c.in-Some.bucket _ _ c.in-Some.ensures.steps c.loop-bucket.invariant.2.held

pub loop-bucket-init : goal.loop-bucket-init
loop-bucket-init c =
    let i = c.args.grove.now in
    let e = c.into_iter-bucket-iterator.ensures.into_iter_gives in (
      subst Stands (sym e) c.onward-bucket-items.ensures.stands,
      tt,
      counting_starts i.table i.pool i.forest c.args.first c.args.second c.args.number _ c.requires (ap left e ∙ c.onward-bucket-items.ensures.left),
    )

pub root-root-requires : goal.root-root-requires
root-root-requires c = small c.args.grove.now.table c.in-Some.bucket (held (goal.at.root-root-requires c).In-Some)

pub count-sum-requires : goal.count-sum-requires
count-sum-requires c =
    let i = c.args.grove.now in
    here_stands i.table i.pool i.forest c.in-Some.bucket (held (goal.at.count-sum-requires c).In-Some) c.root-root.result c.root-root.ensures

pub overflow_add-sum : goal.overflow_add-sum
overflow_add-sum c =
    let i = c.args.grove.now in
    omega (
      arith,
      counting_few i.table i.pool i.forest c.args.first c.args.second c.args.number c.in-Some.bucket c.loop-bucket.sum c.root-root.result c.count-sum.result _ _
          c.loop-bucket.invariant.2 c.in-Some.ensures.steps c.root-root.ensures c.count-sum.ensures,
    )

pub loop-bucket-preserved : goal.loop-bucket-preserved
loop-bucket-preserved c =
    let i = c.args.grove.now in
    let on = c.in-Some.ensures.goes.on tt in (
      on.0,
      tt,
      counting_goes i.table i.pool i.forest c.args.first c.args.second c.args.number c.in-Some.bucket c.loop-bucket.sum c.root-root.result c.count-sum.result _ _
          c.loop-bucket.invariant.2 c.in-Some.ensures.steps c.root-root.ensures c.count-sum.ensures,
    )
