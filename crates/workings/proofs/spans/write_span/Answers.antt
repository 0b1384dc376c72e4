use Rattle.std.proofs.Common.{◌≡◌, true, sym, ap, ◌∙◌, subst, arith}
use Rattle.dictionary.specs.Pairs.{among}
use Rattle.buckets.specs.Tables.{order_of}
use Rattle.buckets.specs.Onwards.{left, Stands}
use Rattle.buckets.proofs.Lays.{small}
use Rattle.inside.proofs.Near.{here_stands}
use Rattle.inside.proofs.Spans.{first_held, writing_starts, writing_room, writing_goes, writing_ends}
use Rattle.workings.proofs.spans.write_span.Goals as goal
use Rattle.workings.proofs.spans.write_span.Goals.{In-Some}

held : (c : In-Some) → among c.in-Some.bucket (order_of c.args.grove.now.table) ≡ true
held c = first_held c.args.grove.now.table c.in-Some.bucket _ _ c.in-Some.ensures.steps c.loop-bucket.invariant.2.held

pub loop-bucket-init : goal.loop-bucket-init
loop-bucket-init c =
    let i = c.args.grove.now in
    let e = c.into_iter-bucket-iterator.ensures.into_iter_gives in (
      subst Stands (sym e) c.onward-bucket-items.ensures.stands,
      tt,
      writing_starts i.table i.pool i.forest c.args.first c.args.second c.args.number _ c.args.places.now c.requires.held (ap left e ∙ c.onward-bucket-items.ensures.left),
    )

pub root-root-requires : goal.root-root-requires
root-root-requires c = small c.args.grove.now.table c.in-Some.bucket (held (goal.at.root-root-requires c).In-Some)

pub span-place-requires-clause-tree : goal.span-place-requires-clause-tree
span-place-requires-clause-tree c =
    let i = c.args.grove.now in
    here_stands i.table i.pool i.forest c.in-Some.bucket (held (goal.at.span-place-requires-clause-tree c).In-Some) c.root-root.result c.root-root.ensures

pub span-place-requires-clause-room : goal.span-place-requires-clause-room
span-place-requires-clause-room c =
    let i = c.args.grove.now in
    writing_room i.table i.pool i.forest c.args.first c.args.second c.args.number c.in-Some.bucket c.loop-bucket.place c.root-root.result _ _ c.args.places.now c.loop-bucket.places
    c.loop-bucket.invariant.2 c.in-Some.ensures.steps c.root-root.ensures (omega (arith, c.requires.room, c.loop-bucket.auto.places))

pub loop-bucket-preserved : goal.loop-bucket-preserved
loop-bucket-preserved c =
    let i = c.args.grove.now in
    let on = c.in-Some.ensures.goes.on tt in (
      on.0,
      tt,
      writing_goes i.table i.pool i.forest c.args.first c.args.second c.args.number c.in-Some.bucket c.loop-bucket.place c.root-root.result c.span-place.result _ _ c.args.places.now c.loop-bucket.places c.span-place.new.out
          c.loop-bucket.invariant.2 c.in-Some.ensures.steps c.root-root.ensures c.span-place.ensures.places c.span-place.ensures.end,
    )

pub returns : goal.returns
returns c =
    let i = c.args.grove.now in
    writing_ends i.table i.pool i.forest c.args.first c.args.second c.args.number c.loop-bucket.place _ c.args.places.now c.loop-bucket.places c.loop-bucket.invariant.2 c.in-None.ensures.steps.0 c.requires.room
