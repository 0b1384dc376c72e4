use Rattle.std.proofs.Common.{◌<◌, ◌≤◌, List, length, sym, refl, ap, subst, arith}
use Rattle.entry.specs.declared.Entry.{Entry}
use Rattle.entry.specs.Lists.{between}
use Rattle.rows.proofs.Served.{InRow}
use Rattle.buckets.specs.Tables.{rep_of, order_of}
use Rattle.ordered.specs.declared.calls.Answer.{Answer}
use Rattle.ordered.specs.declared.calls.Call.TheVariants.{Range}
use Rattle.ordered.specs.declared.refusal.Refusal.TheVariants.{Room}
use Rattle.runs.specs.States.{Answered}
use Rattle.ordered.specs.Answers.{no_of}
use Rattle.inside.specs.Spans.{onward}
use Rattle.inside.proofs.Parts.{held_in}
use Rattle.inside.proofs.Finds.{barred_does, whole_of, open_does}
use Rattle.inside.proofs.Ranges.{wrote, span_bound, room_told, written_told, range_step}
use Rattle.yfast.proofs.index.YFast.range.Goals as goal

answer_with : List Entry → Answer → Answered
answer_with ps r = record { answer = r; places = ps }

pub returns-in-Err-clause-does : goal.returns-in-Err-clause-does
returns-in-Err-clause-does g c =
    let x = c.args.self.now in
    barred_does _ _ _ _ _ _ _ g.met.K.Key.wide.0 (g.met.D.Dictionary.counts x.dictionary) c.in-Some.is c.in-Some.is x.sound (Range c.args.first c.args.second) c.args.places.now _ _ c.refused-in-Err.ensures (sym c.in-Err.ensures)

pub returns-then-number-places-clause-does : goal.returns-then-number-places-clause-does
unfolding answer_with
returns-then-number-places-clause-does g c =
    let a = c.args.first in
    let b = c.args.second in
    let ps = c.args.places.now in
    let i = c.in-Some.inside in
    let y = c.args.self.now in
    let d = y.dictionary in
    let e = c.locate-at.new.d in
    let w = g.K.Key.width in
    let f = g.D.Dictionary.pairs d in
    let room = g.D.Dictionary.room d in
    let tally = g.D.Dictionary.frames d in
    let n = g.D.Dictionary.frames e in
    let wh = whole_of w f room tally y.inside i c.in-Some.is y.sound in
    let m = c.locate-at.result.number in
    let fr = c.locate-at.result.frames in
    let cut = subst (InRow (rep_of i.grove.table) (order_of i.grove.table) a) (sym c.locate-at.ensures.number) (held_in w f i.grove.table wh.trie a) in
    let ys = between a b (onward i.grove.table i.grove.pool m) in
    let many : length ps < length ys = omega (arith, c.count_span-number.ensures, c.if-number-places.true) in
    let t = range_step w f room tally i g.met.K.Key.wide.0 wh a b ps n m cut (answer_with ps (no_of Room fr 0)) (sym c.in_default-admits.ensures)
    (room_told ys ps fr many) c.locate-at.ensures.frames refl refl (g.met.D.Dictionary.counts e) c.locate-at.ensures.tally in
    open_does w f (g.D.Dictionary.pairs e) tally n y.inside y.inside i (Range a b) ps _ (answer_with ps c.refused-then-number-places.result) c.in-Some.is c.in-Some.is c.locate-at.ensures.pairs (ap (answer_with ps) c.refused-then-number-places.ensures) t

pub overflow_cast-result : goal.overflow_cast-result
overflow_cast-result g c =
    let i = c.in-Some.inside in
    let y = c.args.self.now in
    let d = y.dictionary in
    let wh = whole_of g.K.Key.width (g.D.Dictionary.pairs d) (g.D.Dictionary.room d) (g.D.Dictionary.frames d) y.inside i c.in-Some.is y.sound in
    let few = span_bound g.K.Key.width (g.D.Dictionary.pairs d) (g.D.Dictionary.room d) (g.D.Dictionary.frames d) i wh c.args.first c.args.second c.locate-at.result.number in
    omega (arith, few, c.count_span-number.ensures)

pub returns-clause-does : goal.returns-clause-does
unfolding answer_with
returns-clause-does g c =
    let a = c.args.first in
    let b = c.args.second in
    let ps = c.args.places.now in
    let qs = c.write_span.new.places in
    let i = c.in-Some.inside in
    let y = c.args.self.now in
    let d = y.dictionary in
    let e = c.locate-at.new.d in
    let w = g.K.Key.width in
    let f = g.D.Dictionary.pairs d in
    let room = g.D.Dictionary.room d in
    let tally = g.D.Dictionary.frames d in
    let n = g.D.Dictionary.frames e in
    let wh = whole_of w f room tally y.inside i c.in-Some.is y.sound in
    let m = c.locate-at.result.number in
    let fr = c.locate-at.result.frames in
    let cut = subst (InRow (rep_of i.grove.table) (order_of i.grove.table) a) (sym c.locate-at.ensures.number) (held_in w f i.grove.table wh.trie a) in
    let ys = between a b (onward i.grove.table i.grove.pool m) in
    let fits : length ys ≤ length ps = omega (arith, c.count_span-number.ensures, c.if-number-places.false) in
    let x = answer_with qs (wrote c.count_span-number.result fr) in
    let t = range_step w f room tally i g.met.K.Key.wide.0 wh a b ps n m cut x (sym c.in_default-admits.ensures)
    (written_told ys ps qs c.count_span-number.result fr c.count_span-number.ensures c.write_span.ensures fits) c.locate-at.ensures.frames refl refl (g.met.D.Dictionary.counts e) c.locate-at.ensures.tally in
    open_does w f (g.D.Dictionary.pairs e) tally n y.inside y.inside i (Range a b) ps x x c.in-Some.is c.in-Some.is c.locate-at.ensures.pairs refl t
