use Rattle.std.proofs.Common.{◌≡◌, ◌<◌, is_none, take, drop, subst, arith}
use Rattle.std.proofs.lemmas.List.{length-take, get_or-take}
use Rattle.ordered.specs.declared.calls.Call.{Call}
use Rattle.ordered.specs.declared.calls.Call.TheVariants.{Add}
use Rattle.inside.specs.Whole.{limit_of, state_of, Does}
use Rattle.inside.specs.Runs.{Ran}
use Rattle.inside.proofs.Running.{with_places, running, runs_on, ran_of}
use Rattle.yfast.proofs.index.YFast.run.Goals as goal

pub loop-i-init : goal.loop-i-init
loop-i-init g c = running _ _ _ _ _ _ _ _

pub loop-i-preserved : goal.loop-i-preserved
loop-i-preserved g c =
    let n = c.min-number.result in
    let cs = c.args.calls.now in
    let at = c.loop-i.i in
    let x = c.loop-i.self in
    let y = c.call.new.self in
    let e = c.call.ensures in
    let below : at < n = omega (arith, length-take n cs, c.loop-i-test.true, c.min-number.ensures) in
    let same = get_or-take n cs at (Add 0 0) below in
    runs_on _ _ _ _ _ _ _ _ _ _ _ _ _ _ _ c.loop-i.invariant (Add 0 0) c.call.result c.call.new.places _ _ _ y.inside (omega (arith, below, c.min-number.ensures)) (omega (arith, below, c.min-number.ensures, c.loop-i.auto.answers)) e.limit e.shut e.room
    (subst (λ (k : Call). Does (is_none x.inside) g.K.Key.width (limit_of x.inside) (state_of (g.D.Dictionary.pairs x.dictionary) (g.D.Dictionary.frames x.dictionary) x.inside) k c.loop-i.places (with_places c.call.result c.call.new.places) (state_of (g.D.Dictionary.pairs y.dictionary) (g.D.Dictionary.frames y.dictionary) y.inside)) same e.does)

pub returns : goal.returns
returns g c =
    let w = g.K.Key.width in
    let d = c.args.self.now.dictionary in
    let i = c.args.self.now.inside in
    let e = c.loop-i.self.dictionary in
    let n = c.min-number.result in
    let inv = c.loop-i.invariant in
    let σ = state_of (g.D.Dictionary.pairs d) (g.D.Dictionary.frames d) i in
    let σ' = state_of (g.D.Dictionary.pairs e) (g.D.Dictionary.frames e) c.loop-i.self.inside in
    let at_end : c.loop-i.i ≡ n = omega (arith, length-take n c.args.calls.now, c.loop-i-test.false, c.min-number.ensures, c.loop-i.auto.i-end) in
    let ran = ran_of w (g.D.Dictionary.pairs d) (g.D.Dictionary.room d) (g.D.Dictionary.frames d) i g.met.K.Key.wide.0 g.met.K.Key.wide.1 (g.met.D.Dictionary.counts d) c.args.self.now.sound c.args.places.now (take c.loop-i.i c.args.calls.now) (take c.loop-i.i c.loop-i.answers) σ' c.loop-i.places inv.went in
    record {
      made = c.min-number.ensures;
      ran = subst (λ x. Ran (is_none i) w (limit_of i) σ c.args.places.now (take x c.args.calls.now) (take x c.loop-i.answers) σ' c.loop-i.places) at_end ran;
      rest = subst (λ x. drop x c.loop-i.answers ≡ drop x c.args.answers.now) at_end inv.rest;
      limit = inv.limit;
      shut = inv.shut;
      room = inv.room;
    }
