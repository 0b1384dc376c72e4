use Rattle.std.proofs.Common.{is_none, replicate, refl, arith}
use Rattle.inside.specs.Whole.{state_of}
use Rattle.tracks.proofs.Driving.{driven}
use Rattle.tracks.proofs.drive.Goals as goal

pub returns : goal.returns
returns g c =
    let run = c.run_new-index in
    let i = run.result in
    let d = g.D.Dictionary in
    driven _ c.script-calls.result (replicate 32 c.blank-answers.result) run.new.answers c.script-calls.ensures refl (omega (arith, run.auto.answers))
    _ (is_none i.inside) _ _ _ run.new.places (state_of (d.pairs i.dictionary) (d.frames i.dictionary) i.inside) refl run.ensures.shut run.ensures.ran
