use Rattle.inside.proofs.Running.{Running}
use Rattle.yfast.proofs.index.YFast.run.Given as goal

abbrev pub invariant-loop-i : goal.invariant-loop-i
invariant-loop-i g l =
    let d = l.initial.self.dictionary in
    let e = l.self.dictionary in
    Running g.K.Key.width l.calls l.initial.answers l.initial.places (g.D.Dictionary.pairs d) (g.D.Dictionary.room d) (g.D.Dictionary.frames d) l.initial.self.inside
    l.i l.answers l.places (g.D.Dictionary.pairs e) (g.D.Dictionary.room e) (g.D.Dictionary.frames e) l.self.inside
