use Rattle.std.proofs.Common.{[], is_none, ap}
use Rattle.ordered.specs.declared.calls.Call.TheVariants.{Last}
use Rattle.inside.specs.Whole.{limit_of}
use Rattle.inside.proofs.Seen.{stepped_as}
use Rattle.yfast.proofs.meaning.YFastOrderedIndex.last.Goals as goal

pub returns : goal.returns
returns g c =
    let e = c.last.ensures in
    let x = c.args.self.now in
    let d = g.D.Dictionary in
    stepped_as g.K.Key.width g.met.K.Key.wide.0 g.met.K.Key.wide.1 (d.pairs x.dictionary) (d.room x.dictionary) (d.frames x.dictionary) x.inside
    (g.met.D.Dictionary.counts x.dictionary) x.sound (Last c.args.key) [] c.last.result [] _ _ _ (ap is_none e.inside) (ap limit_of e.inside) e.does
