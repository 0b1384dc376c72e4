use Rattle.std.proofs.Common.{[]}
use Rattle.ordered.specs.declared.calls.Call.TheVariants.{Remove}
use Rattle.inside.proofs.Seen.{stepped_as}
use Rattle.yfast.proofs.meaning.YFastOrderedIndex.remove.Goals as goal

pub returns : goal.returns
returns g c =
    let e = c.remove.ensures in
    let x = c.args.self.now in
    let d = g.D.Dictionary in
    stepped_as g.K.Key.width g.met.K.Key.wide.0 g.met.K.Key.wide.1 (d.pairs x.dictionary) (d.room x.dictionary) (d.frames x.dictionary) x.inside
    (g.met.D.Dictionary.counts x.dictionary) x.sound (Remove c.args.key) [] c.remove.result [] _ _ _ e.shut e.limit e.does
