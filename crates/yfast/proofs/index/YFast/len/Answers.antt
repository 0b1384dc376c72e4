use Rattle.std.proofs.Common.{length, sym, ap, ◌∙◌}
use Rattle.inside.specs.Spans.{kept_in}
use Rattle.inside.proofs.Finds.{whole_of}
use Rattle.inside.proofs.Lists.{counted_all}
use Rattle.yfast.proofs.index.YFast.len.Goals as goal

pub returns-in-Some : goal.returns-in-Some
returns-in-Some g c =
    let x = c.args.self.now in
    let d = g.D.Dictionary in
    counted_all g.K.Key.width (d.pairs x.dictionary) (d.room x.dictionary) (d.frames x.dictionary) c.in-Some.inside g.met.K.Key.wide.1 (whole_of _ _ _ _ x.inside c.in-Some.inside c.in-Some.is x.sound)
    ∙ ap (λ o. length (kept_in o)) (sym c.in-Some.is)
