use Rattle.std.proofs.Common.{length, sym, ap, ◌∙◌, arith}
use Rattle.inside.specs.Spans.{kept_in, over}
use Rattle.inside.proofs.Finds.{whole_of}
use Rattle.inside.proofs.Lists.{zero_held, all_spanned}
use Rattle.yfast.proofs.index.YFast.list.Goals as goal

pub write_span-requires : goal.write_span-requires
write_span-requires g c =
    let x = c.args.self.now in
    let i = c.in-Some.inside in
    let d = g.D.Dictionary in
    let wh = whole_of g.K.Key.width (d.pairs x.dictionary) (d.room x.dictionary) (d.frames x.dictionary) x.inside i c.in-Some.is x.sound in
    let same = ap length (all_spanned _ _ _ _ i g.met.K.Key.wide.1 wh ∙ ap kept_in (sym c.in-Some.is)) in
    record { held = zero_held i; room = omega (arith, same, c.requires) }

pub returns-in-Some : goal.returns-in-Some
returns-in-Some g c =
    let x = c.args.self.now in
    let i = c.in-Some.inside in
    let d = g.D.Dictionary in
    let wh = whole_of g.K.Key.width (d.pairs x.dictionary) (d.room x.dictionary) (d.frames x.dictionary) x.inside i c.in-Some.is x.sound in
    c.write_span.ensures ∙ ap (λ xs. over xs c.args.places.now) (all_spanned _ _ _ _ i g.met.K.Key.wide.1 wh ∙ ap kept_in (sym c.in-Some.is))
