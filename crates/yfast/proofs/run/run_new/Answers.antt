use Rattle.std.proofs.Common.{◌≡◌, is_none, take, drop, sym, ap, ◌∙◌, subst}
use Rattle.ordered.specs.Kinds.{Kind, KindLaws}
use Rattle.inside.specs.Whole.{state_of}
use Rattle.inside.specs.Runs.{made, RanNew}
use Rattle.inside.proofs.Lawful.{ran_new}
use Rattle.yfast.proofs.run.run_new.Goals as goal

pub returns : goal.returns
returns g c =
    let met = g.met.K.Key in
    let kind : Kind g.row.K.Denot = record { width = g.K.Key.width; bits = g.K.Key.bits; key = g.K.Key.key; before = g.K.Key.before } in
    let laws : KindLaws kind = record { wide = met.wide; below = met.below; again = met.again; exact = met.exact; every = met.every; ordered = met.ordered } in
    let given = c.args.dictionary in
    let pairs = g.D.Dictionary.pairs in
    let room = g.D.Dictionary.room in
    let frames = g.D.Dictionary.frames in
    let d = c.new-index.result.dictionary in
    let i = c.new-index.result.inside in
    let e = c.run.new.self in
    let n = c.new-index.ensures in
    let r = c.run.ensures in
    let cs = c.args.calls.now in
    let ps = c.args.places.now in
    let rs = c.run.new.answers in
    let qs = c.run.new.places in
    let k = c.run.result in
    let σ' = state_of (pairs e.dictionary) (frames e.dictionary) e.inside in
    let ran = ran_new kind laws c.args.limit (pairs given) (frames given) (pairs d) (room d) (frames d) ps (take k cs) (take k rs) σ' qs i n.bare (λ s. (ap pairs (n.kept s).dictionary, ap frames (n.kept s).dictionary)) (λ s. ((n.made s).limit, (n.made s).tally)) (g.met.D.Dictionary.counts d) c.new-index.result.sound r.ran in
    record {
      shut = r.shut ∙ n.shut;
      ran =
          subst (λ x. RanNew x kind c.args.limit (pairs given) (frames given) ps (take (made cs c.args.answers.now) cs) (take (made cs c.args.answers.now) rs) σ' qs) (sym r.shut)
          (subst (λ x. RanNew (is_none i) kind c.args.limit (pairs given) (frames given) ps (take x cs) (take x rs) σ' qs) r.made ran);
      rest = subst (λ x. drop x rs ≡ drop x c.args.answers.now) r.made r.rest;
    }
