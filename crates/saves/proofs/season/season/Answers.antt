use Rattle.std.proofs.Common.{ℕ, ◌+◌, ◌-◌, ◌<◌, min, length, get_or, take, drop, refl, ap, ◌∙◌, arith}
use Rattle.saves.specs.declared.season.Deed.TheVariants.{Command}
use Rattle.saves.proofs.Seasons.{going_start, going_more, gone}
use Rattle.saves.proofs.season.season.Goals as goal

pub loop-i-init : goal.loop-i-init
loop-i-init g c = going_start (g.B.Ledger.view c.args.book.now) c.args.tape.now c.args.deeds.now c.args.outcomes.now

pub loop-i-preserved : goal.loop-i-preserved
loop-i-preserved g c =
    let m = g.B.Ledger in
    let i = c.loop-i.i in
    let at = c.loop-i.at in
    let tape = c.args.tape.now in
    let deeds = c.args.deeds.now in
    let end = at + c.min.result in
    let room : i < length c.loop-i.outcomes = omega (arith, c.requires, c.loop-i.auto.outcomes, c.loop-i-test.true) in
    going_more (m.view c.args.book.now) (m.view c.loop-i.book) (m.view c.act.new.book) tape (take (end - at) (drop at tape)) deeds c.args.outcomes.now c.loop-i.outcomes i at end
    (get_or deeds i (Command 0)) (Command 0) c.act.result c.loop-i-test.true room c.loop-i.invariant refl
    (ap (λ (k : ℕ). at + k) c.min.ensures ∙ ap (λ (k : ℕ). at + min k (length tape - at)) c.length.ensures) refl c.act.ensures

pub returns : goal.returns
returns g c =
    let m = g.B.Ledger in
    gone (m.view c.args.book.now) (m.view c.loop-i.book) c.args.tape.now c.args.deeds.now c.args.outcomes.now c.loop-i.outcomes c.loop-i.i c.loop-i.at
    (omega (arith, c.loop-i-test.false, c.loop-i.auto.i-end)) c.loop-i.invariant
