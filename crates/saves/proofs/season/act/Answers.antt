use Rattle.std.proofs.Common.{sym, subst}
use Rattle.saves.specs.declared.season.Deed.{Deed}
use Rattle.saves.specs.declared.season.Outcome.TheVariants.{Answered, Loaded}
use Rattle.saves.specs.Seasons.{Acts}
use Rattle.saves.proofs.Seasons.{acts_command, acts_load}
use Rattle.saves.proofs.season.act.Goals as goal

pub returns-in-Command : goal.returns-in-Command
returns-in-Command g c =
    let A : Deed → Type 0 = λ d. Acts (g.B.Ledger.view c.args.book.now) c.args.bytes.now d (Answered c.serve.result) (g.B.Ledger.view c.serve.new.book) in
    subst A (sym c.in-Command.is) (acts_command c.serve.ensures)

pub returns-in-Load : goal.returns-in-Load
returns-in-Load g c =
    let A : Deed → Type 0 = λ d. Acts (g.B.Ledger.view c.args.book.now) c.args.bytes.now d (Loaded c.load.result) (g.B.Ledger.view c.load.new.book) in
    subst A (sym c.in-Load.is) (acts_load c.load.ensures.loads)
