use Rattle.std.proofs.Common.{arith}
use Rattle.console.proofs.Opens.{ran_front, ran_new}
use Rattle.console.proofs.run_new.Goals as goal

pub returns : goal.returns
returns g c =
    ran_new _ _ _ _ _ c.args.script.now c.args.answers.now c.run.new.answers c.new_book-book.ensures
    (ran_front _ _ c.args.script.now c.args.answers.now c.run.new.answers c.min-count.result c.min-end.result c.run.result (omega (arith, c.div_ceil.ensures)) c.min-end.ensures c.run.ensures.count c.run.ensures.ran)
