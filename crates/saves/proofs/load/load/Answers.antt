use Rattle.std.proofs.Common.{sym}
use Rattle.std.proofs.lemmas.Result.{err_from_is_err_and}
use Rattle.saves.proofs.Loading.{whole_load, whole_restores, taken_load, taken_restores, saved_again}
use Rattle.saves.proofs.load.load.Goals as goal

pub returns-in_err-may_begin : goal.returns-in_err-may_begin
returns-in_err-may_begin g c =
    let b = g.B.Ledger.view c.args.book.now in
    let p = err_from_is_err_and c.from_residual.result c.from_residual.ensures.1 in
    let h = sym c.in_err-may_begin.ensures in
    rw (p.1, p.2)
    (record {
      loads = whole_load b c.args.bytes.now _ h;
      restores = whole_restores b c.args.bytes.now _ h;
      again = tt;
    })

pub returns : goal.returns
returns g c =
    let m = g.B.Ledger in
    let b = m.view c.args.book.now in
    let b' = m.view c.take_all.new.book in
    let l = c.take_all.result in
    let fit = sym c.in_ok-may_begin.ensures in
    record {
      loads = taken_load b c.args.bytes.now l b' fit c.take_all.ensures;
      restores = taken_restores b c.args.bytes.now l b' fit c.take_all.ensures;
      again = saved_again b c.args.bytes.now l b' fit c.take_all.ensures;
    }
