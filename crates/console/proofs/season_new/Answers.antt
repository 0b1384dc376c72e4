use Rattle.std.proofs.Common.{◌-◌, arith}
use Rattle.console.proofs.Opens.{season_new}
use Rattle.console.proofs.season_new.Goals as goal

pub returns : goal.returns
returns g c =
    season_new _ _ _ _ _ c.args.tape.now c.args.deeds.now c.args.outcomes.now c.season.new.outcomes (c.min-count.result - 0) c.new_book-book.ensures (omega arith) c.season.ensures
