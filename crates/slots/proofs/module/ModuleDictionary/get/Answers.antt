use Rattle.std.proofs.Common.{rules, sym}
use Rattle.slots.proofs.Rows.{pairs_found, pairs_none}
use Rattle.slots.proofs.module.ModuleDictionary.get.Goals as goal

pub returns-in_err-at-clause-value : goal.returns-in_err-at-clause-value
returns-in_err-at-clause-value g c = let none = pairs_none _ _ c.in_err-at.ensures in search rules

pub returns-clause-value : goal.returns-clause-value
returns-clause-value g c =
    let l = c.args.self.now.layout in
    let found = pairs_found (g.L.Layout.rows l) (g.met.L.Layout.apart l) c.in_ok-at.at c.args.node c.in_ok-at.ensures.0 c.in_ok-at.ensures.1 in
    rw (c.slots.ensures) (sym found)
