use Rattle.std.proofs.Common.{is_some, sym, refl, ap, arith}
use Rattle.dictionary.specs.Pairs.{one_less}
use Rattle.slots.specs.Slots.{held}
use Rattle.slots.proofs.Rows.{pairs_found, pairs_none}
use Rattle.slots.proofs.Laws.{with_same}
use Rattle.slots.proofs.module.ModuleDictionary.drop_pair.Goals as goal

pub returns-in_default : goal.returns-in_default
returns-in_default g c =
    let xs = g.L.Layout.rows c.args.self.now.layout in
    let none = pairs_none xs c.args.node c.in_default.ensures in
    record { value = sym (ap is_some none); pairs = with_same _ _ _ none; held = sym (ap (λ o. one_less o (held xs)) none); room = refl; tally = c.raise.ensures }

pub returns : goal.returns
returns g c =
    let l = c.args.self.now.layout in
    let xs = g.L.Layout.rows l in
    let is = c.in-Some.ensures.1 in
    let some = pairs_found xs (g.met.L.Layout.apart l) c.in-Some.at c.args.node c.in-Some.ensures.0 is in
    record {
      value = sym (ap is_some some);
      pairs = rw is at c.erase.ensures.pairs;
      held = omega (arith, c.erase.ensures.held, ap (λ o. one_less o (held xs)) some);
      room = refl;
      tally = c.raise.ensures;
    }
