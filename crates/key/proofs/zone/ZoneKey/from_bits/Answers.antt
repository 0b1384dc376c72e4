use Rattle.std.proofs.Common.{◌≡◌, sym, arith, rules}
use Rattle.key.specs.Same.{zones}
use Rattle.key.specs.Within.{reads}
use Rattle.key.proofs.zone.ZoneKey.from_bits.Goals as goal

pub returns : goal.returns
returns c =
    let number : c.in_ok-ok.field-0 ≡ c.args.number = search rules in
    sym (reads zones c.args.number _ (omega arith))
