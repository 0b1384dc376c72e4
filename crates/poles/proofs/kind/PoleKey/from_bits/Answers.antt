use Rattle.std.proofs.Common.{◌≡◌, sym, arith, rules}
use Rattle.key.specs.Within.{reads}
use Rattle.poles.specs.Poles.{poles}
use Rattle.poles.proofs.kind.PoleKey.from_bits.Goals as goal

pub returns : goal.returns
returns c =
    let number : c.in_ok-ok.field-0 ≡ c.args.number = search rules in
    sym (reads poles c.args.number _ (omega arith))
