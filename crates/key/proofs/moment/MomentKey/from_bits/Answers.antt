use Rattle.std.proofs.Common.{◌≡◌, ◌/◌, ◌^◌, sym, arith, rules}
use Rattle.key.specs.Same.{moments}
use Rattle.key.specs.Within.{reads}
use Rattle.key.proofs.moment.MomentKey.from_bits.Goals as goal

pub returns : goal.returns
returns c =
    let high : c.in_ok-ok.field-0 ≡ c.args.number / 2 ^ 16 = search rules in
    sym (reads moments c.args.number _ (omega arith))
