use Rattle.std.proofs.Common.{◌^◌, ◌<◌, get_or, sym, ap, ◌∙◌, arith}
use Rattle.key.specs.Same.{names}
use Rattle.key.specs.Within.{reads}
use Rattle.digits.proofs.Sevens.{seven_back}
use Rattle.std.specs.Int.Digits.{number_from_digits}
use Rattle.key.proofs.name.NameKey.from_bits.Goals as goal

pub returns : goal.returns
returns c =
    let n = c.args.number in
    let small : n < 2 ^ 56 = omega (arith, ap (λ bs. get_or bs 0 0) c.to_be_bytes.ensures) in
    let bytes = rw c.to_be_bytes.ensures at c.new.ensures in
    sym (reads names n _ (ap (number_from_digits 256) bytes ∙ seven_back n small))
