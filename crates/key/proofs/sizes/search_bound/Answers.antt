use Rattle.std.proofs.Common.{◌≡◌, ◌+◌, ◌-◌, ap, subst, arith}
use Rattle.key.specs.Widths.{LogUp, most}
use Rattle.key.proofs.Logs.{most_within}
use Rattle.key.proofs.sizes.search_bound.Goals as goal

pub returns : goal.returns
returns g c =
    let w = g.K.Key.width in
    let r = c.log_up.result in
    let log = rw c.bit_width.ensures at c.log_up.ensures in
    let value : 1 + r ≡ most w = ap (λ n. 1 + n) log.value in
    let same : r ≡ 1 + r - 1 = omega arith in
    let within = most_within w g.met.K.Key.wide.0 g.met.K.Key.wide.1 in
    record { value = value; least = subst (LogUp (w + 1)) same log.least; bounds = (omega (arith, value, within), omega (arith, value, within)) }
