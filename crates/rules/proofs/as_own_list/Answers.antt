use Rattle.rules.proofs.as_own_list.Goals as goal
use Rattle.rules.proofs.Running.{as_own_list}

pub returns : goal.returns
returns g c =
    let met = g.met.K.Key in
    as_own_list _ (record {
      wide = met.wide;
      below = met.below;
      again = met.again;
      exact = met.exact;
      every = met.every;
      ordered = met.ordered;
    })
