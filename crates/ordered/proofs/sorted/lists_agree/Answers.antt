use Rattle.ordered.proofs.sorted.lists_agree.Goals as goal
use Rattle.ordered.proofs.Agree.{lists_agree}

pub returns : goal.returns
returns g c =
    let met = g.met.K.Key in
    lists_agree _ (record {
      wide = met.wide;
      below = met.below;
      again = met.again;
      exact = met.exact;
      every = met.every;
      ordered = met.ordered;
    })
