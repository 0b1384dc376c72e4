use Rattle.rules.proofs.search_finds.Goals as goal
use Rattle.rules.proofs.Search.{search_finds}

pub returns : goal.returns
returns c = λ w limit _ _ s so k h. search_finds w limit k s so h
