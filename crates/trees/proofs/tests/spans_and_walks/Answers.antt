use Rattle.std.proofs.Common.{length, ap, arith}
use Rattle.entry.specs.Lists.{between}
use Rattle.trees.specs.Trees.{entries, places}
use Rattle.trees.proofs.Worked.{small_stands, small_is}
use Rattle.trees.proofs.tests.spans_and_walks.Goals as goal

pub count-requires : goal.count-requires
count-requires g c = small_stands

pub span-requires : goal.span-requires
span-requires g c = record { tree = small_stands; room = omega (arith, ap (λ t. length (between 10 20 (entries t))) small_is) }

pub walk-requires : goal.walk-requires
walk-requires g c = record { tree = small_stands; room = omega (arith, ap (λ t. length (places t)) small_is) }
