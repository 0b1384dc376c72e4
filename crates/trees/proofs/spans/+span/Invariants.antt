use Rattle.trees.specs.Pools.{high}
use Rattle.trees.proofs.spans.+span.Given as goal

abbrev pub decreases-span : goal.decreases-span
decreases-span l = high l.nodes.now l.root
