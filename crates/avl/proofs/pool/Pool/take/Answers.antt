use Rattle.avl.proofs.Spares.{took}
use Rattle.avl.proofs.pool.Pool.take.Goals as goal

pub returns-clause-took : goal.returns-clause-took
returns-clause-took c = took c.args.self.now (record { nodes = c.args.self.now.nodes; spare = c.pop.new.self; whole = c.args.self.now.whole }) c.pop.result c.pop.ensures.items c.pop.ensures.variant
