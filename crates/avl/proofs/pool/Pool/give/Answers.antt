use Rattle.std.proofs.Common.{◌∷◌, arith}
use Rattle.avl.specs.Spares.{free}
use Rattle.avl.proofs.Spares.{shared_size, given_back}
use Rattle.avl.proofs.pool.Pool.give.Goals as goal

pub push-requires : goal.push-requires
push-requires c = (omega arith, omega (arith, shared_size (c.args.node ∷ c.requires.0) (free c.args.self.now) c.requires.1))

pub returns-clause-shared : goal.returns-clause-shared
returns-clause-shared c = λ used s. given_back used (free c.args.self.now) _ c.args.node c.push.ensures.items s
