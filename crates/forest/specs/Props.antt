-- That the trees stand in one pool has one proof at most, so a grove can carry it.
use Rattle.std.proofs.Props.{props}
use Rattle.buckets.specs.declared.Table.{Table}
use Rattle.trees.specs.Props.{Standing-prop}
use Rattle.avl.specs.declared.pool.Pool.{Pool}
use Rattle.forest.specs.Forests.{Forest}

pub Forest-prop : (t : Table) (p : Pool) → IsProp (Forest t p)
Forest-prop t p = Prim.hlevel (Standing-prop, props)
