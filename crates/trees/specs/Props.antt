-- That a tree stands has one proof at most, so a type can carry it.
use Rattle.std.specs.Prelude.{ℕ, List}
use Rattle.std.specs.Coded.{Coded-set, Unit-prop}
use Rattle.std.proofs.Props.{props}
use Rattle.entry.specs.Props.{Rising-prop}
use Rattle.trees.specs.contracts.Node as node_row
use Rattle.trees.specs.declared.Node.{Node}
use Rattle.trees.specs.Trees.{Tree, leaf, node, Balanced}
use Rattle.trees.specs.Pools.{Lies, Stands, Standing}

pub Balanced-prop : (t : Tree) → IsProp (Balanced t)
Balanced-prop leaf = Unit-prop
Balanced-prop (node i e l r) = Prim.hlevel (Balanced-prop l, Balanced-prop r, props)

Node-set : IsSet Node
Node-set = Coded-set node_row.the_row.coded

pub Lies-prop : (ns : List Node) (t : Tree) → IsProp (Lies ns t)
Lies-prop ns leaf = Unit-prop
Lies-prop ns (node i e l r) = Prim.hlevel (Lies-prop ns l, Lies-prop ns r, Node-set, props)

pub Standing-prop : (ns : List Node) (root : ℕ) → IsProp (Standing ns root)
Standing-prop ns root = Prim.hlevel (Lies-prop, Balanced-prop, Rising-prop, props)
