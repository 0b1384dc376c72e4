-- Insertions into a tree whose entries are known, one after another.
use Rattle.std.proofs.Common.{◌≡◌, ℕ, ◌<◌, List, [], ◌∷◌, length, refl, ap, ◌∙◌, arith}
use Rattle.entry.specs.declared.Entry.{Entry}
use Rattle.entry.specs.Lists.{at, put}
use Rattle.trees.specs.declared.Node.{Node}
use Rattle.trees.specs.Counts.{times}
use Rattle.trees.specs.Trees.{entries, places}
use Rattle.trees.specs.Pools.{Standing, tree_at, entries_at, places_at}
use Rattle.trees.proofs.Pools.{standing_none, end_is}
use Rattle.avl.specs.declared.grow.Grown.{Grown}
use Rattle.avl.specs.Grows.{Fresh, Grew}

-- the tree under an index, its entries and its places
pub record Known (ns : List Node) (root : ℕ) (es : List Entry) (ps : List ℕ) : Type 0 where
  pub stands : Standing ns root
  pub entries_are : entries_at ns root ≡ es
  pub places_are : (m : ℕ) → times m (places_at ns root) ≡ times m ps
  pub long : length ns ≡ 3

pub known_none : (ns : List Node) → length ns ≡ 3 → Known ns 65535 [] []
known_none ns long = record {
  stands = standing_none ns (omega arith);
  entries_are = ap entries (end_is ns 65535 refl);
  places_are = λ m. ap (λ t. times m (places t)) (end_is ns 65535 refl);
  long = long;
}

pub known_fresh : (ns : List Node) (root fresh key : ℕ) (es : List Entry) (ps : List ℕ) → Known ns root es ps → fresh < 3 → times fresh ps ≡ 0 → at key es ≡ [] → Fresh ns root fresh key
known_fresh ns root fresh key es ps k lt free new = record {
  stands = k.stands;
  inside = omega (arith, k.long);
  free = k.places_are fresh ∙ free;
  new = ap (at key) k.entries_are ∙ new;
}

pub known_grown : (ns ms : List Node) (root fresh : ℕ) (r : Grown) (e : Entry) (es : List Entry) (ps : List ℕ) → Known ns root es ps → Grew ns ms r fresh e (tree_at ns root) (tree_at ms r.root) → Known ms r.root (put e es) (fresh ∷ ps)
known_grown ns ms root fresh r e es ps k g = record {
  stands = g.stands;
  entries_are = g.holds ∙ ap (put e) k.entries_are;
  places_are = λ m. omega (arith, g.spots m, k.places_are m);
  long = g.kept.long ∙ k.long;
}
