use Rattle.std.proofs.Common.{refl, ap, arith}
use Rattle.buckets.proofs.Lays.{small}
use Rattle.trees.proofs.Pools.{size}
use Rattle.forest.proofs.Alters.{stand, sized, unwritten, root_set, size_set}
use Rattle.forest.proofs.Plants.{grow_ready, grown}
use Rattle.forest.proofs.Grove.grow.Goals as goal

pub root-root-requires : goal.root-root-requires
root-root-requires c = small c.args.self.now.table c.args.number c.requires.stands

pub insert-grown-requires : goal.insert-grown-requires
insert-grown-requires c =
    grow_ready c.args.self.now.table c.args.self.now.pool c.take.new.self c.args.number c.in-Some.fresh c.root-root.result c.args.new c.args.self.now.forest c.requires.stands
    c.requires.new c.take.ensures.nodes (c.in-Some.ensures.took.1 _ c.args.self.now.forest.shared) c.root-root.ensures

pub set_root-requires : goal.set_root-requires
set_root-requires c = small c.args.self.now.table c.args.number c.requires.stands

pub size-size-requires : goal.size-size-requires
size-size-requires c = small c.args.self.now.table c.args.number c.requires.stands

pub overflow_add-size : goal.overflow_add-size
overflow_add-size c =
    let t = c.args.self.now.table in
    omega (
      arith,
      c.size-size.ensures,
      ap (λ g. g c.args.number) c.set_root.ensures.reads.size,
      sized t c.args.self.now.pool c.args.self.now.forest c.args.number c.requires.stands,
      size _ _ (stand t c.args.self.now.pool c.args.self.now.forest c.args.number c.requires.stands),
    )

pub set_size-requires : goal.set_size-requires
set_size-requires c = small c.args.self.now.table c.args.number c.requires.stands

pub invariant_of-self : goal.invariant_of-self
invariant_of-self c =
    let t = c.args.self.now.table in
    let w = size_set t c.set_root.new.self c.set_size.new.self c.args.number _
    (root_set t t c.set_root.new.self c.args.number c.insert-grown.result.root (unwritten t) c.set_root.ensures.order c.set_root.ensures.reads)
    c.set_size.ensures.order c.set_size.ensures.reads in
    record {
      forest = (grown t c.args.self.now.pool c.take.new.self c.args.number c.in-Some.fresh c.root-root.result c.args.new c.args.self.now.forest c.requires.stands
          c.requires.new c.take.ensures.nodes (c.in-Some.ensures.took.1 _ c.args.self.now.forest.shared) c.root-root.ensures
          c.set_size.new.self _ _ c.insert-grown.result refl c.insert-grown.ensures w
          (omega (arith, c.size-size.ensures, ap (λ g. g c.args.number) c.set_root.ensures.reads.size))).0;
    }

pub returns : goal.returns
returns c =
    let t = c.args.self.now.table in
    let w = size_set t c.set_root.new.self c.set_size.new.self c.args.number _
    (root_set t t c.set_root.new.self c.args.number c.insert-grown.result.root (unwritten t) c.set_root.ensures.order c.set_root.ensures.reads)
    c.set_size.ensures.order c.set_size.ensures.reads in
    (grown t c.args.self.now.pool c.take.new.self c.args.number c.in-Some.fresh c.root-root.result c.args.new c.args.self.now.forest c.requires.stands
    c.requires.new c.take.ensures.nodes (c.in-Some.ensures.took.1 _ c.args.self.now.forest.shared) c.root-root.ensures
    c.set_size.new.self _ _ c.insert-grown.result refl c.insert-grown.ensures w
    (omega (arith, c.size-size.ensures, ap (λ g. g c.args.number) c.set_root.ensures.reads.size))).1
