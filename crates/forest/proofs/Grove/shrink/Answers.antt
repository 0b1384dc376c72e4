use Rattle.std.proofs.Common.{ap, arith}
use Rattle.buckets.proofs.Lays.{small}
use Rattle.forest.proofs.Alters.{unwritten, root_set, size_set}
use Rattle.forest.proofs.Plants.{shrink_ready, one_more, left, give_ready, shrunk}
use Rattle.forest.proofs.Grove.shrink.Goals as goal

pub root-root-requires : goal.root-root-requires
root-root-requires c = small c.args.self.now.table c.args.number c.requires.stands

pub remove-shrunk-requires : goal.remove-shrunk-requires
remove-shrunk-requires c =
    shrink_ready c.args.self.now.table c.args.self.now.pool c.args.number c.root-root.result c.args.key c.args.self.now.forest c.requires.stands c.requires.held c.root-root.ensures

pub give-requires : goal.give-requires
give-requires c = (
  left c.args.self.now.table c.args.self.now.pool c.args.number c.root-root.result c.args.key c.args.self.now.forest c.requires.stands c.requires.held c.root-root.ensures
      c.remove-shrunk.new.nodes c.remove-shrunk.result c.remove-shrunk.ensures,
  give_ready c.args.self.now.table c.args.self.now.pool c.args.number c.root-root.result c.args.key c.args.self.now.forest c.requires.stands c.requires.held c.root-root.ensures
      c.remove-shrunk.new.nodes c.remove-shrunk.result c.remove-shrunk.ensures,
)

pub set_root-requires : goal.set_root-requires
set_root-requires c = small c.args.self.now.table c.args.number c.requires.stands

pub size-size-requires : goal.size-size-requires
size-size-requires c = small c.args.self.now.table c.args.number c.requires.stands

pub overflow_sub-size : goal.overflow_sub-size
overflow_sub-size c = omega (
  arith,
  c.size-size.ensures,
  ap (λ g. g c.args.number) c.set_root.ensures.reads.size,
  one_more c.args.self.now.table c.args.self.now.pool c.args.number c.root-root.result c.args.key c.args.self.now.forest c.requires.stands c.requires.held c.root-root.ensures
      c.remove-shrunk.new.nodes c.remove-shrunk.result c.remove-shrunk.ensures,
)

pub set_size-requires : goal.set_size-requires
set_size-requires c = small c.args.self.now.table c.args.number c.requires.stands

pub invariant_of-self : goal.invariant_of-self
invariant_of-self c =
    let t = c.args.self.now.table in
    let w = size_set t c.set_root.new.self c.set_size.new.self c.args.number _
    (root_set t t c.set_root.new.self c.args.number c.remove-shrunk.result.root (unwritten t) c.set_root.ensures.order c.set_root.ensures.reads)
    c.set_size.ensures.order c.set_size.ensures.reads in
    record {
      forest = (shrunk t c.args.self.now.pool c.args.number c.root-root.result c.args.key c.args.self.now.forest c.requires.stands c.requires.held c.root-root.ensures
          c.remove-shrunk.new.nodes c.remove-shrunk.result c.remove-shrunk.ensures c.set_size.new.self _ _ c.give.ensures.nodes
          (c.give.ensures.shared _ (give_ready t c.args.self.now.pool c.args.number c.root-root.result c.args.key c.args.self.now.forest c.requires.stands c.requires.held c.root-root.ensures
          c.remove-shrunk.new.nodes c.remove-shrunk.result c.remove-shrunk.ensures)) w
          (omega (arith, c.size-size.ensures, ap (λ g. g c.args.number) c.set_root.ensures.reads.size))).0;
    }

pub returns : goal.returns
returns c =
    let t = c.args.self.now.table in
    let w = size_set t c.set_root.new.self c.set_size.new.self c.args.number _
    (root_set t t c.set_root.new.self c.args.number c.remove-shrunk.result.root (unwritten t) c.set_root.ensures.order c.set_root.ensures.reads)
    c.set_size.ensures.order c.set_size.ensures.reads in
    (shrunk t c.args.self.now.pool c.args.number c.root-root.result c.args.key c.args.self.now.forest c.requires.stands c.requires.held c.root-root.ensures
    c.remove-shrunk.new.nodes c.remove-shrunk.result c.remove-shrunk.ensures c.set_size.new.self _ _ c.give.ensures.nodes
    (c.give.ensures.shared _ (give_ready t c.args.self.now.pool c.args.number c.root-root.result c.args.key c.args.self.now.forest c.requires.stands c.requires.held c.root-root.ensures
    c.remove-shrunk.new.nodes c.remove-shrunk.result c.remove-shrunk.ensures)) w
    (omega (arith, c.size-size.ensures, ap (λ g. g c.args.number) c.set_root.ensures.reads.size))).1
