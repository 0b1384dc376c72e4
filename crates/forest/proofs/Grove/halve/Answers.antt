use Rattle.std.proofs.Common.{refl, arith}
use Rattle.buckets.proofs.Lays.{small}
use Rattle.forest.proofs.Alters.{unwritten, root_set, size_set}
use Rattle.forest.proofs.Walks.{walk_ready, walk_room, walk_done}
use Rattle.forest.proofs.Middles.{parted, halving, halve_low, halve_high, halved}
use Rattle.forest.proofs.Grove.halve.Goals as goal

pub root-requires : goal.root-requires
root-requires c = small c.args.self.now.table c.args.number c.requires.stands

pub walk-count-requires : goal.walk-count-requires
walk-count-requires c = record {
  tree = walk_ready c.args.self.now.table c.args.self.now.pool c.args.number c.root.result c.args.self.now.forest c.requires.stands c.root.ensures;
  room = omega (arith, walk_room c.args.self.now.table c.args.self.now.pool c.args.number c.root.result c.args.self.now.forest c.requires.stands c.root.ensures);
}

pub split_at-requires : goal.split_at-requires
split_at-requires c =
    let w = walk_done c.args.self.now.table c.args.self.now.pool c.args.number c.root.result c.args.self.now.forest c.requires.stands c.root.ensures c.walk-count.result _ c.walk-count.new.row refl c.walk-count.ensures.places c.walk-count.ensures.end in
    omega (arith, w.few, w.long)

pub split_at-requires-2 : goal.split_at-requires-2
split_at-requires-2 c =
    let w = walk_done c.args.self.now.table c.args.self.now.pool c.args.number c.root.result c.args.self.now.forest c.requires.stands c.root.ensures c.walk-count.result _ c.walk-count.new.row refl c.walk-count.ensures.places c.walk-count.ensures.end in
    omega (arith, w.few, w.long, c.split_at.ensures.back_len)

pub build-low_root-requires : goal.build-low_root-requires
build-low_root-requires c =
    let w = walk_done c.args.self.now.table c.args.self.now.pool c.args.number c.root.result c.args.self.now.forest c.requires.stands c.root.ensures c.walk-count.result _ c.walk-count.new.row refl c.walk-count.ensures.places c.walk-count.ensures.end in
    let h = parted c.args.self.now.table c.args.self.now.pool c.args.number c.walk-count.result _ c.walk-count.new.row c.args.self.now.forest c.requires.stands w (omega arith) _ c.split_at.result.0.now c.split_at.result.1.now c.split_at-2.result.0.now (omega arith) c.split_at.ensures.front c.split_at.ensures.back c.split_at-2.ensures.front in
    halve_low c.args.self.now.table c.args.self.now.pool c.args.number c.args.other _ c.split_at.result.0.now c.split_at-2.result.0.now c.args.self.now.forest c.requires.stands h

pub build-high_root-requires : goal.build-high_root-requires
build-high_root-requires c =
    let w = walk_done c.args.self.now.table c.args.self.now.pool c.args.number c.root.result c.args.self.now.forest c.requires.stands c.root.ensures c.walk-count.result _ c.walk-count.new.row refl c.walk-count.ensures.places c.walk-count.ensures.end in
    let h = parted c.args.self.now.table c.args.self.now.pool c.args.number c.walk-count.result _ c.walk-count.new.row c.args.self.now.forest c.requires.stands w (omega arith) _ c.split_at.result.0.now c.split_at.result.1.now c.split_at-2.result.0.now (omega arith) c.split_at.ensures.front c.split_at.ensures.back c.split_at-2.ensures.front in
    halve_high c.args.self.now.table c.args.self.now.pool c.args.number c.args.other _ c.split_at.result.0.now c.split_at-2.result.0.now c.args.self.now.forest c.requires.stands h c.build-low_root.new.nodes c.build-low_root.result c.build-low_root.ensures

pub set_root-requires : goal.set_root-requires
set_root-requires c = small c.args.self.now.table c.args.number c.requires.stands

pub set_size-requires : goal.set_size-requires
set_size-requires c = small c.args.self.now.table c.args.number c.requires.stands

pub set_root-requires-2 : goal.set_root-requires-2
set_root-requires-2 c = small c.args.self.now.table c.args.other c.requires.beside

pub set_size-requires-2 : goal.set_size-requires-2
set_size-requires-2 c = small c.args.self.now.table c.args.other c.requires.beside

pub invariant_of-self : goal.invariant_of-self
invariant_of-self c =
    let t = c.args.self.now.table in
    let w1 = root_set t t c.set_root.new.self c.args.number c.build-low_root.result (unwritten t) c.set_root.ensures.order c.set_root.ensures.reads in
    let w2 = size_set t c.set_root.new.self c.set_size.new.self c.args.number _ w1 c.set_size.ensures.order c.set_size.ensures.reads in
    let w3 = root_set t c.set_size.new.self c.set_root-2.new.self c.args.other c.build-high_root.result w2 c.set_root-2.ensures.order c.set_root-2.ensures.reads in
    let w4 = size_set t c.set_root-2.new.self c.set_size-2.new.self c.args.other _ w3 c.set_size-2.ensures.order c.set_size-2.ensures.reads in
    let w = walk_done c.args.self.now.table c.args.self.now.pool c.args.number c.root.result c.args.self.now.forest c.requires.stands c.root.ensures c.walk-count.result _ c.walk-count.new.row refl c.walk-count.ensures.places c.walk-count.ensures.end in
    let h = parted c.args.self.now.table c.args.self.now.pool c.args.number c.walk-count.result _ c.walk-count.new.row c.args.self.now.forest c.requires.stands w (omega arith) _ c.split_at.result.0.now c.split_at.result.1.now c.split_at-2.result.0.now (omega arith) c.split_at.ensures.front c.split_at.ensures.back c.split_at-2.ensures.front in
    record {
      forest = (halved c.args.self.now.table c.args.self.now.pool c.args.number c.args.other _ c.split_at.result.0.now c.split_at-2.result.0.now c.args.self.now.forest c.requires.stands h c.build-low_root.new.nodes c.build-low_root.result c.build-low_root.ensures c.set_size-2.new.self _ c.build-high_root.result _ _ c.build-high_root.ensures
          c.requires.beside c.requires.apart c.requires.empty w4 (omega arith) (omega arith) refl (halving c.args.self.now.table c.args.self.now.pool c.args.number c.walk-count.result _ c.walk-count.new.row c.args.self.now.forest c.requires.stands w (omega arith))).0;
    }

pub returns : goal.returns
returns c =
    let t = c.args.self.now.table in
    let w1 = root_set t t c.set_root.new.self c.args.number c.build-low_root.result (unwritten t) c.set_root.ensures.order c.set_root.ensures.reads in
    let w2 = size_set t c.set_root.new.self c.set_size.new.self c.args.number _ w1 c.set_size.ensures.order c.set_size.ensures.reads in
    let w3 = root_set t c.set_size.new.self c.set_root-2.new.self c.args.other c.build-high_root.result w2 c.set_root-2.ensures.order c.set_root-2.ensures.reads in
    let w4 = size_set t c.set_root-2.new.self c.set_size-2.new.self c.args.other _ w3 c.set_size-2.ensures.order c.set_size-2.ensures.reads in
    let w = walk_done c.args.self.now.table c.args.self.now.pool c.args.number c.root.result c.args.self.now.forest c.requires.stands c.root.ensures c.walk-count.result _ c.walk-count.new.row refl c.walk-count.ensures.places c.walk-count.ensures.end in
    let h = parted c.args.self.now.table c.args.self.now.pool c.args.number c.walk-count.result _ c.walk-count.new.row c.args.self.now.forest c.requires.stands w (omega arith) _ c.split_at.result.0.now c.split_at.result.1.now c.split_at-2.result.0.now (omega arith) c.split_at.ensures.front c.split_at.ensures.back c.split_at-2.ensures.front in
    (halved c.args.self.now.table c.args.self.now.pool c.args.number c.args.other _ c.split_at.result.0.now c.split_at-2.result.0.now c.args.self.now.forest c.requires.stands h c.build-low_root.new.nodes c.build-low_root.result c.build-low_root.ensures c.set_size-2.new.self _ c.build-high_root.result _ _ c.build-high_root.ensures
    c.requires.beside c.requires.apart c.requires.empty w4 (omega arith) (omega arith) refl (halving c.args.self.now.table c.args.self.now.pool c.args.number c.walk-count.result _ c.walk-count.new.row c.args.self.now.forest c.requires.stands w (omega arith))).1
