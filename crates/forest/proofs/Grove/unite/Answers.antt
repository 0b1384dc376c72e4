use Rattle.std.proofs.Common.{refl, arith}
use Rattle.buckets.proofs.Lays.{small}
use Rattle.forest.proofs.Alters.{unwritten, root_set, size_set}
use Rattle.forest.proofs.Walks.{walk_ready, walk_room, walk_done, walk_behind}
use Rattle.forest.proofs.Unions.{both_room, unite_ready, united}
use Rattle.forest.proofs.Grove.unite.Goals as goal

pub root-requires : goal.root-requires
root-requires c = small c.args.self.now.table c.args.number c.requires.stands

pub walk-middle-requires : goal.walk-middle-requires
walk-middle-requires c = record {
  tree = walk_ready c.args.self.now.table c.args.self.now.pool c.args.number c.root.result c.args.self.now.forest c.requires.stands c.root.ensures;
  room = omega (arith, walk_room c.args.self.now.table c.args.self.now.pool c.args.number c.root.result c.args.self.now.forest c.requires.stands c.root.ensures);
}

pub root-requires-2 : goal.root-requires-2
root-requires-2 c = small c.args.self.now.table c.args.other c.requires.beside

pub walk-count-requires : goal.walk-count-requires
walk-count-requires c =
    let w = walk_done c.args.self.now.table c.args.self.now.pool c.args.number c.root.result c.args.self.now.forest c.requires.stands c.root.ensures c.walk-middle.result _ c.walk-middle.new.row refl c.walk-middle.ensures.places c.walk-middle.ensures.end in
    record {
      tree = walk_ready c.args.self.now.table c.args.self.now.pool c.args.other c.root-2.result c.args.self.now.forest c.requires.beside c.root-2.ensures;
      room = omega (arith, w.long, both_room c.args.self.now.table c.args.self.now.pool c.args.number c.args.other c.args.self.now.forest c.requires.stands c.requires.beside c.requires.apart c.requires.rising c.root-2.result c.walk-middle.result c.walk-middle.new.row c.root-2.ensures w);
    }

pub split_at-requires : goal.split_at-requires
split_at-requires c =
    let w = walk_done c.args.self.now.table c.args.self.now.pool c.args.number c.root.result c.args.self.now.forest c.requires.stands c.root.ensures c.walk-middle.result _ c.walk-middle.new.row refl c.walk-middle.ensures.places c.walk-middle.ensures.end in
    let v = walk_behind c.args.self.now.table c.args.self.now.pool c.args.other c.root-2.result c.args.self.now.forest c.requires.beside c.root-2.ensures _ c.walk-middle.new.row c.walk-count.new.row c.walk-middle.result c.walk-count.result w (both_room c.args.self.now.table c.args.self.now.pool c.args.number c.args.other c.args.self.now.forest c.requires.stands c.requires.beside c.requires.apart c.requires.rising c.root-2.result c.walk-middle.result c.walk-middle.new.row c.root-2.ensures w) c.walk-count.ensures.places c.walk-count.ensures.end in
    omega (arith, v.few, v.long)

pub build-root-requires : goal.build-root-requires
build-root-requires c =
    let w = walk_done c.args.self.now.table c.args.self.now.pool c.args.number c.root.result c.args.self.now.forest c.requires.stands c.root.ensures c.walk-middle.result _ c.walk-middle.new.row refl c.walk-middle.ensures.places c.walk-middle.ensures.end in
    let v = walk_behind c.args.self.now.table c.args.self.now.pool c.args.other c.root-2.result c.args.self.now.forest c.requires.beside c.root-2.ensures _ c.walk-middle.new.row c.walk-count.new.row c.walk-middle.result c.walk-count.result w (both_room c.args.self.now.table c.args.self.now.pool c.args.number c.args.other c.args.self.now.forest c.requires.stands c.requires.beside c.requires.apart c.requires.rising c.root-2.result c.walk-middle.result c.walk-middle.new.row c.root-2.ensures w) c.walk-count.ensures.places c.walk-count.ensures.end in
    unite_ready c.args.self.now.table c.args.self.now.pool c.args.number c.args.other c.args.self.now.forest c.requires.stands c.requires.beside c.requires.apart c.requires.rising c.walk-count.result c.walk-count.new.row c.split_at.result.0.now v c.split_at.ensures.front

pub set_root-requires : goal.set_root-requires
set_root-requires c = small c.args.self.now.table c.args.number c.requires.stands

pub set_size-requires : goal.set_size-requires
set_size-requires c = small c.args.self.now.table c.args.number c.requires.stands

pub set_root-requires-2 : goal.set_root-requires-2
set_root-requires-2 c = small c.args.self.now.table c.args.other c.requires.beside

pub set_size-requires-2 : goal.set_size-requires-2
set_size-requires-2 c = small c.args.self.now.table c.args.other c.requires.beside

pub invariant_of-self : goal.invariant_of-self
invariant_of-self c =
    let t = c.args.self.now.table in
    let w1 = root_set t t c.set_root.new.self c.args.number c.build-root.result (unwritten t) c.set_root.ensures.order c.set_root.ensures.reads in
    let w2 = size_set t c.set_root.new.self c.set_size.new.self c.args.number _ w1 c.set_size.ensures.order c.set_size.ensures.reads in
    let w3 = root_set t c.set_size.new.self c.set_root-2.new.self c.args.other 65535 w2 c.set_root-2.ensures.order c.set_root-2.ensures.reads in
    let w4 = size_set t c.set_root-2.new.self c.set_size-2.new.self c.args.other _ w3 c.set_size-2.ensures.order c.set_size-2.ensures.reads in
    let w = walk_done c.args.self.now.table c.args.self.now.pool c.args.number c.root.result c.args.self.now.forest c.requires.stands c.root.ensures c.walk-middle.result _ c.walk-middle.new.row refl c.walk-middle.ensures.places c.walk-middle.ensures.end in
    let v = walk_behind c.args.self.now.table c.args.self.now.pool c.args.other c.root-2.result c.args.self.now.forest c.requires.beside c.root-2.ensures _ c.walk-middle.new.row c.walk-count.new.row c.walk-middle.result c.walk-count.result w (both_room c.args.self.now.table c.args.self.now.pool c.args.number c.args.other c.args.self.now.forest c.requires.stands c.requires.beside c.requires.apart c.requires.rising c.root-2.result c.walk-middle.result c.walk-middle.new.row c.root-2.ensures w) c.walk-count.ensures.places c.walk-count.ensures.end in
    record {
      forest = (united c.args.self.now.table c.args.self.now.pool c.args.number c.args.other c.args.self.now.forest c.requires.stands c.requires.beside c.requires.apart c.requires.rising c.walk-count.result c.walk-count.new.row c.split_at.result.0.now v c.split_at.ensures.front c.set_size-2.new.self _ c.build-root.result _ _ c.build-root.ensures w4
          (omega arith) (omega arith) refl).0;
    }

pub returns : goal.returns
returns c =
    let t = c.args.self.now.table in
    let w1 = root_set t t c.set_root.new.self c.args.number c.build-root.result (unwritten t) c.set_root.ensures.order c.set_root.ensures.reads in
    let w2 = size_set t c.set_root.new.self c.set_size.new.self c.args.number _ w1 c.set_size.ensures.order c.set_size.ensures.reads in
    let w3 = root_set t c.set_size.new.self c.set_root-2.new.self c.args.other 65535 w2 c.set_root-2.ensures.order c.set_root-2.ensures.reads in
    let w4 = size_set t c.set_root-2.new.self c.set_size-2.new.self c.args.other _ w3 c.set_size-2.ensures.order c.set_size-2.ensures.reads in
    let w = walk_done c.args.self.now.table c.args.self.now.pool c.args.number c.root.result c.args.self.now.forest c.requires.stands c.root.ensures c.walk-middle.result _ c.walk-middle.new.row refl c.walk-middle.ensures.places c.walk-middle.ensures.end in
    let v = walk_behind c.args.self.now.table c.args.self.now.pool c.args.other c.root-2.result c.args.self.now.forest c.requires.beside c.root-2.ensures _ c.walk-middle.new.row c.walk-count.new.row c.walk-middle.result c.walk-count.result w (both_room c.args.self.now.table c.args.self.now.pool c.args.number c.args.other c.args.self.now.forest c.requires.stands c.requires.beside c.requires.apart c.requires.rising c.root-2.result c.walk-middle.result c.walk-middle.new.row c.root-2.ensures w) c.walk-count.ensures.places c.walk-count.ensures.end in
    (united c.args.self.now.table c.args.self.now.pool c.args.number c.args.other c.args.self.now.forest c.requires.stands c.requires.beside c.requires.apart c.requires.rising c.walk-count.result c.walk-count.new.row c.split_at.result.0.now v c.split_at.ensures.front c.set_size-2.new.self _ c.build-root.result _ _ c.build-root.ensures w4
    (omega arith) (omega arith) refl).1
