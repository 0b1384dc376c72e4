use Rattle.std.proofs.Common.{refl, arith}
use Rattle.buckets.proofs.Lays.{small}
use Rattle.forest.proofs.Walks.{walk_ready, walk_room, walk_done}
use Rattle.forest.proofs.Middles.{middle_inside, middle_is}
use Rattle.forest.proofs.Grove.middle_key.Goals as goal

pub root-requires : goal.root-requires
root-requires c = small c.args.self.now.table c.args.number c.requires.stands

pub walk-count-requires : goal.walk-count-requires
walk-count-requires c = record {
  tree = walk_ready c.args.self.now.table c.args.self.now.pool c.args.number c.root.result c.args.self.now.forest c.requires.stands c.root.ensures;
  room = omega (arith, walk_room c.args.self.now.table c.args.self.now.pool c.args.number c.root.result c.args.self.now.forest c.requires.stands c.root.ensures);
}

pub bounds-row-count : goal.bounds-row-count
bounds-row-count c =
    let w = walk_done c.args.self.now.table c.args.self.now.pool c.args.number c.root.result c.args.self.now.forest c.requires.stands c.root.ensures c.walk-count.result _ c.walk-count.new.row refl c.walk-count.ensures.places c.walk-count.ensures.end in
    omega (arith, w.few)

pub bounds-self-row : goal.bounds-self-row
bounds-self-row c =
    let w = walk_done c.args.self.now.table c.args.self.now.pool c.args.number c.root.result c.args.self.now.forest c.requires.stands c.root.ensures c.walk-count.result _ c.walk-count.new.row refl c.walk-count.ensures.places c.walk-count.ensures.end in
    middle_inside c.args.self.now.table c.args.self.now.pool c.args.number c.walk-count.result _ c.walk-count.new.row c.args.self.now.forest c.requires.stands w (omega arith) c.requires.some

pub returns : goal.returns
returns c =
    let w = walk_done c.args.self.now.table c.args.self.now.pool c.args.number c.root.result c.args.self.now.forest c.requires.stands c.root.ensures c.walk-count.result _ c.walk-count.new.row refl c.walk-count.ensures.places c.walk-count.ensures.end in
    middle_is c.args.self.now.table c.args.self.now.pool c.args.number c.walk-count.result _ c.walk-count.new.row c.args.self.now.forest c.requires.stands w (omega arith) c.requires.some
