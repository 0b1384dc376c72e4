use Rattle.std.proofs.Common.{refl, arith}
use Rattle.trie.proofs.Sounds.{fresh_ordered, fresh_pairs, fresh_room, fresh_cost, fresh_count}
use Rattle.trie.proofs.make.Goals as goal

pub set_up-requires : goal.set_up-requires
set_up-requires g c =
    let w = g.K.Key.width in
    let t = c.new-table.result in
    let f = c.new-table.ensures in
    record { ordered = fresh_ordered w t f; held = rw f.order refl; pairs = fresh_pairs w t f _ c.requires.empty; room = fresh_room w t f _ c.requires.room }

pub returns : goal.returns
returns g c =
    let w = g.K.Key.width in
    let t = c.new-table.result in
    let f = c.new-table.ensures in
    let e = c.set_up.ensures in
    record {
      sound = record { ordered = fresh_ordered w t f; first = f.rep; pairs = e.pairs };
      fresh = f;
      count = omega (arith, e.count, fresh_count w t f);
      tally = omega (arith, e.tally, e.frames, fresh_cost w t f);
      room = e.room;
    }
