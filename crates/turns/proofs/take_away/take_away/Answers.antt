use Rattle.std.proofs.Common.{◌≡◌, ◌+◌, ◌≤◌, map, sym, refl, arith}
use Rattle.levels.specs.Nodes.{node_at}
use Rattle.links.specs.Orders.{without}
use Rattle.links.specs.Links.{links}
use Rattle.links.proofs.Midway.{turned_start, turned_end}
use Rattle.links.proofs.Nodes.{node_pos, below_same}
use Rattle.links.proofs.Orders.{ordered_without}
use Rattle.links.proofs.Room.{held_count}
use Rattle.links.proofs.Stands.{small, off, parting_step}
use Rattle.buckets.specs.Tables.{rep_of, prev_of, next_of, order_of}
use Rattle.buckets.proofs.Lays.{neighbours, small as number_small}
use Rattle.turns.proofs.take_away.take_away.Goals as goal

pub rep-rep-requires : goal.rep-rep-requires
rep-rep-requires g c = number_small c.args.table.now c.args.number c.requires.held

pub loop-level-init : goal.loop-level-init
loop-level-init g c =
    let w = g.K.Key.width in
    let t = c.args.table.now in
    let bound = g.met.D.Dictionary.counts c.args.d.now in
    (turned_start w (rep_of t c.args.number) (map (rep_of t) (order_of t)) (links w (rep_of t) (without c.args.number (order_of t))) (links w (rep_of t) (order_of t)) _ c.requires.pairs, omega (arith, bound), refl)

pub node_at-node-requires : goal.node_at-node-requires
node_at-node-requires g c =
    let w = g.K.Key.width in
    let t = c.args.table.now in
    let wide = g.met.K.Key.wide in
    let fits = small w (rep_of t) (order_of t) c.args.number c.requires.ordered c.requires.held in
    record { wide = omega arith; level = omega (arith, c.loop-level-test.true); below = below_same c.rep-rep.result (rep_of t c.args.number) c.bit_width-width.result w c.rep-rep.ensures c.bit_width-width.ensures fits }

pub part_at-frames-requires : goal.part_at-frames-requires
part_at-frames-requires g c =
    let w = g.K.Key.width in
    let t = c.args.table.now in
    let i = c.args.number in
    let j = c.loop-level.level in
    let o = c.requires.ordered in
    let m = g.D.Dictionary in
    let d = c.loop-level.d in
    let n = c.node_at-node.result in
    let en : n ≡ node_at w (rep_of t i) j = cc in
    let jw : j ≤ w = omega (arith, c.loop-level-test.true, c.bit_width-width.ensures) in
    let inv = c.loop-level.invariant in
    record {
      node = omega (arith, en, node_pos w (rep_of t i) j);
      within = number_small t i c.requires.held;
    }

pub loop-level-preserved : goal.loop-level-preserved
loop-level-preserved g c =
    let w = g.K.Key.width in
    let t = c.args.table.now in
    let i = c.args.number in
    let j = c.loop-level.level in
    let o = c.requires.ordered in
    let m = g.D.Dictionary in
    let d = c.loop-level.d in
    let n = c.node_at-node.result in
    let en : n ≡ node_at w (rep_of t i) j = cc in
    let jw : j ≤ w = omega (arith, c.loop-level-test.true, c.bit_width-width.ensures) in
    let inv = c.loop-level.invariant in
    let said = c.part_at-frames.ensures in
    (parting_step w (rep_of t) (order_of t) i o c.requires.held (next_of t) (prev_of t) (neighbours t) j _ (m.pairs d) inv.0 jw n en _ _ said.pairs said.frames, omega (arith, said.tally, inv.1), cc)

pub returns-2 : goal.returns-2
returns-2 g c =
    let w = g.K.Key.width in
    let t = c.args.table.now in
    let i = c.args.number in
    let j = c.loop-level.level in
    let o = c.requires.ordered in
    let m = g.D.Dictionary in
    let d = c.loop-level.d in
    let n = c.node_at-node.result in
    let en : n ≡ node_at w (rep_of t i) j = cc in
    let jw : j ≤ w = omega (arith, c.loop-level-test.true, c.bit_width-width.ensures) in
    let inv = c.loop-level.invariant in
    let said = c.part_at-frames.ensures in
    let last = c.part_at-frames.new.d in
    let turned = parting_step w (rep_of t) (order_of t) i o c.requires.held (next_of t) (prev_of t) (neighbours t) j _ (m.pairs d) inv.0 jw n en _ _ said.pairs said.frames in
    let e : j + 1 ≡ w + 1 = omega (arith, c.loop-level-test.true, c.bit_width-width.ensures) in
    let done = turned_end w (rep_of t i) (map (rep_of t) (order_of t)) (links w (rep_of t) (without i (order_of t))) (links w (rep_of t) (order_of t)) _ _ _ turned e (λ n h. sym (off w (rep_of t) (order_of t) i c.requires.ordered c.requires.held n h)) in
    record {
      pairs = done.0;
      count = held_count w (rep_of t) (without i (order_of t)) (ordered_without w (rep_of t) (order_of t) i c.requires.ordered) (m.nodes last) (m.pairs last) (g.met.D.Dictionary.once last) (g.met.D.Dictionary.held last) done.0;
      frames = done.1;
      few = done.2;
      tally = omega (arith, said.tally, inv.1);
      room = cc;
    }
