use Rattle.std.proofs.Common.{◌≡◌, length, rules, cond, refl, ◌∙◌, Some, arith}
use Rattle.dictionary.specs.Pairs.{raised, with_pair, one_more, accepts}
use Rattle.acceptance.specs.Nodes.{node_of, links_of}
use Rattle.acceptance.specs.Stages.{Filled, start}
use Rattle.acceptance.proofs.Steps.{counted_keeps, filled_more}
use Rattle.acceptance.proofs.stages.fill.Goals as goal

pub returns : goal.returns
returns g c =
    let d = g.D.Dictionary in
    let s = c.args.store.now in
    let h = g.met.D.Dictionary.counts s in
    let kept =
    counted_keeps
    (λ f i n q. record {
      filled : Filled (d.room s) c.args.round (d.pairs s) (length (d.nodes s)) i n (d.pairs q.1.now) (length (d.nodes q.1.now));
      tally : d.frames q.1.now ≡ raised (d.frames s) i;
      room : d.room q.1.now ≡ d.room s;
      round : q.0.now ≡ c.args.round;
      name : q.1.ghost_name ≡ f.1.ghost_name;
    })
    (record { filled = start; tally = omega arith; room = refl; round = refl; name = refl })
    (λ i n p q b k e.
    let u = d.pairs p.1.now in
    let m = length (d.nodes p.1.now) in
    let ok : b ≡ accepts u m (d.room p.1.now) (node_of i) = search rules in
    let pairs : d.pairs q.1.now ≡ cond b (with_pair u (node_of i) (Some (links_of i p.0.now))) u = search rules in
    let held : length (d.nodes q.1.now) ≡ cond b (one_more (u (node_of i)) m) m = search rules in
    let tally : d.frames q.1.now ≡ raised (d.frames p.1.now) 1 = search rules in
    let room : d.room q.1.now ≡ d.room p.1.now = search rules in
    let round : q.0.now ≡ p.0.now = search rules in
    let name : q.1.ghost_name ≡ p.1.ghost_name = search rules in
    record {
      filled = rw (pairs, held, k.round) (filled_more b k.filled (rw (← k.room) ok));
      tally = omega (arith, tally, k.tally);
      room = room ∙ k.room;
      round = round ∙ k.round;
      name = name ∙ k.name;
    })
    _ _ _ c.how_many.ensures.counted in
    let name = kept.name in
    record { few = c.how_many.ensures.few; filled = search rules; tally = search rules; room = search rules }
