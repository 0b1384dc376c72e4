use Rattle.std.proofs.Common.{◌≡◌, length, rules, refl, ◌∙◌, add-one, arith}
use Rattle.dictionary.specs.Pairs.{raised}
use Rattle.acceptance.specs.Nodes.{node_of, links_of}
use Rattle.acceptance.specs.Stages.{has, right}
use Rattle.acceptance.proofs.Steps.{counted_keeps}
use Rattle.acceptance.proofs.stages.read_back.Goals as goal

pub returns : goal.returns
unfolding right
returns g c =
    let d = g.D.Dictionary in
    let s = c.args.store.now in
    let h = g.met.D.Dictionary.counts s in
    let kept =
    counted_keeps
    (λ f i n q. record {
      right : n ≡ right (d.pairs s) c.args.round i;
      pairs : d.pairs q.0.now ≡ d.pairs s;
      held : length (d.nodes q.0.now) ≡ length (d.nodes s);
      tally : d.frames q.0.now ≡ raised (d.frames s) i;
      room : d.room q.0.now ≡ d.room s;
      round : q.1.now ≡ c.args.round;
      name : q.0.ghost_name ≡ f.0.ghost_name;
    })
    (record { right = refl; pairs = refl; held = refl; tally = omega arith; room = refl; round = refl; name = refl })
    (λ i n p q b k e.
    let hit : b ≡ has (d.pairs p.0.now (node_of i)) (links_of i p.1.now) = search rules in
    let pairs : d.pairs q.0.now ≡ d.pairs p.0.now = search rules in
    let held : length (d.nodes q.0.now) ≡ length (d.nodes p.0.now) = search rules in
    let tally : d.frames q.0.now ≡ raised (d.frames p.0.now) 1 = search rules in
    let room : d.room q.0.now ≡ d.room p.0.now = search rules in
    let round : q.1.now ≡ p.1.now = search rules in
    let name : q.0.ghost_name ≡ p.0.ghost_name = search rules in
    record {
      right = rw (add-one, hit, k.right, k.pairs, k.round) refl;
      pairs = pairs ∙ k.pairs;
      held = held ∙ k.held;
      tally = omega (arith, tally, k.tally);
      room = room ∙ k.room;
      round = round ∙ k.round;
      name = name ∙ k.name;
    })
    _ _ _ c.how_many.ensures.counted in
    let name = kept.name in
    record { few = c.how_many.ensures.few; right = kept.right; pairs = search rules; held = search rules; tally = search rules; room = search rules }
