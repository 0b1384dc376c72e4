use Rattle.std.proofs.Common.{◌≡◌, length, rules, is_some, refl, ◌∙◌, None, arith}
use Rattle.dictionary.specs.Pairs.{raised, with_pair, one_less}
use Rattle.acceptance.specs.Nodes.{node_of}
use Rattle.acceptance.specs.Stages.{Cleared, start, drop}
use Rattle.acceptance.proofs.Steps.{counted_keeps}
use Rattle.acceptance.proofs.stages.clear.Goals as goal

pub returns : goal.returns
returns g c =
    let d = g.D.Dictionary in
    let s = c.args.store.now in
    let h = g.met.D.Dictionary.counts s in
    let kept =
    counted_keeps
    (λ f i n q. record {
      cleared : Cleared (d.pairs s) (length (d.nodes s)) i n (d.pairs q.0.now) (length (d.nodes q.0.now));
      tally : d.frames q.0.now ≡ raised (d.frames s) i;
      room : d.room q.0.now ≡ d.room s;
      name : q.0.ghost_name ≡ f.0.ghost_name;
    })
    (record { cleared = start; tally = omega arith; room = refl; name = refl })
    (λ i n p q b k e.
    let hit : b ≡ is_some (d.pairs p.0.now (node_of i)) = search rules in
    let pairs : d.pairs q.0.now ≡ with_pair (d.pairs p.0.now) (node_of i) None = search rules in
    let held : length (d.nodes q.0.now) ≡ one_less (d.pairs p.0.now (node_of i)) (length (d.nodes p.0.now)) = search rules in
    let tally : d.frames q.0.now ≡ raised (d.frames p.0.now) 1 = search rules in
    let room : d.room q.0.now ≡ d.room p.0.now = search rules in
    let name : q.0.ghost_name ≡ p.0.ghost_name = search rules in
    record { cleared = rw (hit, pairs, held) (drop k.cleared); tally = omega (arith, tally, k.tally); room = room ∙ k.room; name = name ∙ k.name })
    _ _ _ c.how_many.ensures.counted in
    let name = kept.name in
    record { few = c.how_many.ensures.few; cleared = search rules; tally = search rules; room = search rules }
