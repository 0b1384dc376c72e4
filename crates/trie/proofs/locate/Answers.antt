use Rattle.std.proofs.Common.{◌≡◌, ap, ◌∙◌, arith}
use Rattle.dictionary.specs.Pairs.{among}
use Rattle.levels.specs.Nodes.{node_at}
use Rattle.links.specs.Orders.{holder}
use Rattle.buckets.specs.Tables.{rep_of, order_of}
use Rattle.trie.proofs.Sounds.{root, closed, choice, holder_among, counted, numbers, same_pairs}
use Rattle.trie.proofs.locate.Goals as goal

pub search-found-requires : goal.search-found-requires
search-found-requires g c =
    let w = g.K.Key.width in
    let f = g.D.Dictionary.pairs c.args.d.now in
    let t = c.args.table.now in
    record { below = c.requires.below; root = root w f t c.requires.sound c.args.bits c.requires.below; closed = closed w f t c.requires.sound c.args.bits c.requires.below }

pub choose-requires : goal.choose-requires
choose-requires g c =
    let w = g.K.Key.width in
    let wide = g.met.K.Key.wide in
    let r = c.search-found.result in
    record {
      wide = omega arith;
      level = omega (arith, c.search-found.ensures.deepest.within, c.bit_width-width.ensures);
      within = (numbers w (g.D.Dictionary.pairs c.args.d.now) c.args.table.now c.requires.sound (node_at w c.args.bits r.level) r.low r.high c.search-found.ensures.links).0;
    }

pub returns : goal.returns
returns g c =
    let w = g.K.Key.width in
    let f = g.D.Dictionary.pairs c.args.d.now in
    let t = c.args.table.now in
    let s = c.requires.sound in
    let k = c.args.bits in
    let r = c.search-found.result in
    let e = c.search-found.ensures in
    let chosen = choice w f t s c.bit_width-width.result k r.level r.low r.high c.bit_width-width.ensures c.requires.below e.links e.deepest in
    let number : c.choose.result ≡ holder (rep_of t) (order_of t) k = omega (arith, c.choose.ensures, chosen) in
    record {
      number = number;
      held = ap (λ n. among n (order_of t)) number ∙ holder_among w f t s k;
      frames = omega (arith, e.frames, counted w f t s k c.requires.below);
      few = e.few;
      tally = e.tally;
      sound = same_pairs w f t s _ e.pairs;
      pairs = e.pairs;
      count = e.count;
      room = e.room;
    }
