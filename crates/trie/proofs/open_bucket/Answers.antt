use Rattle.std.proofs.Common.{◌+◌, ◌*◌, ◌≤◌, sym, ap, ◌∙◌, subst, arith}
use Rattle.dictionary.specs.Pairs.{among}
use Rattle.buckets.specs.Tables.{order_of}
use Rattle.trie.proofs.Sounds.{holder_among, opened_ordered, opened_stands, opened_pairs, opened_long, opened_cost, opened_sound, sound_count}
use Rattle.trie.proofs.open_bucket.Goals as goal

pub open-number-requires : goal.open-number-requires
open-number-requires g c =
    let t = c.args.table.now in
    let s = c.requires.sound in
    record {
      behind = ap (λ m. among m (order_of t)) c.requires.behind ∙ holder_among g.K.Key.width (g.D.Dictionary.pairs c.args.d.now) t s c.args.rep;
      room = c.requires.few;
    }

pub set_up-frames-requires : goal.set_up-frames-requires
set_up-frames-requires g c =
    let w = g.K.Key.width in
    let f = g.D.Dictionary.pairs c.args.d.now in
    let t = c.args.table.now in
    let u = c.open-number.new.self in
    let o = c.open-number.ensures in
    let n = c.open-number.result in
    let a = c.args.before in
    let r = c.args.rep in
    record {
      ordered = opened_ordered w f t c.requires.sound u a r n o.new o.shows c.requires.behind c.requires.above c.requires.fits;
      held = opened_stands w f t c.requires.sound u a r n o.new o.shows c.requires.behind c.requires.above c.requires.fits;
      pairs = opened_pairs w f t c.requires.sound u a r n o.new o.shows c.requires.behind c.requires.above c.requires.fits;
      room = subst (λ k. (w + 1) * k ≤ g.D.Dictionary.room c.args.d.now) (sym (opened_long w f t c.requires.sound u a r n o.new o.shows c.requires.behind c.requires.above c.requires.fits)) c.requires.room;
    }

pub returns : goal.returns
returns g c =
    let w = g.K.Key.width in
    let m = g.D.Dictionary in
    let f = m.pairs c.args.d.now in
    let t = c.args.table.now in
    let u = c.open-number.new.self in
    let o = c.open-number.ensures in
    let n = c.open-number.result in
    let a = c.args.before in
    let r = c.args.rep in
    let d = c.set_up-frames.new.d in
    let e = c.set_up-frames.ensures in
    let sound = opened_sound w f t c.requires.sound u a r n o.new o.shows c.requires.behind c.requires.above c.requires.fits (m.pairs d) e.pairs in
    record {
      sound = sound;
      new = o.new;
      shows = o.shows;
      count = sound_count w (m.pairs d) u sound (m.nodes d) (g.met.D.Dictionary.once d) (g.met.D.Dictionary.held d);
      frames = omega (arith, e.frames, opened_cost w f t c.requires.sound u a r n o.new o.shows c.requires.behind c.requires.above c.requires.fits);
      few = e.few;
      tally = e.tally;
      room = e.room;
    }
