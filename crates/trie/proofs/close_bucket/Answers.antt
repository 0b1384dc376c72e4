use Rattle.std.proofs.Common.{arith}
use Rattle.trie.proofs.Sounds.{closed_sound, sound_count}
use Rattle.trie.proofs.close_bucket.Goals as goal

pub take_away-frames-requires : goal.take_away-frames-requires
take_away-frames-requires g c = let s = c.requires.sound in record { ordered = s.ordered; held = c.requires.held; pairs = s.pairs }

pub close-requires : goal.close-requires
close-requires g c = record { held = c.requires.held; later = c.requires.later }

pub returns : goal.returns
returns g c =
    let w = g.K.Key.width in
    let m = g.D.Dictionary in
    let d = c.take_away-frames.new.d in
    let e = c.take_away-frames.ensures in
    let u = c.close.new.self in
    let sound = closed_sound w (m.pairs c.args.d.now) c.args.table.now c.requires.sound (m.pairs d) u c.args.number c.close.ensures e.pairs in
    record {
      sound = sound;
      shows = c.close.ensures;
      count = sound_count w (m.pairs d) u sound (m.nodes d) (g.met.D.Dictionary.once d) (g.met.D.Dictionary.held d);
      frames = omega (arith, e.frames);
      few = omega (arith, e.few);
      tally = omega (arith, e.tally);
      room = e.room;
    }
