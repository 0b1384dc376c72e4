use Rattle.std.proofs.Common.{◌≡◌, map}
use Rattle.dictionary.specs.Pairs.{raised}
use Rattle.links.specs.Orders.{without}
use Rattle.links.specs.Links.{links}
use Rattle.links.proofs.Midway.{Turned}
use Rattle.buckets.specs.Tables.{rep_of, order_of}
use Rattle.turns.proofs.take_away.take_away.Given as goal

abbrev pub invariant-loop-level : goal.invariant-loop-level
invariant-loop-level g l =
    let w = g.K.Key.width in
    let m = g.D.Dictionary in
    let rep = rep_of l.table in
    let order = order_of l.table in
    Turned w (rep l.number) (map rep order) (links w rep (without l.number order)) (links w rep order) l.level l.frames (m.pairs l.d)
    × (m.frames l.d ≡ raised (m.frames l.initial.d) l.frames)
    × (m.room l.d ≡ m.room l.initial.d)
