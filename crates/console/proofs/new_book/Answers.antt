use Rattle.std.proofs.Common.{length, sym, ap, subst}
use Rattle.inside.specs.Views.{seen_as}
use Rattle.console.specs.Opening.{given, Opened}
use Rattle.console.proofs.Opens.{opened_as}
use Rattle.console.proofs.new_book.Goals as goal

pub returns : goal.returns
returns g c =
    let n = g.A.Dictionary in
    let ni = c.new.result.inside in
    let nd = c.new.result.dictionary in
    let ng = c.args.modules.names in
    let l = g.B.Dictionary in
    let li = c.new-2.result.inside in
    let ld = c.new-2.result.dictionary in
    let lg = c.args.modules.leases in
    let e = g.C.Dictionary in
    let ei = c.new-3.result.inside in
    let ed = c.new-3.result.dictionary in
    let eg = c.args.modules.events in
    record {
      names =
          subst (λ x. Opened 56 (given (n.pairs ng) (n.room ng) (length (n.nodes ng)) (n.frames ng)) (seen_as 56 (n.pairs x.dictionary) (n.frames x.dictionary) x.inside))
          (sym c.new-4.ensures.0)
          (opened_as 56 (n.pairs ng) (n.room ng) (length (n.nodes ng)) (n.frames ng) (n.pairs nd) (n.room nd) (n.frames nd) ni c.new.ensures.shut c.new.ensures.bare
          (λ z. let k = c.new.ensures.kept z in (ap n.pairs k.dictionary, ap n.frames k.dictionary))
          (λ z. let m = c.new.ensures.made z in (m.limit, m.tally)) c.new.result.sound);
      leases =
          subst (λ x. Opened 32 (given (l.pairs lg) (l.room lg) (length (l.nodes lg)) (l.frames lg)) (seen_as 32 (l.pairs x.dictionary) (l.frames x.dictionary) x.inside))
          (sym c.new-4.ensures.1)
          (opened_as 32 (l.pairs lg) (l.room lg) (length (l.nodes lg)) (l.frames lg) (l.pairs ld) (l.room ld) (l.frames ld) li c.new-2.ensures.shut c.new-2.ensures.bare
          (λ z. let k = c.new-2.ensures.kept z in (ap l.pairs k.dictionary, ap l.frames k.dictionary))
          (λ z. let m = c.new-2.ensures.made z in (m.limit, m.tally)) c.new-2.result.sound);
      events =
          subst (λ x. Opened 48 (given (e.pairs eg) (e.room eg) (length (e.nodes eg)) (e.frames eg)) (seen_as 48 (e.pairs x.dictionary) (e.frames x.dictionary) x.inside))
          (sym c.new-4.ensures.2)
          (opened_as 48 (e.pairs eg) (e.room eg) (length (e.nodes eg)) (e.frames eg) (e.pairs ed) (e.room ed) (e.frames ed) ei c.new-3.ensures.shut c.new-3.ensures.bare
          (λ z. let k = c.new-3.ensures.kept z in (ap e.pairs k.dictionary, ap e.frames k.dictionary))
          (λ z. let m = c.new-3.ensures.made z in (m.limit, m.tally)) c.new-3.result.sound);
    }
