use Rattle.std.proofs.Common.{◌≡◌, Some, refl, subst, arith}
use Rattle.dictionary.specs.Pairs.{Pairs}
use Rattle.levels.specs.Search.{held}
use Rattle.levels.proofs.Gets.{gets_most}
use Rattle.levels.proofs.Steps.{Going, going_starts, going_up, going_down, going_ends, root_there}
use Rattle.levels.proofs.search.Goals as goal

pub unreachable-requires : goal.unreachable-requires
unreachable-requires g c =
    root_there (g.D.Dictionary.pairs c.args.d.now) g.K.Key.width c.args.bits c.requires.below c.requires.root (cc)

pub loop-hi-init : goal.loop-hi-init
loop-hi-init g c =
    let f = g.D.Dictionary.pairs c.get.new.self in
    let pair : f 1 ≡ Some (c.in-Some.low, c.in-Some.high) = cc in
    let bound = g.met.D.Dictionary.counts c.get.new.self in
    (going_starts f g.K.Key.width c.args.bits _ _ _ c.requires.below (omega arith) pair, refl, omega (arith, bound), refl, refl)

pub loop-hi-preserved-in-Some-get : goal.loop-hi-preserved-in-Some-get
loop-hi-preserved-in-Some-get g c =
    let inv = c.loop-hi.invariant in
    let f = g.D.Dictionary.pairs c.get.new.self in
    (going_up f g.K.Key.width c.args.bits _ _ _ _ _ inv.0 _ _ _ _ (omega (arith, c.loop-hi-test.true)) (omega arith) (omega arith) (cc), cc, omega (arith, inv.0.first), cc, cc)

pub loop-hi-preserved : goal.loop-hi-preserved
loop-hi-preserved g c =
    let inv = c.loop-hi.invariant in
    let f = g.D.Dictionary.pairs c.get.new.self in
    (going_down f g.K.Key.width c.args.bits _ _ _ _ _ inv.0 _ _ (omega (arith, c.loop-hi-test.true)) (omega arith) (omega arith) (cc), cc, omega (arith, inv.0.first), cc, cc)

pub returns : goal.returns
returns g c =
    let w = g.K.Key.width in
    let f = g.D.Dictionary.pairs c.args.d.now in
    let P : Pairs → Type 0 = λ h. Going h w c.args.bits c.loop-hi.lo c.loop-hi.hi c.loop-hi.frames c.loop-hi.low c.loop-hi.high in
    let s = subst P c.get.ensures.pairs c.loop-hi.invariant.0 in
    let ends = going_ends f w c.args.bits _ _ _ _ _ s (omega (arith, c.loop-hi-test.false)) c.requires.closed in
    record {
      deepest = ends.0;
      links = s.links;
      frames = ends.1;
      few = omega (arith, ends.1, gets_most (held f w c.args.bits) w);
      tally = omega (arith, c.get.ensures.tally, c.loop-hi.invariant.2, s.first);
      pairs = cc;
      count = cc;
      room = cc;
    }
