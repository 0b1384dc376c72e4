use Rattle.std.proofs.Common.{◌+◌, ◌*◌, ◌^◌, ◌<◌, ◌≤◌, ◌⊎◌, length, sym, refl, ◌∙◌, subst, inl, inr, arith}
use Rattle.key.specs.Widths.{half}
use Rattle.buckets.specs.Tables.{size_of, order_of}
use Rattle.buckets.proofs.Lays.{small}
use Rattle.rules.specs.Buckets.{Spread}
use Rattle.inside.proofs.Middle.{trie_kept}
use Rattle.inside.proofs.Leave.{Partner, partner_before, partner_first, partner_stands, partner_next, some_counted, left_spread, left_room, row_left, left_still, left_mended}
use Rattle.inside.proofs.Leave.{c as in_row}
use Rattle.workings.proofs.leave.leave.Goals.{then-number-eq0, else-number-eq0, then-size-half_width-via-then-size-half_width, then-size-half_width-via-else-size-half_width+then-count-lt2}
use Rattle.workings.proofs.leave.leave.Goals as goal

pub overflow_sub-inside : goal.overflow_sub-inside
overflow_sub-inside g c = some_counted _ _ _ _ c.args.inside.now g.met.K.Key.wide.0 c.requires.whole c.args.key c.requires.fits c.args.number c.requires.place c.requires.some

pub size-requires : goal.size-requires
size-requires g c = small c.args.inside.now.grove.table c.args.number c.requires.held

pub returns-then-size-half_width : goal.returns-then-size-half_width
returns-then-size-half_width g c =
    let i = c.args.inside.now in
    let n = c.args.number in
    let w = g.K.Key.width in
    let d = c.args.d.now in
    let f = g.D.Dictionary.pairs d in
    let u = c.shrink.new.self.table in
    let re = c.shrink.ensures in
    let big = g.met.K.Key.wide.0 in
    let way : (half w ≤ size_of u n) ⊎ (length (order_of u) < 2) = elim c.then-size-half_width.branch [
      | then-size-half_width-via-then-size-half_width v ↦ inl (omega (arith, v.if-size-half_width.true, c.size.ensures, c.half_width.ensures.value))
      | then-size-half_width-via-else-size-half_width+then-count-lt2 v ↦ inr (omega (arith, v.if-count-lt2.true, v.count.ensures))
    ] in
    let counted = some_counted w f (g.D.Dictionary.room d) (g.D.Dictionary.frames d) i big c.requires.whole c.args.key c.requires.fits n c.requires.place c.requires.some in
    record {
      trie = trie_kept w f i.grove.table u c.requires.whole.trie re.kept.order re.kept.rep;
      left = left_still w f (g.D.Dictionary.room d) (g.D.Dictionary.frames d) i big c.requires.whole c.args.key c.requires.fits n c.requires.place c.requires.some u c.shrink.new.self.pool c.shrink.new.self.forest re way;
      tally = omega (arith, g.met.D.Dictionary.counts d);
      room = refl;
      rest = (refl, omega (arith, counted));
    }

pub prev-left-requires : goal.prev-left-requires
prev-left-requires g c = small c.args.inside.now.grove.table c.args.number c.requires.held

pub mend-requires : goal.mend-requires
mend-requires g c =
    let i = c.args.inside.now in
    let n = c.args.number in
    let w = g.K.Key.width in
    let f = g.D.Dictionary.pairs c.args.d.now in
    let room = g.D.Dictionary.room c.args.d.now in
    let tally = g.D.Dictionary.frames c.args.d.now in
    let u = c.shrink.new.self.table in
    let q = c.shrink.new.self.pool in
    let re = c.shrink.ensures in
    let big = g.met.K.Key.wide.0 in
    let r = in_row w f room tally i big c.requires.whole c.args.key c.requires.fits n c.requires.place c.requires.some in
    let is = re.kept.order ∙ r.is in
    let x : Partner (order_of u) r.pre c.if-number-eq0.left = elim c.if-number-eq0.branch [
      | then-number-eq0 v ↦ subst (Partner (order_of u) r.pre) (sym v.left-is) (partner_first u r.pre n r.post is v.if-number-eq0.true (omega (arith, c.if-count-lt2.false, c.count.ensures)))
      | else-number-eq0 v ↦ subst (Partner (order_of u) r.pre) (sym (v.left-is ∙ v.prev-left.ensures)) (partner_before u r.pre n r.post is (omega (arith, v.if-number-eq0.false)))
    ] in
    record {
      trie = trie_kept w f i.grove.table u c.requires.whole.trie re.kept.order re.kept.rep;
      spread = subst (Spread (2 ^ w)) (sym (row_left w f room tally i big c.requires.whole c.args.key c.requires.fits n c.requires.place c.requires.some u q c.shrink.new.self.forest re)) (left_spread w f room tally i big c.requires.whole c.args.key c.requires.fits n c.requires.place c.requires.some);
      stands = partner_stands (order_of u) r.pre c.if-number-eq0.left x;
      behind = partner_next u r.pre c.if-number-eq0.left x;
      room = subst (λ o. (w + 1) * length o ≤ room) (sym re.kept.order) (left_room w f room tally i big c.requires.whole c.args.key c.requires.fits n c.requires.place c.requires.some);
    }

pub returns : goal.returns
returns g c =
    let i = c.args.inside.now in
    let n = c.args.number in
    let w = g.K.Key.width in
    let f = g.D.Dictionary.pairs c.args.d.now in
    let room = g.D.Dictionary.room c.args.d.now in
    let tally = g.D.Dictionary.frames c.args.d.now in
    let u = c.shrink.new.self.table in
    let re = c.shrink.ensures in
    let me = c.mend.ensures in
    let big = g.met.K.Key.wide.0 in
    let r = in_row w f room tally i big c.requires.whole c.args.key c.requires.fits n c.requires.place c.requires.some in
    let is = re.kept.order ∙ r.is in
    let long : 2 ≤ length (order_of u) = omega (arith, c.if-count-lt2.false, c.count.ensures) in
    let x : Partner (order_of u) r.pre c.if-number-eq0.left = elim c.if-number-eq0.branch [
      | then-number-eq0 v ↦ subst (Partner (order_of u) r.pre) (sym v.left-is) (partner_first u r.pre n r.post is v.if-number-eq0.true long)
      | else-number-eq0 v ↦ subst (Partner (order_of u) r.pre) (sym (v.left-is ∙ v.prev-left.ensures)) (partner_before u r.pre n r.post is (omega (arith, v.if-number-eq0.false)))
    ] in
    let few : size_of u n < half w = omega (arith, c.if-size-half_width.false, c.size.ensures, c.half_width.ensures.value) in
    let counted = some_counted w f room tally i big c.requires.whole c.args.key c.requires.fits n c.requires.place c.requires.some in
    record {
      trie = me.trie;
      left = left_mended w f room tally i big c.requires.whole c.args.key c.requires.fits n c.requires.place c.requires.some u c.shrink.new.self.pool c.shrink.new.self.forest re c.mend.result _ (length x.front) few long x.long (me.mended x.front x.other x.rest x.is);
      tally = me.tally;
      room = me.room;
      rest = (me.rest.0, omega (arith, me.rest.1, counted));
    }
