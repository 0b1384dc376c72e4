use Rattle.std.proofs.Common.{◌≡◌, ℕ, ◌+◌, ◌*◌, ◌^◌, ◌<◌, ◌≤◌, true, List, [], ◌∷◌, ◌++◌, length, sym, refl, ap, ◌∙◌, subst, mul-le-mul_left, arith}
use Rattle.dictionary.specs.Pairs.{among}
use Rattle.key.specs.Widths.{half}
use Rattle.entry.specs.Lists.{at, put}
use Rattle.links.specs.Orders.{holder}
use Rattle.links.proofs.Orders.{all_among}
use Rattle.buckets.specs.Tables.{rep_of, size_of, order_of}
use Rattle.buckets.proofs.Lays.{small}
use Rattle.forest.specs.Forests.{items_of, tree_of, row_of, Replanted}
use Rattle.ordered.specs.declared.calls.Rebuilding.TheVariants.{Split}
use Rattle.rows.proofs.Served.{placed}
use Rattle.forest.proofs.Alters.{used_long}
use Rattle.rules.specs.Buckets.{Bucket, here, place, size, Spread}
use Rattle.rules.specs.Changes.{Change, grown, split_at}
use Rattle.rules.proofs.Spreads.{total_flat}
use Rattle.rows.proofs.Places.{row_flat}
use Rattle.inside.specs.Changing.{with_entry}
use Rattle.inside.proofs.Parts.{held_in}
use Rattle.inside.proofs.Middle.{trie_kept}
use Rattle.inside.proofs.Enter.{entered_spread, stays_as, splits_as, row_entered, size_entered, one_more}
use Rattle.workings.proofs.enter.enter.Goals as goal

split_kind : (w j : ℕ) (t : List Bucket) → Split ≡ (split_at w j t).rebuilding
unfolding split_at
split_kind w j t = refl

pub grow-requires : goal.grow-requires
grow-requires g c =
    let i = c.args.inside.now in
    let wh = c.requires.whole in
    let long = used_long i.grove.table i.grove.pool in
    let flat-is = ap length (row_flat (rep_of i.grove.table) (items_of i.grove.table i.grove.pool) (order_of i.grove.table)) in
    record { stands = c.requires.held; new = c.requires.new; room = omega (arith, long, flat-is, total_flat (row_of i.grove.table i.grove.pool), wh.counted, wh.small, c.requires.free) }

pub size-requires : goal.size-requires
size-requires g c =
    let re = c.grow.ensures in
    let n = c.args.number in
    small c.grow.new.self.table n (subst (λ o. among n o ≡ true) (sym re.kept.order) c.requires.held)

pub split-frames-requires : goal.split-frames-requires
split-frames-requires g c =
    let i = c.args.inside.now in
    let d = c.args.d.now in
    let w = g.K.Key.width in
    let f = g.D.Dictionary.pairs d in
    let room = g.D.Dictionary.room d in
    let tally = g.D.Dictionary.frames d in
    let e = c.args.new in
    let u = c.grow.new.self.table in
    let q = c.grow.new.self.pool in
    let n = holder (rep_of i.grove.table) (order_of i.grove.table) e.key in
    let big = g.met.K.Key.wide.0 in
    let new = subst (λ m. at e.key (items_of i.grove.table i.grove.pool m) ≡ []) c.requires.place c.requires.new in
    let re = subst (λ m. Replanted i.grove.table i.grove.pool u q m (put e (items_of i.grove.table i.grove.pool m))) c.requires.place c.grow.ensures in
    let row = row_entered w f room tally i big c.requires.whole e c.requires.fits new c.requires.free u q re in
    let long = size_entered w f room tally i big c.requires.whole e c.requires.fits new c.requires.free u q re in
    let here_size : length (items_of u q n) ≡ c.size.result = subst (λ m. length (items_of u q m) ≡ c.size.result) c.requires.place (sym (c.size.ensures ∙ all_among (λ m. size_of u m ≡ length (items_of u q m)) (order_of u) c.args.number c.grow.new.self.forest.sizes (subst (λ o. among c.args.number o ≡ true) (sym re.kept.order) c.requires.held))) in
    let more : 5 * half w < size (here (place e.key (row_of i.grove.table i.grove.pool)) (with_entry e (row_of i.grove.table i.grove.pool))) = omega (arith, long, here_size, c.half_width.ensures.value, c.if-size-half_width.false) in
    let one = one_more w f room tally i big c.requires.whole e c.requires.fits new c.requires.free u q re more in
    record {
      trie = trie_kept w f i.grove.table u c.requires.whole.trie re.kept.order re.kept.rep;
      spread = subst (Spread (2 ^ w)) (sym row) (entered_spread w f room tally i big c.requires.whole e c.requires.fits new c.requires.free);
      stands = subst (λ o. among c.args.number o ≡ true) (sym re.kept.order) c.requires.held;
      two = subst (λ m. 2 ≤ length (items_of u q m)) (sym c.requires.place) (omega (arith, here_size, c.half_width.ensures.bounds, c.if-size-half_width.false));
      few = one.1;
      room = omega (arith, mul-le-mul_left (w + 1) one.0, c.requires.whole.fits);
    }

pub returns-then-size-half_width : goal.returns-then-size-half_width
returns-then-size-half_width g c =
    let i = c.args.inside.now in
    let d = c.args.d.now in
    let w = g.K.Key.width in
    let f = g.D.Dictionary.pairs d in
    let room = g.D.Dictionary.room d in
    let tally = g.D.Dictionary.frames d in
    let e = c.args.new in
    let s = row_of i.grove.table i.grove.pool in
    let k = e.key in
    let u = c.grow.new.self.table in
    let q = c.grow.new.self.pool in
    let n = holder (rep_of i.grove.table) (order_of i.grove.table) k in
    let big = g.met.K.Key.wide.0 in
    let new = subst (λ m. at k (items_of i.grove.table i.grove.pool m) ≡ []) c.requires.place c.requires.new in
    let re = subst (λ m. Replanted i.grove.table i.grove.pool u q m (put e (items_of i.grove.table i.grove.pool m))) c.requires.place c.grow.ensures in
    let row = row_entered w f room tally i big c.requires.whole e c.requires.fits new c.requires.free u q re in
    let long = size_entered w f room tally i big c.requires.whole e c.requires.fits new c.requires.free u q re in
    let here_size : length (items_of u q n) ≡ c.size.result = subst (λ m. length (items_of u q m) ≡ c.size.result) c.requires.place (sym (c.size.ensures ∙ all_among (λ m. size_of u m ≡ length (items_of u q m)) (order_of u) c.args.number c.grow.new.self.forest.sizes (subst (λ o. among c.args.number o ≡ true) (sym re.kept.order) c.requires.held))) in
    let le : size (here (place k s) (with_entry e s)) ≤ 5 * half w = omega (arith, long, here_size, c.half_width.ensures.value, c.if-size-half_width.true) in
    let is = stays_as w f room tally i big c.requires.whole e c.requires.fits new c.requires.free le in
    let low = g.met.D.Dictionary.counts d in
    record {
      trie = trie_kept w f i.grove.table u c.requires.whole.trie re.kept.order re.kept.rep;
      entered = record { row = row ∙ ap (λ (ch : Change). ch.after) (sym is); frames = ap (λ (ch : Change). ch.frames) (sym is); rebuilding = ap (λ (ch : Change). ch.rebuilding) (sym is) };
      few = omega arith;
      tally = omega (arith, low);
      room = refl;
      rest = (refl, refl);
    }

pub returns : goal.returns
returns g c =
    let i = c.args.inside.now in
    let d = c.args.d.now in
    let w = g.K.Key.width in
    let f = g.D.Dictionary.pairs d in
    let room = g.D.Dictionary.room d in
    let tally = g.D.Dictionary.frames d in
    let e = c.args.new in
    let s = row_of i.grove.table i.grove.pool in
    let k = e.key in
    let u = c.grow.new.self.table in
    let q = c.grow.new.self.pool in
    let n = holder (rep_of i.grove.table) (order_of i.grove.table) k in
    let big = g.met.K.Key.wide.0 in
    let new = subst (λ m. at k (items_of i.grove.table i.grove.pool m) ≡ []) c.requires.place c.requires.new in
    let re = subst (λ m. Replanted i.grove.table i.grove.pool u q m (put e (items_of i.grove.table i.grove.pool m))) c.requires.place c.grow.ensures in
    let row = row_entered w f room tally i big c.requires.whole e c.requires.fits new c.requires.free u q re in
    let long = size_entered w f room tally i big c.requires.whole e c.requires.fits new c.requires.free u q re in
    let here_size : length (items_of u q n) ≡ c.size.result = subst (λ m. length (items_of u q m) ≡ c.size.result) c.requires.place (sym (c.size.ensures ∙ all_among (λ m. size_of u m ≡ length (items_of u q m)) (order_of u) c.args.number c.grow.new.self.forest.sizes (subst (λ o. among c.args.number o ≡ true) (sym re.kept.order) c.requires.held))) in
    let more : 5 * half w < size (here (place k s) (with_entry e s)) = omega (arith, long, here_size, c.half_width.ensures.value, c.if-size-half_width.false) in
    let is = splits_as w f room tally i big c.requires.whole e c.requires.fits new c.requires.free more in
    let x = held_in w f i.grove.table c.requires.whole.trie k in
    let order : order_of u ≡ x.pre ++ c.args.number ∷ x.post = re.kept.order ∙ (x.is ∙ ap (λ m. x.pre ++ m ∷ x.post) (sym c.requires.place)) in
    let at_place = placed (rep_of i.grove.table) (items_of i.grove.table i.grove.pool) (tree_of i.grove.table i.grove.pool) (order_of i.grove.table) k n x in
    let did = c.split-frames.ensures.split x.pre x.post order in
    let same : split_at w (length x.pre) (row_of u q) ≡ grown w (place k s) (with_entry e s) = ap (split_at w (length x.pre)) row ∙ (ap (λ j. split_at w j (with_entry e s)) (sym at_place) ∙ sym is) in
    record {
      trie = c.split-frames.ensures.trie;
      entered = record { row = did.0 ∙ ap (λ (ch : Change). ch.after) same; frames = did.1 ∙ ap (λ (ch : Change). ch.frames) same; rebuilding = split_kind w (place k s) (with_entry e s) ∙ ap (λ (ch : Change). ch.rebuilding) (sym is) };
      few = c.split-frames.ensures.few;
      tally = c.split-frames.ensures.tally;
      room = c.split-frames.ensures.room;
      rest = c.split-frames.ensures.rest;
    }
