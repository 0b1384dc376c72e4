use Rattle.std.proofs.Common.{◌≡◌, ◌+◌, ◌*◌, ◌^◌, ◌<◌, ◌≤◌, true, ◌∷◌, length, sym, ap, ◌∙◌, subst, arith}
use Rattle.std.proofs.lemmas.List.{length-append}
use Rattle.dictionary.specs.Pairs.{among}
use Rattle.key.specs.Widths.{half}
use Rattle.buckets.specs.Tables.{next_of, size_of, order_of}
use Rattle.buckets.proofs.Lays.{small, next_small, neighbours}
use Rattle.forest.specs.Forests.{items_of, row_of}
use Rattle.rules.specs.Buckets.{Spread, size, here}
use Rattle.inside.proofs.Beside.{pair}
use Rattle.inside.proofs.Splits.{among_right, among_first}
use Rattle.inside.proofs.Leave.{few_orders, size_left, size_right, row_long, joined_size, joined_spread, here_size, did_join, did_share}
use Rattle.workings.proofs.leave.mend.Goals as goal

pub next-other-requires : goal.next-other-requires
next-other-requires g c = small c.args.inside.now.grove.table c.args.left c.requires.stands

pub size-requires : goal.size-requires
size-requires g c = small c.args.inside.now.grove.table c.args.left c.requires.stands

pub size-requires-2 : goal.size-requires-2
size-requires-2 g c = omega (arith, c.next-other.ensures, next_small c.args.inside.now.grove.table c.args.left c.requires.stands)

pub returns-then-both-most : goal.returns-then-both-most
returns-then-both-most g c =
    let t = c.args.inside.now.grove.table in
    let p = c.args.inside.now.grove.pool in
    let n = c.args.left in
    let w = g.K.Key.width in
    let me = c.merge-frames.ensures in
    record {
      trie = me.trie;
      mended = λ pre other post is.
          let same : c.next-other.result ≡ other = c.next-other.ensures ∙ (neighbours t pre n (other ∷ post) is).1 in
          let sum : size (here (length pre) (row_of t p)) + size (here (length pre + 1) (row_of t p)) ≤ 4 * half w =
          omega (arith, size_left t p c.args.inside.now.grove.forest n other pre post is, size_right t p c.args.inside.now.grove.forest n other pre post is, c.size.ensures, c.size-2.ensures ∙ ap (size_of t) same, c.if-both-most.true, c.half_width-most.ensures.value) in
          let m = me.merged pre other post is in
          did_join w (length pre) (row_of t p) _ _ sum m.1 m.2;
      tally = me.tally;
      room = me.room;
      rest = me.rest;
    }

pub split-more-requires : goal.split-more-requires
split-more-requires g c =
    let t = c.args.inside.now.grove.table in
    let p = c.args.inside.now.grove.pool in
    let v = c.merge-frames.new.inside.grove.table in
    let q = c.merge-frames.new.inside.grove.pool in
    let n = c.args.left in
    let w = g.K.Key.width in
    let me = c.merge-frames.ensures in
    let x = pair t n c.requires.stands c.requires.behind in
    let o = next_of t n in
    let m = me.merged x.pre o x.post x.is in
    let l = length x.pre in
    let s = row_of t p in
    let long = row_long t p c.args.inside.now.grove.forest n o x.pre x.post x.is in
    let before : length (order_of t) ≡ length x.pre + 2 + length x.post = ap length x.is ∙ omega (arith, length-append x.pre (n ∷ o ∷ x.post)) in
    let after : length (order_of v) + 1 ≡ length (order_of t) = omega (arith, before, ap length m.0, length-append x.pre (n ∷ x.post)) in
    let sum : length (items_of v q n) ≡ size (here l s) + size (here (l + 1) s) =
    sym (here_size v q n x.pre x.post m.0) ∙ (ap (λ r. size (here l r)) m.1 ∙ joined_size w l s long) in
    record {
      trie = me.trie;
      spread = subst (Spread (2 ^ w)) (sym m.1) (joined_spread w (2 ^ w) l s long c.requires.spread);
      stands = subst (λ r. among n r ≡ true) (sym m.0) (among_right n x.pre (n ∷ x.post) (among_first n x.post));
      two = omega (arith, sum, size_left t p c.args.inside.now.grove.forest n o x.pre x.post x.is, size_right t p c.args.inside.now.grove.forest n o x.pre x.post x.is, c.size.ensures, c.size-2.ensures ∙ ap (size_of t) c.next-other.ensures, c.if-both-most.false, c.half_width-most.ensures.bounds);
      few = omega (arith, after, few_orders t);
      room = subst (λ r. (w + 1) * r ≤ g.D.Dictionary.room c.merge-frames.new.d) (sym after) (subst (λ r. (w + 1) * length (order_of t) ≤ r) (sym me.room) c.requires.room);
    }

pub returns : goal.returns
returns g c =
    let t = c.args.inside.now.grove.table in
    let p = c.args.inside.now.grove.pool in
    let n = c.args.left in
    let w = g.K.Key.width in
    let me = c.merge-frames.ensures in
    let sp = c.split-more.ensures in
    record {
      trie = sp.trie;
      mended = λ pre other post is.
          let same : c.next-other.result ≡ other = c.next-other.ensures ∙ (neighbours t pre n (other ∷ post) is).1 in
          let sum : 4 * half w < size (here (length pre) (row_of t p)) + size (here (length pre + 1) (row_of t p)) =
          omega (arith, size_left t p c.args.inside.now.grove.forest n other pre post is, size_right t p c.args.inside.now.grove.forest n other pre post is, c.size.ensures, c.size-2.ensures ∙ ap (size_of t) same, c.if-both-most.false, c.half_width-most.ensures.value) in
          let m = me.merged pre other post is in
          let d = sp.split pre post m.0 in
          did_share w (length pre) (row_of t p) _ _ _ _ sum m.1 m.2 d.0 d.1;
      tally = omega (arith, sp.tally, me.tally);
      room = sp.room ∙ me.room;
      rest = (sp.rest.0 ∙ me.rest.0, sp.rest.1 ∙ me.rest.1);
    }
