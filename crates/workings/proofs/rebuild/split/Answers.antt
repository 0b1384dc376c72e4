use Rattle.std.proofs.Common.{◌≡◌, ◌/◌, ◌^◌, true, [], ◌∷◌, length, drop, sym, refl, ap, ◌∙◌, subst}
use mathlib.Core.Bool.{false≢true}
use Rattle.dictionary.specs.Pairs.{among}
use Rattle.entry.specs.Lists.{first}
use Rattle.levels.specs.Counts.{turning}
use Rattle.links.specs.Orders.{Rising, put_after, with_at}
use Rattle.links.proofs.Orders.{cut}
use Rattle.buckets.specs.Tables.{rep_of, size_of, root_of, order_of, no_tree, Shows}
use Rattle.trie.specs.Sound.{reps_of}
use Rattle.trees.specs.Trees.{entries}
use Rattle.forest.specs.Forests.{items_of}
use Rattle.rules.specs.Buckets.{Spread}
use Rattle.rows.specs.Rows.{row}
use Rattle.inside.proofs.Middle.{Middle, middle, trie_kept, not_before, not_behind}
use Rattle.inside.proofs.Opened.{order_opened, tree_new, forest_opened}
use Rattle.inside.proofs.Splits.{row_split, frames_split, among_right, among_first}
use Rattle.workings.proofs.rebuild.split.Goals as goal

pub open_bucket-opened-requires : goal.open_bucket-opened-requires
open_bucket-opened-requires g c =
    let t = c.args.inside.now.grove.table in
    let p = c.args.inside.now.grove.pool in
    let n = c.args.number in
    let w = g.K.Key.width in
    let x = cut (order_of t) n c.requires.stands in
    let rises = subst (Rising (rep_of t)) x.is c.requires.trie.ordered.rises in
    let m = middle w (rep_of t) (items_of t p) n x.pre x.post (subst (λ o. Spread (2 ^ w) (row (rep_of t) (items_of t p) o)) x.is c.requires.spread) rises c.requires.two in
    let m' : Middle w (rep_of t) (order_of t) n c.middle_key-rep.result =
    subst (Middle w (rep_of t) (order_of t) n) (sym c.middle_key-rep.ensures) (subst (λ o. Middle w (rep_of t) o n (first (drop (length (items_of t p n) / 2) (items_of t p n))).key) (sym x.is) m) in
    record { sound = c.requires.trie; behind = m'.behind; above = m'.above; fits = m'.fits; few = c.requires.few; room = c.requires.room }

pub invariant_of-inside : goal.invariant_of-inside
invariant_of-inside g c =
    let t = c.args.inside.now.grove.table in
    let u = c.open_bucket-opened.new.table in
    let p = c.args.inside.now.grove.pool in
    let n = c.args.number in
    let m = c.open_bucket-opened.result.number in
    let r = c.middle_key-rep.result in
    let x = cut (order_of t) n c.requires.stands in
    let rises = subst (Rising (rep_of t)) x.is c.requires.trie.ordered.rises in
    let before = not_before (rep_of t) n x.pre x.post rises in
    let new = c.open_bucket-opened.ensures.new in
    let sh = c.open_bucket-opened.ensures.shows in
    record { forest = forest_opened t u p n m r x.pre x.post c.args.inside.now.grove.forest x.is before new sh }

pub halve-requires : goal.halve-requires
halve-requires g c =
    let t = c.args.inside.now.grove.table in
    let u = c.open_bucket-opened.new.table in
    let p = c.args.inside.now.grove.pool in
    let n = c.args.number in
    let m = c.open_bucket-opened.result.number in
    let r = c.middle_key-rep.result in
    let x = cut (order_of t) n c.requires.stands in
    let rises = subst (Rising (rep_of t)) x.is c.requires.trie.ordered.rises in
    let before = not_before (rep_of t) n x.pre x.post rises in
    let new = c.open_bucket-opened.ensures.new in
    let sh = c.open_bucket-opened.ensures.shows in
    let order = order_opened t u p n m r x.pre x.post c.args.inside.now.grove.forest x.is before new sh in
    record {
      stands = subst (λ o. among n o ≡ true) (sym order) (among_right n x.pre (n ∷ m ∷ x.post) (among_first n (m ∷ x.post)));
      beside = subst (λ o. among m o ≡ true) (sym order) (among_right m x.pre (n ∷ m ∷ x.post) (among_right m (n ∷ []) (m ∷ x.post) (among_first m x.post)));
      apart = λ e. false≢true (sym new ∙ subst (λ y. among y (order_of t) ≡ true) e c.requires.stands);
      empty = ap entries (tree_new t u p n m r x.pre x.post c.args.inside.now.grove.forest x.is before new sh);
    }

pub returns : goal.returns
returns g c =
    let t = c.args.inside.now.grove.table in
    let u = c.open_bucket-opened.new.table in
    let v = c.halve.new.self.table in
    let p = c.args.inside.now.grove.pool in
    let q = c.halve.new.self.pool in
    let n = c.args.number in
    let m = c.open_bucket-opened.result.number in
    let w = g.K.Key.width in
    let ha = c.halve.ensures in
    let new = c.open_bucket-opened.ensures.new in
    let key = c.middle_key-rep.ensures in
    let sh = subst (λ r. Shows u (put_after n m (order_of t)) (with_at (rep_of t) m r) (with_at (size_of t) m 0) (with_at (root_of t) m no_tree)) key c.open_bucket-opened.ensures.shows in
    record {
      trie = trie_kept w (g.D.Dictionary.pairs c.open_bucket-opened.new.d) u v c.open_bucket-opened.ensures.sound ha.kept.order ha.kept.rep;
      split = λ pre post is.
          let rises = subst (Rising (rep_of t)) is c.requires.trie.ordered.rises in
          let before = not_before (rep_of t) n pre post rises in
          let behind = not_behind (rep_of t) n pre post rises in (
            row_split t u v p q n m pre post c.args.inside.now.grove.forest is before behind new sh ha w,
            c.open_bucket-opened.ensures.frames ∙ (ap (λ r. turning w (reps_of t) r) key ∙ frames_split t u v p q n m pre post c.args.inside.now.grove.forest is before behind new sh ha w),
          );
      few = c.open_bucket-opened.ensures.few;
      tally = c.open_bucket-opened.ensures.tally;
      room = c.open_bucket-opened.ensures.room;
      rest = (refl, refl);
    }
