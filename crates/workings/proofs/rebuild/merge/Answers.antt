use Rattle.std.proofs.Common.{◌≡◌, ℕ, ◌^◌, true, List, [], ◌∷◌, ◌++◌, sym, refl, ap, ◌∙◌, subst, inl, inr, arith}
use Rattle.std.proofs.lemmas.Bool.{cases_eq}
use Rattle.dictionary.specs.Pairs.{among}
use Rattle.links.specs.Orders.{Rising as RepsRise}
use Rattle.links.proofs.Orders.{rising_parts}
use Rattle.buckets.specs.Tables.{rep_of, order_of}
use Rattle.buckets.proofs.Lays.{small, neighbours}
use Rattle.forest.specs.Forests.{items_of}
use Rattle.rules.specs.Buckets.{Spread}
use Rattle.rows.specs.Rows.{row}
use Rattle.inside.proofs.Middle.{trie_kept}
use Rattle.inside.proofs.Splits.{among_right, among_first}
use Rattle.inside.proofs.Beside.{Pair, pair, both_rise}
use Rattle.inside.proofs.Merges.{order_v, forest_v, row_merged, frames_merged}
use Rattle.workings.proofs.rebuild.merge.Goals as goal

-- a number in the middle of a rising order is not the one before it
not_one : (rep : ℕ → ℕ) (n m : ℕ) (pre post : List ℕ) → RepsRise rep (pre ++ n ∷ m ∷ post) → n ≡ m → ⊥
not_one rep n m pre post r e = omega (arith, (rising_parts rep pre (n ∷ m ∷ post) r).1.0.0, ap rep e)

second_in : (n m : ℕ) (pre post : List ℕ) → among m (pre ++ n ∷ m ∷ post) ≡ true
second_in n m pre post = among_right m pre (n ∷ m ∷ post) (among_right m (n ∷ []) (m ∷ post) (among_first m post))

pub next-other-requires : goal.next-other-requires
next-other-requires g c = small c.args.inside.now.grove.table c.args.number c.requires.stands

pub unite-requires : goal.unite-requires
unite-requires g c =
    let t = c.args.inside.now.grove.table in
    let p = c.args.inside.now.grove.pool in
    let n = c.args.number in
    let w = g.K.Key.width in
    let x = subst (Pair (order_of t) n) (sym c.next-other.ensures) (pair t n c.requires.stands c.requires.behind) in
    let m = c.next-other.result in
    record {
      stands = c.requires.stands;
      beside = subst (λ o. among m o ≡ true) (sym x.is) (second_in n m x.pre x.post);
      apart = not_one (rep_of t) n m x.pre x.post (subst (RepsRise (rep_of t)) x.is c.requires.trie.ordered.rises);
      rising = both_rise (2 ^ w) (rep_of t) (items_of t p) n m x.pre x.post (subst (λ o. Spread (2 ^ w) (row (rep_of t) (items_of t p) o)) x.is c.requires.spread);
    }

pub close_bucket-requires : goal.close_bucket-requires
close_bucket-requires g c =
    let t = c.args.inside.now.grove.table in
    let u = c.unite.new.self.table in
    let n = c.args.number in
    let x = subst (Pair (order_of t) n) (sym c.next-other.ensures) (pair t n c.requires.stands c.requires.behind) in
    let m = c.next-other.result in
    let un = c.unite.ensures in
    record {
      sound = trie_kept g.K.Key.width (g.D.Dictionary.pairs c.args.d.now) t u c.requires.trie un.kept.order un.kept.rep;
      held = subst (λ o. among m o ≡ true) (sym (un.kept.order ∙ x.is)) (second_in n m x.pre x.post);
      later = elim (cases_eq m 0) [ inl e ↦ absurd (c.requires.behind (sym c.next-other.ensures ∙ e)) | inr e ↦ omega (arith, e) ];
    }

pub invariant_of-inside : goal.invariant_of-inside
invariant_of-inside g c =
    let t = c.args.inside.now.grove.table in
    let u = c.unite.new.self.table in
    let v = c.close_bucket.new.table in
    let p = c.args.inside.now.grove.pool in
    let q = c.unite.new.self.pool in
    let n = c.args.number in
    let m = c.next-other.result in
    let w = g.K.Key.width in
    let un = c.unite.ensures in
    let sh = c.close_bucket.ensures.shows in
    let x = subst (Pair (order_of t) n) (sym c.next-other.ensures) (pair t n c.requires.stands c.requires.behind) in
    let rises = c.requires.trie.ordered.rises in
    record { forest = forest_v t u v p q n m x.pre x.post x.is rises c.unite.new.self.forest un sh }

pub returns : goal.returns
returns g c =
    let t = c.args.inside.now.grove.table in
    let u = c.unite.new.self.table in
    let v = c.close_bucket.new.table in
    let p = c.args.inside.now.grove.pool in
    let q = c.unite.new.self.pool in
    let n = c.args.number in
    let m = c.next-other.result in
    let w = g.K.Key.width in
    let un = c.unite.ensures in
    let sh = c.close_bucket.ensures.shows in
    let x = subst (Pair (order_of t) n) (sym c.next-other.ensures) (pair t n c.requires.stands c.requires.behind) in
    let rises = c.requires.trie.ordered.rises in
    record {
      trie = c.close_bucket.ensures.sound;
      merged = λ pre other post is.
          let same : m ≡ other = c.next-other.ensures ∙ (neighbours t pre n (other ∷ post) is).1 in
          let is_m = is ∙ ap (λ y. pre ++ n ∷ y ∷ post) (sym same) in (
            order_v t u v p q n m pre post is_m rises c.unite.new.self.forest un sh,
            row_merged t u v p q n m pre post is_m rises c.unite.new.self.forest un sh w,
            c.close_bucket.ensures.frames ∙ frames_merged t u v p q n m pre post is_m rises c.unite.new.self.forest un sh w,
          );
      few = c.close_bucket.ensures.few;
      tally = c.close_bucket.ensures.tally;
      room = c.close_bucket.ensures.room;
      rest = (refl, refl);
    }
