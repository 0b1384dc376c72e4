-- A balanced tree of two trees and the node i: hung as they are, or by one of the four turns.
--
--   from_crown   what a crown of the right entries, places and heights is
--   right-…      the right tree is two higher: its outer side is the higher one, or as high; its inner side is
--   left-…       the left tree is two higher, likewise
--   from_hang    neither is
--   rooted       a tree with a height has a root
--   bound        an index with a tree is in the pool
use Rattle.std.proofs.Common.{◌≡◌, ℕ, ◌+◌, ◌<◌, ◌≤◌, max, List, ◌∷◌, ◌++◌, length, sym, refl, ap, ◌∙◌, subst, append_assoc, arith}
use Rattle.entry.specs.Lists.{Rising}
use Rattle.trees.specs.declared.Node.{Node}
use Rattle.trees.specs.Counts.{single, times}
use Rattle.trees.specs.Trees.{Tree, node, tall, places}
use Rattle.trees.specs.Pools.{node_at, entry_at, high, Standing, tree_at, left_at, right_at, entries_at, places_at}
use Rattle.trees.proofs.Counts.{single_same, differ, times_append}
use Rattle.trees.proofs.Pools.{Opened, opened, end_is, tree_is, low, high_is}
use Rattle.trees.proofs.Looks.{entries_open, count_open, tall_open}
use Rattle.avl.specs.Turns.{hung, Four, crowned, Crowned, Loose, Level}
use Rattle.avl.proofs.Hooks.{Hook, hook, hung_long, hung_other, hung_lies}

-- the indices of a node's children
abbrev left_of : List Node → ℕ → ℕ
left_of ns i = (node_at ns i).left

abbrev right_of : List Node → ℕ → ℕ
right_of ns i = (node_at ns i).right

pub rooted : (ns : List Node) (root : ℕ) → 0 < tall (tree_at ns root) → root ≡ 65535 → ⊥
rooted ns root pos e = omega (arith, ap tall (end_is ns root e))

pub bound : (ns : List Node) (root : ℕ) → Standing ns root → (root ≡ 65535 → ⊥) → root < length ns
bound ns root s ne = (opened ns root s ne).inside

-- heights of the four trees of a crown that takes the place of two trees
record Heights (l r a b c d : ℕ) : Type 0 where
  pub low : (a ≤ 1 + b) × (b ≤ 1 + a)
  pub high : (c ≤ 1 + d) × (d ≤ 1 + c)
  pub near : (max a b ≤ 1 + max c d) × (max c d ≤ 1 + max a b)
  pub most : 1 + max (max a b) (max c d) ≤ max l r
  pub least : max l r ≤ 2 + max (max a b) (max c d)
  pub odd : l ≤ 1 + r → r ≤ 1 + l → ⊥

mirror : (l r a b c d : ℕ) → Heights l r a b c d → Heights r l d c b a
mirror l r a b c d h = record {
  low = (h.high.1, h.high.0);
  high = (h.low.1, h.low.0);
  near = (omega (arith, h.near), omega (arith, h.near));
  most = omega (arith, h.most);
  least = omega (arith, h.least);
  odd = λ p q. h.odd q p;
}

-- the high tree has the sides inner and outer, and the higher one of them the subtrees c and d
outer_heights : (low high inner outer c d : ℕ) → high ≡ 2 + low → high ≡ 1 + max inner outer → (inner ≤ 1 + outer) × (outer ≤ 1 + inner) → outer ≡ 1 + max c d → (c ≤ 1 + d) × (d ≤ 1 + c) → inner ≤ outer
    → Heights low high low inner c d
outer_heights low high inner outer c d two is near mid_is mid_near le = record {
  low = omega arith;
  high = omega arith;
  near = omega arith;
  most = omega arith;
  least = omega arith;
  odd = λ p q. omega arith;
}

inner_heights : (low high inner outer c d : ℕ) → high ≡ 2 + low → high ≡ 1 + max inner outer → (inner ≤ 1 + outer) × (outer ≤ 1 + inner) → inner ≡ 1 + max c d → (c ≤ 1 + d) × (d ≤ 1 + c) → outer < inner
    → Heights low high low c d outer
inner_heights low high inner outer c d two is near mid_is mid_near lt = record {
  low = omega arith;
  high = omega arith;
  near = omega arith;
  most = omega arith;
  least = omega arith;
  odd = λ p q. omega arith;
}

module _ (ns : List Node) (i left right : ℕ) (lo : Loose ns i left right) where
  from_level : (ms : List Node) (root : ℕ) (u : Tree) → Level ns ms i (entry_at ns i) (tree_at ns left) (tree_at ns right) root u → Level ns ms i (entry_at ns i) (tree_at ns left) (tree_at ns right) root (tree_at ms root)
  from_level ms root u v = subst (Level ns ms i (entry_at ns i) (tree_at ns left) (tree_at ns right) root) (sym (tree_is ms root u v.stands)) v

  from_crown : (ms : List Node) (x m y a b c d : ℕ) (f : Four ns x m y a b c d) (cr : Crowned ns ms x m y a b c d)
      → (entries_at ns a ++ entry_at ns x ∷ entries_at ns b) ++ entry_at ns m ∷ (entries_at ns c ++ entry_at ns y ∷ entries_at ns d) ≡ entries_at ns left ++ entry_at ns i ∷ entries_at ns right
      → ((j : ℕ) → times j (places_at ns a) + single j x + times j (places_at ns b) + single j m + times j (places_at ns c) + single j y + times j (places_at ns d) ≡ times j (places_at ns left) + single j i + times j (places_at ns right))
      → Heights (tall (tree_at ns left)) (tall (tree_at ns right)) (tall (tree_at ns a)) (tall (tree_at ns b)) (tall (tree_at ns c)) (tall (tree_at ns d))
      → Level ns ms i (entry_at ns i) (tree_at ns left) (tree_at ns right) m (tree_at ms m)
  from_crown ms x m y a b c d f cr is counts h = from_level ms m (crowned ns x m y a b c d) (record {
    stands = record {
      lies = cr.lies;
      root_is = refl;
      balanced = (omega (arith, h.near), omega (arith, h.near), (h.low.0, h.low.1, f.stand.0.balanced, f.stand.1.balanced), (h.high.0, h.high.1, f.stand.2.balanced, f.stand.3.balanced));
      rising = subst Rising (sym is) lo.rising;
      apart = λ j. omega (arith, spots j, lo.apart j);
      few = omega (arith, cr.kept.long, lo.lower.few);
    };
    holds = is;
    spots = spots;
    most = omega (arith, h.most);
    least = omega (arith, h.least);
    even = λ p q. absurd (h.odd p q);
    kept = record {
      long = cr.kept.long;
      same = λ j out. cr.kept.same j (omega (arith, out, counts j, times_append j (places_at ns left) (i ∷ places_at ns right)));
    };
  })
    where
      spots : (j : ℕ) → times j (places (crowned ns x m y a b c d)) ≡ times j (places_at ns left) + single j i + times j (places_at ns right)
      spots j = omega (arith, counts j, times_append j (places_at ns a ++ x ∷ places_at ns b) (m ∷ (places_at ns c ++ y ∷ places_at ns d)), times_append j (places_at ns a) (x ∷ places_at ns b), times_append j (places_at ns c) (y ∷ places_at ns d))

  pub from_hang : tall (tree_at ns left) ≤ 1 + tall (tree_at ns right) → tall (tree_at ns right) ≤ 1 + tall (tree_at ns left) → Level ns (hung ns i left right) i (entry_at ns i) (tree_at ns left) (tree_at ns right) i (tree_at (hung ns i left right) i)
  from_hang p q = from_level (hung ns i left right) i (node i (entry_at ns i) (tree_at ns left) (tree_at ns right)) (record {
    stands = record {
      lies = hung_lies ns i left right (tree_at ns left) (tree_at ns right) lo.lower.few lo.inside lo.lower.root_is lo.upper.root_is lo.lower.lies lo.upper.lies
          (omega (arith, lo.apart i, single_same i i refl)) (omega (arith, lo.apart i, single_same i i refl));
      root_is = refl;
      balanced = (p, q, lo.lower.balanced, lo.upper.balanced);
      rising = lo.rising;
      apart = λ j. omega (arith, spots j, lo.apart j);
      few = omega (arith, hung_long ns i left right, lo.lower.few);
    };
    holds = refl;
    spots = spots;
    most = omega arith;
    least = omega arith;
    even = λ a b. refl;
    kept = record { long = hung_long ns i left right; same = λ j out. hung_other ns i left right j (differ j i (omega (arith, out, spots j))) };
  })
    where
      spots : (j : ℕ) → times j (places_at ns left ++ i ∷ places_at ns right) ≡ times j (places_at ns left) + single j i + times j (places_at ns right)
      spots j = omega (arith, times_append j (places_at ns left) (i ∷ places_at ns right))

  pub hang_hook : Hook ns i left right
  hang_hook = hook ns i left right (tree_at ns left) (tree_at ns right) lo.lower.few lo.inside lo.lower.root_is lo.upper.root_is lo.lower.lies lo.upper.lies
      (omega (arith, low ns left (tree_at ns left) lo.lower)) (omega (arith, low ns right (tree_at ns right) lo.upper))

  module _ (two : tall (tree_at ns right) ≡ 2 + tall (tree_at ns left)) where
    pub right_open : Opened ns right
    right_open = opened ns right lo.upper (rooted ns right (omega arith))

    module _ (higher : high ns (left_of ns right) ≤ high ns (right_of ns right)) where
      higher_right_outer : tall (left_at ns right) ≤ tall (right_at ns right)
      higher_right_outer = omega (arith, high_is ns (left_of ns right) right_open.left, high_is ns (right_of ns right) right_open.right)

      pub right_outer_open : Opened ns (right_of ns right)
      right_outer_open = opened ns (right_of ns right) right_open.right (rooted ns (right_of ns right) (omega (arith, two, tall_open ns right right_open, higher_right_outer)))

      right_outer_counts : (j : ℕ) → times j (places_at ns left) + single j i + times j (places_at ns (left_of ns right)) + single j right + times j (places_at ns (left_of ns (right_of ns right))) + single j (right_of ns right) + times j (places_at ns (right_of ns (right_of ns right))) ≡ times j (places_at ns left) + single j i + times j (places_at ns right)
      right_outer_counts j = omega (arith, count_open ns right right_open j, count_open ns (right_of ns right) right_outer_open j)

      pub right_outer_four : Four ns i right (right_of ns right) left (left_of ns right) (left_of ns (right_of ns right)) (right_of ns (right_of ns right))
      right_outer_four = record { inside = (lo.inside, right_open.inside, right_outer_open.inside); stand = (lo.lower, right_open.left, right_outer_open.left, right_outer_open.right); apart = λ j. omega (arith, right_outer_counts j, lo.apart j) }

      pub right_outer : (ms : List Node) → Crowned ns ms i right (right_of ns right) left (left_of ns right) (left_of ns (right_of ns right)) (right_of ns (right_of ns right)) → Level ns ms i (entry_at ns i) (tree_at ns left) (tree_at ns right) right (tree_at ms right)
      right_outer ms cr = from_crown ms i right (right_of ns right) left (left_of ns right) (left_of ns (right_of ns right)) (right_of ns (right_of ns right)) right_outer_four cr
          (append_assoc (entries_at ns left) (entry_at ns i ∷ entries_at ns (left_of ns right)) (entry_at ns right ∷ (entries_at ns (left_of ns (right_of ns right)) ++ entry_at ns (right_of ns right) ∷ entries_at ns (right_of ns (right_of ns right))))
          ∙ ap (λ z. entries_at ns left ++ entry_at ns i ∷ (entries_at ns (left_of ns right) ++ entry_at ns right ∷ z)) (sym (entries_open ns (right_of ns right) right_outer_open)) ∙ ap (λ z. entries_at ns left ++ entry_at ns i ∷ z) (sym (entries_open ns right right_open)))
          right_outer_counts
          (outer_heights _ _ _ _ _ _ two (tall_open ns right right_open) right_open.level (tall_open ns (right_of ns right) right_outer_open) right_outer_open.level higher_right_outer)

    module _ (higher : high ns (right_of ns right) < high ns (left_of ns right)) where
      higher_right_inner : tall (right_at ns right) < tall (left_at ns right)
      higher_right_inner = omega (arith, high_is ns (left_of ns right) right_open.left, high_is ns (right_of ns right) right_open.right)

      pub right_inner_open : Opened ns (left_of ns right)
      right_inner_open = opened ns (left_of ns right) right_open.left (rooted ns (left_of ns right) (omega (arith, two, tall_open ns right right_open, higher_right_inner)))

      right_inner_counts : (j : ℕ) → times j (places_at ns left) + single j i + times j (places_at ns (left_of ns (left_of ns right))) + single j (left_of ns right) + times j (places_at ns (right_of ns (left_of ns right))) + single j right + times j (places_at ns (right_of ns right)) ≡ times j (places_at ns left) + single j i + times j (places_at ns right)
      right_inner_counts j = omega (arith, count_open ns right right_open j, count_open ns (left_of ns right) right_inner_open j)

      pub right_inner_four : Four ns i (left_of ns right) right left (left_of ns (left_of ns right)) (right_of ns (left_of ns right)) (right_of ns right)
      right_inner_four = record { inside = (lo.inside, right_inner_open.inside, right_open.inside); stand = (lo.lower, right_inner_open.left, right_inner_open.right, right_open.right); apart = λ j. omega (arith, right_inner_counts j, lo.apart j) }

      pub right_inner : (ms : List Node) → Crowned ns ms i (left_of ns right) right left (left_of ns (left_of ns right)) (right_of ns (left_of ns right)) (right_of ns right) → Level ns ms i (entry_at ns i) (tree_at ns left) (tree_at ns right) (left_of ns right) (tree_at ms (left_of ns right))
      right_inner ms cr = from_crown ms i (left_of ns right) right left (left_of ns (left_of ns right)) (right_of ns (left_of ns right)) (right_of ns right) right_inner_four cr
          (append_assoc (entries_at ns left) (entry_at ns i ∷ entries_at ns (left_of ns (left_of ns right))) (entry_at ns (left_of ns right) ∷ (entries_at ns (right_of ns (left_of ns right)) ++ entry_at ns right ∷ entries_at ns (right_of ns right)))
          ∙ ap (λ z. entries_at ns left ++ entry_at ns i ∷ z) (sym (append_assoc (entries_at ns (left_of ns (left_of ns right))) (entry_at ns (left_of ns right) ∷ entries_at ns (right_of ns (left_of ns right))) (entry_at ns right ∷ entries_at ns (right_of ns right))) ∙ ap (λ z. z ++ entry_at ns right ∷ entries_at ns (right_of ns right)) (sym (entries_open ns (left_of ns right) right_inner_open)) ∙ sym (entries_open ns right right_open)))
          right_inner_counts
          (inner_heights _ _ _ _ _ _ two (tall_open ns right right_open) right_open.level (tall_open ns (left_of ns right) right_inner_open) right_inner_open.level higher_right_inner)

  module _ (two : tall (tree_at ns left) ≡ 2 + tall (tree_at ns right)) where
    pub left_open : Opened ns left
    left_open = opened ns left lo.lower (rooted ns left (omega arith))

    module _ (higher : high ns (right_of ns left) ≤ high ns (left_of ns left)) where
      higher_left_outer : tall (right_at ns left) ≤ tall (left_at ns left)
      higher_left_outer = omega (arith, high_is ns (left_of ns left) left_open.left, high_is ns (right_of ns left) left_open.right)

      pub left_outer_open : Opened ns (left_of ns left)
      left_outer_open = opened ns (left_of ns left) left_open.left (rooted ns (left_of ns left) (omega (arith, two, tall_open ns left left_open, higher_left_outer)))

      left_outer_counts : (j : ℕ) → times j (places_at ns (left_of ns (left_of ns left))) + single j (left_of ns left) + times j (places_at ns (right_of ns (left_of ns left))) + single j left + times j (places_at ns (right_of ns left)) + single j i + times j (places_at ns right) ≡ times j (places_at ns left) + single j i + times j (places_at ns right)
      left_outer_counts j = omega (arith, count_open ns left left_open j, count_open ns (left_of ns left) left_outer_open j)

      pub left_outer_four : Four ns (left_of ns left) left i (left_of ns (left_of ns left)) (right_of ns (left_of ns left)) (right_of ns left) right
      left_outer_four = record { inside = (left_outer_open.inside, left_open.inside, lo.inside); stand = (left_outer_open.left, left_outer_open.right, left_open.right, lo.upper); apart = λ j. omega (arith, left_outer_counts j, lo.apart j) }

      pub left_outer : (ms : List Node) → Crowned ns ms (left_of ns left) left i (left_of ns (left_of ns left)) (right_of ns (left_of ns left)) (right_of ns left) right → Level ns ms i (entry_at ns i) (tree_at ns left) (tree_at ns right) left (tree_at ms left)
      left_outer ms cr = from_crown ms (left_of ns left) left i (left_of ns (left_of ns left)) (right_of ns (left_of ns left)) (right_of ns left) right left_outer_four cr
          (ap (λ z. z ++ entry_at ns left ∷ (entries_at ns (right_of ns left) ++ entry_at ns i ∷ entries_at ns right)) (sym (entries_open ns (left_of ns left) left_outer_open))
          ∙ sym (append_assoc (entries_at ns (left_of ns left)) (entry_at ns left ∷ entries_at ns (right_of ns left)) (entry_at ns i ∷ entries_at ns right)) ∙ ap (λ z. z ++ entry_at ns i ∷ entries_at ns right) (sym (entries_open ns left left_open)))
          left_outer_counts
          (mirror _ _ _ _ _ _ (outer_heights (tall (tree_at ns right)) (tall (tree_at ns left)) (tall (right_at ns left)) (tall (left_at ns left)) (tall (right_at ns (left_of ns left))) (tall (left_at ns (left_of ns left))) two (omega (arith, tall_open ns left left_open)) (left_open.level.1, left_open.level.0) (omega (arith, tall_open ns (left_of ns left) left_outer_open)) (left_outer_open.level.1, left_outer_open.level.0) higher_left_outer))

    module _ (higher : high ns (left_of ns left) < high ns (right_of ns left)) where
      higher_left_inner : tall (left_at ns left) < tall (right_at ns left)
      higher_left_inner = omega (arith, high_is ns (left_of ns left) left_open.left, high_is ns (right_of ns left) left_open.right)

      pub left_inner_open : Opened ns (right_of ns left)
      left_inner_open = opened ns (right_of ns left) left_open.right (rooted ns (right_of ns left) (omega (arith, two, tall_open ns left left_open, higher_left_inner)))

      left_inner_counts : (j : ℕ) → times j (places_at ns (left_of ns left)) + single j left + times j (places_at ns (left_of ns (right_of ns left))) + single j (right_of ns left) + times j (places_at ns (right_of ns (right_of ns left))) + single j i + times j (places_at ns right) ≡ times j (places_at ns left) + single j i + times j (places_at ns right)
      left_inner_counts j = omega (arith, count_open ns left left_open j, count_open ns (right_of ns left) left_inner_open j)

      pub left_inner_four : Four ns left (right_of ns left) i (left_of ns left) (left_of ns (right_of ns left)) (right_of ns (right_of ns left)) right
      left_inner_four = record { inside = (left_open.inside, left_inner_open.inside, lo.inside); stand = (left_open.left, left_inner_open.left, left_inner_open.right, lo.upper); apart = λ j. omega (arith, left_inner_counts j, lo.apart j) }

      pub left_inner : (ms : List Node) → Crowned ns ms left (right_of ns left) i (left_of ns left) (left_of ns (right_of ns left)) (right_of ns (right_of ns left)) right → Level ns ms i (entry_at ns i) (tree_at ns left) (tree_at ns right) (right_of ns left) (tree_at ms (right_of ns left))
      left_inner ms cr = from_crown ms left (right_of ns left) i (left_of ns left) (left_of ns (right_of ns left)) (right_of ns (right_of ns left)) right left_inner_four cr
          (append_assoc (entries_at ns (left_of ns left)) (entry_at ns left ∷ entries_at ns (left_of ns (right_of ns left))) (entry_at ns (right_of ns left) ∷ (entries_at ns (right_of ns (right_of ns left)) ++ entry_at ns i ∷ entries_at ns right))
          ∙ ap (λ z. entries_at ns (left_of ns left) ++ entry_at ns left ∷ z) (sym (append_assoc (entries_at ns (left_of ns (right_of ns left))) (entry_at ns (right_of ns left) ∷ entries_at ns (right_of ns (right_of ns left))) (entry_at ns i ∷ entries_at ns right)) ∙ ap (λ z. z ++ entry_at ns i ∷ entries_at ns right) (sym (entries_open ns (right_of ns left) left_inner_open)))
          ∙ sym (append_assoc (entries_at ns (left_of ns left)) (entry_at ns left ∷ entries_at ns (right_of ns left)) (entry_at ns i ∷ entries_at ns right)) ∙ ap (λ z. z ++ entry_at ns i ∷ entries_at ns right) (sym (entries_open ns left left_open)))
          left_inner_counts
          (mirror _ _ _ _ _ _ (inner_heights (tall (tree_at ns right)) (tall (tree_at ns left)) (tall (right_at ns left)) (tall (left_at ns left)) (tall (right_at ns (right_of ns left))) (tall (left_at ns (right_of ns left))) two (omega (arith, tall_open ns left left_open)) (left_open.level.1, left_open.level.0) (omega (arith, tall_open ns (right_of ns left) left_inner_open)) (left_inner_open.level.1, left_inner_open.level.0) higher_left_inner))
