-- A tree of given nodes: the middle one above the trees of the others.
--
--   lowest_none, lowest_half, lowest_log, lowest_fits  the height of the lowest tree: of none, from the half, from the logarithm; it is small
--   lower, same_low   it falls with the number, and is one height
--   Halves, halves    the row around its middle
--   built_none        no node
--   map_kept          the entries of nodes that were not altered
--   order_short       a row is no longer than the pool
--   order_tree, order_parts, order_join, order_kept  rows of trees, their parts, two joined, and after changes elsewhere
--   order_left, order_right, build_hook, built_join  the calls on both sides, and the node above them
use Rattle.std.proofs.Common.{◌≡◌, ℕ, ◌+◌, ◌*◌, ◌/◌, ◌^◌, ◌<◌, ◌≤◌, List, [], ◌∷◌, ◌++◌, map, length, sym, refl, ap, ◌∙◌, subst, inl, inr, arith, length-append, pow_pos, pow_mono, pow-add}
use Rattle.std.specs.List.{IsFirstAndRest}
use Rattle.std.proofs.lemmas.List.{map-append, nil_from_length}
use Rattle.std.proofs.lemmas.Bool.{cases_lt}
use Rattle.entry.specs.Lists.{Rising}
use Rattle.entry.proofs.Orders.{rising_parts}
use Rattle.trees.specs.declared.Node.{Node}
use Rattle.trees.specs.Counts.{single, times}
use Rattle.trees.specs.Trees.{tall, entries, places}
use Rattle.trees.specs.Pools.{entry_in, entry_at, Standing, tree_at, entries_at, places_at, Kept}
use Rattle.trees.proofs.Counts.{single_same, times_append, times_all, distinct_few}
use Rattle.trees.proofs.Pools.{inside, standing_none, end_is, kept_none, kept_then, entries_are}
use Rattle.avl.specs.Turns.{hung, Loose, Level}
use Rattle.avl.specs.Builds.{Lowest, Order, Built}
use Rattle.avl.proofs.Hooks.{Hook}
use Rattle.avl.proofs.Levels.{hang_hook, from_hang}
use Rattle.avl.proofs.Mends.{other_same, mend_right, level_right}

twice : (k : ℕ) → 2 ^ (1 + k) ≡ 2 * 2 ^ k
twice k = pow-add 2 1 k

pub lowest_none : (n : ℕ) → n ≡ 0 → Lowest n 0
lowest_none n e = (omega arith, omega arith)

pub lowest_half : (n k : ℕ) → (n ≡ 0 → ⊥) → Lowest (n / 2) k → Lowest n (1 + k)
lowest_half n k ne h = (omega (arith, twice k, h.0), omega (arith, twice k, h.1))

pub lowest_log : (n k : ℕ) → 2 ^ k ≤ n → n < 2 * 2 ^ k → Lowest n (1 + k)
lowest_log n k le lt = (omega (arith, twice k), omega (arith, twice k))

pub lowest_fits : (n h : ℕ) → n ≤ 512 → Lowest n h → h < 11
lowest_fits n h few l = elim (cases_lt h 11) [
  | inl lt ↦ lt
  | inr ge ↦ absurd (let m : 2 ^ 11 ≤ 2 ^ h = pow_mono {i = 11} ge in omega (arith, m, l.1))
]

pub lower : (n h a k : ℕ) → Lowest n h → Lowest a k → 1 ≤ n → 2 * a ≤ n → k < h
lower n h a k ln la pos half = elim (cases_lt k h) [
  | inl lt ↦ lt
  | inr ge ↦ absurd (let m : 2 ^ h ≤ 2 ^ k = pow_mono ge in omega (arith, m, ln.0, la.1))
]

no_higher : (n h k : ℕ) → Lowest n h → Lowest n k → k ≤ h
no_higher n h k a b = elim (cases_lt h k) [
  | inl lt ↦ absurd (let m : 2 ^ (1 + h) ≤ 2 ^ k = pow_mono (omega arith) in omega (arith, m, twice h, a.0, b.1))
  | inr ge ↦ ge
]

pub same_low : (n h k : ℕ) → Lowest n h → Lowest n k → h ≡ k
same_low n h k a b = omega (arith, no_higher n h k a b, no_higher n k h b a)

-- two lowest trees, one with one node more at most
near_low : (a b h k : ℕ) → Lowest a h → Lowest b k → b ≤ a → a ≤ b + 1 → (k ≤ h) × (h ≤ 1 + k)
near_low a b h k la lb p q = (
  elim (cases_lt h k) [
    | inl lt ↦ absurd (let m : 2 ^ (1 + h) ≤ 2 ^ k = pow_mono (omega arith) in omega (arith, m, twice h, la, lb))
    | inr ge ↦ ge
  ],
  elim (cases_lt (1 + k) h) [
    | inl lt ↦ absurd (let m : 2 ^ (1 + (1 + k)) ≤ 2 ^ h = pow_mono (omega arith) in omega (arith, m, twice (1 + k), twice k, pow_pos k, la, lb))
    | inr ge ↦ ge
  ],
)

join_low : (a b h : ℕ) → Lowest a h → b ≤ a → a ≤ b + 1 → Lowest (a + 1 + b) (1 + h)
join_low a b h l p q = (omega (arith, twice h, l.0), omega (arith, twice h, l.1))

-- a row around its middle
pub record Halves (ps fs : List ℕ) (m : ℕ) (rs : List ℕ) : Type 0 where
  pub is : ps ≡ fs ++ m ∷ rs
  pub less : length rs ≤ length fs
  pub more : length fs ≤ length rs + 1
  pub long : length ps ≡ length fs + 1 + length rs

pub halves : (ps fs back : List ℕ) (m : ℕ) (rest : List ℕ) → ps ≡ fs ++ back → IsFirstAndRest back m rest → length fs ≡ length ps / 2 → Halves ps fs m rest
halves ps fs back m rest a b half =
    let is : ps ≡ fs ++ m ∷ rest = a ∙ ap (λ z. fs ++ z) b.0 in
    let long : length ps ≡ length fs + 1 + length rest = omega (arith, ap length is, length-append fs (m ∷ rest)) in
    record { is = is; less = omega arith; more = omega arith; long = long }

pub built_none : (ns : List Node) (ps : List ℕ) → length ns ≤ 512 → length ps ≡ 0 → Built ns ns ps 65535 (tree_at ns 65535)
built_none ns ps few e = rw (nil_from_length ps e) (record {
  stands = standing_none ns few;
  holds = ap entries (end_is ns 65535 refl);
  spots = λ m. ap (λ t. times m (places t)) (end_is ns 65535 refl);
  lowest = rw (end_is ns 65535 refl) (lowest_none 0 refl);
  kept = kept_none ns [];
})

pub order_short : (ns : List Node) (ps : List ℕ) → Order ns ps → length ps ≤ 512
order_short ns ps or = distinct_few 512 ps (times_all (λ x. x < 512) ps (λ m z. omega (arith, or.inside m z, or.few))) or.apart

pub map_kept : (ns ms : List Node) (qs : List ℕ) → Kept ns ms qs → (ps : List ℕ) → ((j : ℕ) → 1 ≤ times j ps → times j qs ≡ 0) → map (entry_at ms) ps ≡ map (entry_at ns) ps
map_kept ns ms qs k [] out = refl
map_kept ns ms qs k (p ∷ ps) out = λ d. entry_in (k.same p (out p (omega (arith, single_same p p refl))) d) ∷ map_kept ns ms qs k ps (λ j z. out j (omega arith)) d

-- rows of a tree's nodes, their parts, two of them joined, and after changes elsewhere
pub order_tree : (ns : List Node) (root : ℕ) → Standing ns root → Order ns (places_at ns root)
order_tree ns root s = record {
  few = s.few;
  inside = λ m z. inside ns (tree_at ns root) m s.lies z;
  apart = s.apart;
  rising = subst Rising (entries_are ns (tree_at ns root) s.lies) s.rising;
}

pub order_parts : (ns : List Node) (xs ys : List ℕ) → Order ns (xs ++ ys) → Order ns xs × Order ns ys
order_parts ns xs ys or =
    let counts : (j : ℕ) → times j (xs ++ ys) ≡ times j xs + times j ys = λ j. times_append j xs ys in
    let r = rising_parts (map (entry_at ns) xs) (map (entry_at ns) ys) (subst Rising (map-append (entry_at ns) xs ys) or.rising) in (
      record { few = or.few; inside = λ j z. or.inside j (omega (arith, counts j)); apart = λ j. omega (arith, counts j, or.apart j); rising = r.0 },
      record { few = or.few; inside = λ j z. or.inside j (omega (arith, counts j)); apart = λ j. omega (arith, counts j, or.apart j); rising = r.1 },
    )

pub order_join : (ns : List Node) (xs ys : List ℕ) → Order ns xs → Order ns ys → ((j : ℕ) → times j xs + times j ys ≤ 1) → Rising (map (entry_at ns) xs ++ map (entry_at ns) ys) → Order ns (xs ++ ys)
order_join ns xs ys a b out rising = record {
  few = a.few;
  inside = λ j z. elim (cases_lt 0 (times j xs)) [ inl lt ↦ a.inside j lt | inr ge ↦ b.inside j (omega (arith, z, times_append j xs ys)) ];
  apart = λ j. omega (arith, times_append j xs ys, out j);
  rising = subst Rising (sym (map-append (entry_at ns) xs ys)) rising;
}

pub order_kept : (ns ms : List Node) (qs ps : List ℕ) → Kept ns ms qs → ((j : ℕ) → times j ps + times j qs ≤ 1) → Order ns ps → Order ms ps
order_kept ns ms qs ps k out or = record {
  few = omega (arith, k.long, or.few);
  inside = λ j z. omega (arith, or.inside j z, k.long);
  apart = or.apart;
  rising = subst Rising (sym (map_kept ns ms qs k ps (λ j z. omega (arith, out j)))) or.rising;
}

module _ (ns : List Node) (ps fs : List ℕ) (m : ℕ) (rs : List ℕ) (or : Order ns ps) (ha : Halves ps fs m rs) where
  counts : (j : ℕ) → times j ps ≡ times j fs + single j m + times j rs
  counts j = omega (arith, ap (times j) ha.is, times_append j fs (m ∷ rs))

  map_is : map (entry_at ns) ps ≡ map (entry_at ns) fs ++ entry_at ns m ∷ map (entry_at ns) rs
  map_is = ap (map (entry_at ns)) ha.is ∙ map-append (entry_at ns) fs (m ∷ rs)

  parts : Order ns fs × Order ns (m ∷ rs)
  parts = order_parts ns fs (m ∷ rs) (subst (Order ns) ha.is or)

  pub order_left : Order ns fs
  order_left = parts.0

  module _ (ms : List Node) (left : ℕ) (bl : Built ns ms fs left (tree_at ms left)) where
    rest_same : map (entry_at ms) rs ≡ map (entry_at ns) rs
    rest_same = map_kept ns ms fs bl.kept rs (λ j z. omega (arith, counts j, or.apart j))

    middle_same : entry_at ms m ≡ entry_at ns m
    middle_same = ap entry_in (bl.kept.same m (omega (arith, counts m, or.apart m, single_same m m refl)))

    pub order_right : Order ms rs
    order_right = order_kept ns ms fs rs bl.kept (λ j. omega (arith, counts j, or.apart j)) (order_parts ns (m ∷ []) rs parts.1).1

    module _ (xs : List Node) (right : ℕ) (br : Built ms xs rs right (tree_at xs right)) where
      within : m < length ms
      within = omega (arith, or.inside m (omega (arith, counts m, single_same m m refl)), bl.kept.long)

      out : (j : ℕ) → times j rs + single j m + times j (places_at ms left) ≤ 1
      out j = omega (arith, counts j, or.apart j, bl.spots j)

      holds_is : entries_at ms left ++ entry_at ms m ∷ entries_at xs right ≡ map (entry_at ns) ps
      holds_is = (λ d. bl.holds d ++ middle_same d ∷ rest d) ∙ sym map_is
        where
          rest : entries_at xs right ≡ map (entry_at ns) rs
          rest = br.holds ∙ rest_same

      loose : Loose xs m left right
      loose = mend_right ms xs m right left rs br.kept br.stands bl.stands within br.spots out (subst Rising (sym holds_is) or.rising)

      left_same : tree_at xs left ≡ tree_at ms left
      left_same = other_same ms xs m right left rs br.kept br.stands bl.stands within br.spots out

      pub build_hook : Hook xs m left right
      build_hook = hang_hook xs m left right loose

      near : (tall (tree_at xs right) ≤ tall (tree_at ms left)) × (tall (tree_at ms left) ≤ 1 + tall (tree_at xs right))
      near = near_low (length fs) (length rs) (tall (tree_at ms left)) (tall (tree_at xs right)) bl.lowest br.lowest ha.less ha.more

      level_m : Level xs (hung xs m left right) m (entry_at ms m) (tree_at ms left) (tree_at xs right) m (tree_at (hung xs m left right) m)
      level_m = level_right ms xs m right left rs br.kept br.stands bl.stands within br.spots out (hung xs m left right) m (tree_at (hung xs m left right) m)
          (from_hang xs m left right loose (omega (arith, near, ap tall left_same)) (omega (arith, near, ap tall left_same)))

      pub built_join : Built ns (hung xs m left right) ps m (tree_at (hung xs m left right) m)
      built_join = record {
        stands = level_m.stands;
        holds = level_m.holds ∙ holds_is;
        spots = λ j. omega (arith, level_m.spots j, counts j, bl.spots j, br.spots j);
        lowest =
            let h : tall (tree_at (hung xs m left right) m) ≡ 1 + tall (tree_at ms left) = omega (arith, level_m.even (omega (arith, near)) (omega (arith, near)), near) in
            subst (λ n. Lowest n (tall (tree_at (hung xs m left right) m))) (sym ha.long) (subst (Lowest (length fs + 1 + length rs)) (sym h) (join_low (length fs) (length rs) (tall (tree_at ms left)) bl.lowest ha.less ha.more));
        kept = kept_then ns xs (hung xs m left right) ps (places (tree_at ms left) ++ m ∷ places (tree_at xs right)) ps
            (kept_then ns ms xs fs rs ps bl.kept br.kept (λ j z. (omega (arith, z, counts j), omega (arith, z, counts j))))
            level_m.kept
            (λ j z. (z, omega (arith, z, counts j, bl.spots j, br.spots j, times_append j (places (tree_at ms left)) (m ∷ places (tree_at xs right)))));
      }
