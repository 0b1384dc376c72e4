-- Two buckets' nodes behind each other.
--
--   both_room      the nodes of two buckets have room in a row of 512
--   unite_ready    they can be built
--   united         the forest after they were
use Rattle.std.proofs.Common.{◌≡◌, ℕ, ◌+◌, ◌≤◌, true, List, [], ◌++◌, map, length, take, sym, refl, ap, ◌∙◌, subst, arith, length-append}
use Rattle.std.proofs.lemmas.List.{map-append, take_at, length-map}
use Rattle.dictionary.specs.Pairs.{among}
use Rattle.entry.specs.Lists.{Rising}
use Rattle.links.specs.Orders.{with_at}
use Rattle.buckets.specs.declared.Table.{Table}
use Rattle.buckets.specs.Tables.{size_of, root_of, order_of}
use Rattle.trees.specs.Counts.{times}
use Rattle.trees.specs.Trees.{leaf, entries, places}
use Rattle.trees.specs.Pools.{entry_at, tree_at, entries_at, places_at}
use Rattle.trees.proofs.Counts.{times_append}
use Rattle.trees.proofs.Pools.{entries_are, standing_none, end_is}
use Rattle.avl.specs.declared.pool.Pool.{Pool}
use Rattle.avl.specs.Spares.{free}
use Rattle.avl.specs.Builds.{Order, Built}
use Rattle.avl.proofs.Builds.{order_short, order_tree, order_join}
use Rattle.forest.specs.Forests.{tree_of, items_of, places_of, Forest, United}
use Rattle.forest.proofs.Alters.{stand, two_lone, Written}
use Rattle.forest.proofs.Walks.{Walked}
use Rattle.forest.proofs.Rebuilds.{Both, both}

module _ (t : Table) (p : Pool) (n k : ℕ) (f : Forest t p) (i : among n (order_of t) ≡ true) (j : among k (order_of t) ≡ true) (ne : n ≡ k → ⊥) (rises : Rising (items_of t p n ++ items_of t p k)) where
  both_entries : items_of t p n ++ items_of t p k ≡ map (entry_at p.nodes) (places_of t p n) ++ map (entry_at p.nodes) (places_of t p k)
  both_entries d = entries_are p.nodes (tree_of t p n) (stand t p f n i).lies d ++ entries_are p.nodes (tree_of t p k) (stand t p f k j).lies d

  both_order : Order p.nodes (places_of t p n ++ places_of t p k)
  both_order = order_join p.nodes (places_of t p n) (places_of t p k) (order_tree p.nodes (root_of t n) (stand t p f n i)) (order_tree p.nodes (root_of t k) (stand t p f k j))
      (λ m. two_lone t p f n k m i j ne) (subst Rising both_entries rises)

  few : length (places_of t p n) + length (places_of t p k) ≤ 512
  few = omega (arith, length-append (places_of t p n) (places_of t p k), order_short p.nodes (places_of t p n ++ places_of t p k) both_order)

  pub both_room : (b middle : ℕ) (row : List ℕ) → b ≡ root_of t k → Walked (places_of t p n) middle row → middle + length (places_at p.nodes b) ≤ 512
  both_room b middle row is w = omega (arith, w.counted, ap (λ z. length (places_at p.nodes z)) is, few)

  module _ (count : ℕ) (row all : List ℕ) (w : Walked (places_of t p n ++ places_of t p k) count row) (e : all ≡ take count row) where
    is : all ≡ places_of t p n ++ places_of t p k
    is = e ∙ ap (take count) w.begins ∙ take_at (places_of t p n ++ places_of t p k) w.back count (sym w.counted)

    pub unite_ready : Order p.nodes all
    unite_ready = subst (Order p.nodes) (sym is) both_order

    pub united : (u : Table) (q : Pool) (root x y : ℕ) → Built p.nodes q.nodes all root (tree_at q.nodes root) →
        Written t u (with_at (with_at (root_of t) n root) k 65535) (with_at (with_at (size_of t) n x) k y) → x ≡ count → y ≡ 0 → free q ≡ free p → Forest u q × United t p u q n k
    united u q root x y bu v long none same =
        let es : entries_at q.nodes root ≡ items_of t p n ++ items_of t p k =
        bu.holds ∙ ap (map (entry_at p.nodes)) is ∙ map-append (entry_at p.nodes) (places_of t p n) (places_of t p k)
        ∙ sym both_entries in
        let leafless : tree_at q.nodes 65535 ≡ leaf = end_is q.nodes 65535 refl in
        let r : Both t p u q n k (items_of t p n ++ items_of t p k) [] =
        both t p u q n k root 65535 x y all f i j ne v bu.kept (λ m. ap (times m) is ∙ times_append m (places_of t p n) (places_of t p k))
        (λ m. omega (arith, bu.spots m, ap (λ z. times m (places z)) leafless)) bu.stands (standing_none q.nodes bu.stands.few)
        (items_of t p n ++ items_of t p k) [] es (ap entries leafless) (long ∙ w.counted ∙ ap length (sym is) ∙ sym (length-map all (entry_at p.nodes)) ∙ ap length (sym bu.holds ∙ es)) none same in
        (r.forest, record { kept = r.kept; all = r.one; none = r.other })
