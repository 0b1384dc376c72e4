-- A bucket's nodes from its middle on.
--
--   Parted, parted, halving  the nodes cut in two at the middle
--   middle_inside, middle_is  the node in the middle, and its key
--   halve_low, halve_high  the halves can be built
--   halved         the forest after they were
use Rattle.std.proofs.Common.{◌≡◌, ℕ, zero, suc, ◌+◌, ◌/◌, ◌<◌, ◌≤◌, true, List, [], ◌∷◌, ◌++◌, map, length, get_or, take, drop, sym, refl, ap, ◌∙◌, subst, arith, length-drop}
use Rattle.std.proofs.ByRecursion.{All-get_or}
use Rattle.std.proofs.lemmas.List.{take-append-drop, take-append-le, drop-append-le, take_at, get_or_append_left, get_or-map, take-map, drop-map, length-map, nil_from_length}
use Rattle.dictionary.specs.Pairs.{among}
use Rattle.entry.specs.declared.Entry.{Entry}
use Rattle.entry.specs.Lists.{first, blank}
use Rattle.links.specs.Orders.{with_at}
use Rattle.buckets.specs.declared.Table.{Table}
use Rattle.buckets.specs.Tables.{size_of, root_of, order_of}
use Rattle.trees.specs.declared.Node.{Node}
use Rattle.trees.specs.Counts.{times}
use Rattle.trees.specs.Trees.{entries, places}
use Rattle.trees.specs.Pools.{node_at, entry_at, tree_at, entries_at, places_at}
use Rattle.trees.proofs.Counts.{times_append, times_all}
use Rattle.trees.proofs.Pools.{entries_are, places_long, same_tree, standing_kept, kept_then}
use Rattle.avl.specs.declared.pool.Pool.{Pool}
use Rattle.avl.specs.Spares.{free}
use Rattle.avl.specs.Builds.{Order, Built}
use Rattle.avl.proofs.Builds.{map_kept, order_tree, order_parts, order_kept}
use Rattle.forest.specs.Forests.{items_of, places_of, Forest, Halved}
use Rattle.forest.proofs.Alters.{stand, Written}
use Rattle.forest.proofs.Walks.{Walked}
use Rattle.forest.proofs.Rebuilds.{Both, both}

pub record Parted (t : Table) (p : Pool) (n h : ℕ) (lower upper : List ℕ) : Type 0 where
  pub low : lower ≡ take h (places_of t p n)
  pub high : upper ≡ drop h (places_of t p n)

first_drop : (h : ℕ) (es : List Entry) → first (drop h es) ≡ get_or es h blank
first_drop zero [] = refl
first_drop zero (e ∷ es) = refl
first_drop (suc h) [] = refl
first_drop (suc h) (e ∷ es) = first_drop h es

-- a place of the row, which is the middle
module _ (t : Table) (p : Pool) (n count h : ℕ) (row : List ℕ) (f : Forest t p) (i : among n (order_of t) ≡ true) (w : Walked (places_of t p n) count row) (half : h ≡ count / 2) where
  pub halving : h ≡ length (items_of t p n) / 2
  halving = half ∙ ap (λ z. z / 2) (w.counted ∙ places_long (tree_at p.nodes (root_of t n)))

  -- the row cut in front of the middle, and behind the nodes
  pub parted : (more : ℕ) (lower rest upper : List ℕ) → more + h ≡ count → lower ≡ take h row → rest ≡ drop h row → upper ≡ take more rest → Parted t p n h lower upper
  parted more lower rest upper all a b c =
      let le : h ≤ length (places_of t p n) = omega (arith, w.counted) in
      record {
        low = a ∙ ap (take h) w.begins ∙ take-append-le h (places_of t p n) w.back le;
        high = c
            ∙ ap (take more) (b ∙ ap (drop h) w.begins ∙ drop-append-le h (places_of t p n) w.back le)
            ∙ take_at (drop h (places_of t p n)) w.back more (omega (arith, length-drop h (places_of t p n), w.counted));
      }

  module _ (some : 1 ≤ length (items_of t p n)) where
    short : h < length (places_of t p n)
    short = omega (arith, w.counted, places_long (tree_at p.nodes (root_of t n)))

    middle_at : get_or row h 0 ≡ get_or (places_of t p n) h 0
    middle_at = ap (λ l. get_or l h 0) w.begins ∙ get_or_append_left (places_of t p n) w.back 0 h short

    pub middle_inside : get_or row h 0 < 512
    middle_inside =
        let o = order_tree p.nodes (root_of t n) (stand t p f n i) in
        rw middle_at (All-get_or (λ x. x < 512) (places_of t p n) h 0 short (times_all (λ x. x < 512) (places_of t p n) (λ m z. omega (arith, o.inside m z, o.few))))

    pub middle_is : (node_at p.nodes (get_or row h 0)).key ≡ (first (drop (length (items_of t p n) / 2) (items_of t p n))).key
    middle_is =
        ap (λ z. (node_at p.nodes z).key) middle_at
        ∙ ap (λ (x : Entry). x.key) (sym (
        ap (λ z. first (drop z (items_of t p n))) (sym halving)
        ∙ first_drop h (items_of t p n)
        ∙ ap (λ l. get_or l h blank) (entries_are p.nodes (tree_at p.nodes (root_of t n)) (stand t p f n i).lies)
        ∙ get_or-map (entry_at p.nodes) (places_of t p n) h 0 blank short
        ))

-- a bucket's nodes, cut in two
module _ (t : Table) (p : Pool) (n k h : ℕ) (ls us : List ℕ) (f : Forest t p) (i : among n (order_of t) ≡ true) (c : Parted t p n h ls us) where
  whole : ls ++ us ≡ places_of t p n
  whole = (λ d. c.low d ++ c.high d) ∙ take-append-drop h (places_of t p n)

  order : Order p.nodes (ls ++ us)
  order = subst (Order p.nodes) (sym whole) (order_tree p.nodes (root_of t n) (stand t p f n i))

  pub halve_low : Order p.nodes ls
  halve_low = (order_parts p.nodes ls us order).0

  module _ (ms : List Node) (a : ℕ) (ba : Built p.nodes ms ls a (tree_at ms a)) where
    pub halve_high : Order ms us
    halve_high = order_kept p.nodes ms ls us ba.kept (λ m. omega (arith, times_append m ls us, order.apart m)) (order_parts p.nodes ls us order).1

    module _ (u : Table) (q : Pool) (b x y : ℕ) (bb : Built ms q.nodes us b (tree_at q.nodes b)) (j : among k (order_of t) ≡ true) (ne : n ≡ k → ⊥) (empty : items_of t p k ≡ [])
        (w : Written t u (with_at (with_at (root_of t) n a) k b) (with_at (with_at (size_of t) n x) k y)) (lx : x ≡ length ls) (ly : y ≡ length us) (same : free q ≡ free p) where
      count : (m : ℕ) → times m (ls ++ us) ≡ times m ls + times m us
      count m = times_append m ls us

      apart : (m : ℕ) → times m (places_at ms a) + times m us ≤ 1
      apart m = omega (arith, count m, ba.spots m, order.apart m)

      low_same : tree_at q.nodes a ≡ tree_at ms a
      low_same = same_tree ms q.nodes us bb.kept a apart ba.stands

      low_holds : entries_at q.nodes a ≡ take h (items_of t p n)
      low_holds = ap entries low_same ∙ ba.holds ∙ ap (map (entry_at p.nodes)) c.low ∙ sym (take-map (entry_at p.nodes) h (places_of t p n))
          ∙ ap (take h) (sym (entries_are p.nodes (tree_at p.nodes (root_of t n)) (stand t p f n i).lies))

      high_holds : entries_at q.nodes b ≡ drop h (items_of t p n)
      high_holds = bb.holds ∙ map_kept p.nodes ms ls ba.kept us (λ m z. omega (arith, count m, order.apart m)) ∙ ap (map (entry_at p.nodes)) c.high ∙ sym (drop-map (entry_at p.nodes) h (places_of t p n))
          ∙ ap (drop h) (sym (entries_are p.nodes (tree_at p.nodes (root_of t n)) (stand t p f n i).lies))

      none : places_of t p k ≡ []
      none = nil_from_length (places_of t p k) (places_long (tree_at p.nodes (root_of t k)) ∙ ap length empty)

      halves : Both t p u q n k (take h (items_of t p n)) (drop h (items_of t p n))
      halves = both t p u q n k a b x y (ls ++ us) f i j ne w
          (kept_then p.nodes ms q.nodes ls us (ls ++ us) ba.kept bb.kept (λ m z. (omega (arith, count m), omega (arith, count m))))
          (λ m. omega (arith, ap (times m) whole, ap (times m) none))
          (λ m. omega (arith, count m, ap (λ z. times m (places z)) low_same, ba.spots m, bb.spots m))
          (standing_kept ms q.nodes us bb.kept a apart ba.stands) bb.stands (take h (items_of t p n)) (drop h (items_of t p n)) low_holds high_holds
          (lx ∙ long_low) (ly ∙ long_high) same
        where
          long_low : length ls ≡ length (take h (items_of t p n))
          long_low = sym (length-map ls (entry_at p.nodes)) ∙ ap length (sym ba.holds ∙ ap entries (sym low_same) ∙ low_holds)

          long_high : length us ≡ length (drop h (items_of t p n))
          long_high = sym (length-map us (entry_at ms)) ∙ ap length (sym bb.holds ∙ high_holds)

      pub halved : h ≡ length (items_of t p n) / 2 → Forest u q × Halved t p u q n k
      halved e = (
        halves.forest,
        record { kept = halves.kept; lower = halves.one ∙ ap (λ z. take z (items_of t p n)) e; upper = halves.other ∙ ap (λ z. drop z (items_of t p n)) e },
      )
