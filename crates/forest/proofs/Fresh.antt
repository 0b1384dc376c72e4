-- A new grove: its one bucket has no tree.
use Rattle.std.proofs.Common.{◌≡◌, ℕ, [], ◌∷◌, length, sym, ap, ◌∙◌, subst, arith}
use Rattle.std.specs.List.{flat_map, AllByRecursion}
use Rattle.buckets.specs.declared.Table.{Table}
use Rattle.buckets.specs.Tables.{root_of, size_of, order_of, Fresh}
use Rattle.trees.specs.Trees.{Tree, leaf, entries, places}
use Rattle.trees.specs.Pools.{Standing}
use Rattle.trees.proofs.Pools.{end_is, standing_none}
use Rattle.avl.specs.declared.pool.Pool.{Pool}
use Rattle.avl.specs.Spares.{free, Shared}
use Rattle.forest.specs.Forests.{tree_of, items_of, places_of, used, Forest}

module _ (t : Table) (p : Pool) (f : Fresh t) where
  pub tree_first : tree_of t p 0 ≡ leaf
  tree_first = end_is p.nodes (root_of t 0) f.root

  in_order : (P : ℕ → Type 0) → P 0 → AllByRecursion P (order_of t)
  in_order P h = subst (AllByRecursion P) (sym f.order) (h, tt)

  unused_places : used t p ≡ []
  unused_places = ap (flat_map (places_of t p)) f.order ∙ ap (λ (x : Tree). flat_map (λ (n : ℕ). places x) (0 ∷ [])) tree_first

  pub fresh_forest : Shared [] (free p) → Forest t p
  fresh_forest share = record {
    trees = in_order (λ n. Standing p.nodes (root_of t n)) (subst (Standing p.nodes) (sym f.root) (standing_none p.nodes (omega (arith, p.whole))));
    sizes = in_order (λ n. size_of t n ≡ length (items_of t p n)) (f.size ∙ sym (ap (λ x. length (entries x)) tree_first));
    shared = subst (λ xs. Shared xs (free p)) (sym unused_places) share;
  }
