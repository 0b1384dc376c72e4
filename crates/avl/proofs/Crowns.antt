-- One turn for all four cases: the node m above x and y.
use Rattle.std.proofs.Common.{◌≡◌, ℕ, ◌<◌, ◌≤◌, List, ◌∷◌, length, refl, ◌∙◌, subst, arith}
use Rattle.trees.specs.declared.Node.{Node}
use Rattle.trees.specs.Counts.{single, times}
use Rattle.trees.specs.Trees.{Tree, node, places}
use Rattle.trees.specs.Pools.{node_at, entry_in, entry_at, Lies, tree_at}
use Rattle.trees.proofs.Counts.{single_same, differ, times_append}
use Rattle.trees.proofs.Pools.{low}
use Rattle.avl.specs.Turns.{hung, Four, Crowned}
use Rattle.avl.proofs.Hooks.{Hook, hook, hung_long, hung_other, hung_keeps, hung_lies}

module _ (ns : List Node) (x m y a b c d : ℕ) (f : Four ns x m y a b c d) where
  abbrev ta : Tree
  ta = tree_at ns a

  abbrev tb : Tree
  tb = tree_at ns b

  abbrev tc : Tree
  tc = tree_at ns c

  abbrev td : Tree
  td = tree_at ns d

  few : length ns ≤ 512
  few = f.stand.0.few

  -- no place is one of the three nodes, and these differ
  off_x : (times x (places ta) ≡ 0) × (times x (places tb) ≡ 0) × (times x (places tc) ≡ 0) × (times x (places td) ≡ 0)
  off_x = omega (arith, f.apart x, single_same x x refl)

  off_y : (times y (places ta) ≡ 0) × (times y (places tb) ≡ 0) × (times y (places tc) ≡ 0) × (times y (places td) ≡ 0) × (single y x ≡ 0) × (single y m ≡ 0)
  off_y = omega (arith, f.apart y, single_same y y refl)

  off_m : (times m (places ta) ≡ 0) × (times m (places tb) ≡ 0) × (times m (places tc) ≡ 0) × (times m (places td) ≡ 0) × (single m x ≡ 0) × (single m y ≡ 0)
  off_m = omega (arith, f.apart m, single_same m m refl)

  abbrev c1 : List Node
  c1 = hung ns x a b

  abbrev c2 : List Node
  c2 = hung c1 y c d

  abbrev c3 : List Node
  c3 = hung c2 m x y

  few1 : length c1 ≤ 512
  few1 = omega (arith, hung_long ns x a b, few)

  few2 : length c2 ≤ 512
  few2 = omega (arith, hung_long c1 y c d, few1)

  abbrev t_x : Tree
  t_x = node x (entry_at ns x) ta tb

  abbrev t_y : Tree
  t_y = node y (entry_at ns y) tc td

  lies_x1 : Lies c1 t_x
  lies_x1 = hung_lies ns x a b ta tb few f.inside.0 f.stand.0.root_is f.stand.1.root_is f.stand.0.lies f.stand.1.lies off_x.0 off_x.1

  lies_c1 : Lies c1 tc
  lies_c1 = hung_keeps ns x a b tc off_x.2 f.stand.2.lies

  lies_d1 : Lies c1 td
  lies_d1 = hung_keeps ns x a b td off_x.3 f.stand.3.lies

  inside_y : y < length c1
  inside_y = omega (arith, hung_long ns x a b, f.inside)

  lies_y2 : Lies c2 t_y
  lies_y2 = subst (λ n. Lies c2 (node y (entry_in n) tc td)) (hung_other ns x a b y (differ y x off_y.4))
      (hung_lies c1 y c d tc td few1 inside_y f.stand.2.root_is f.stand.3.root_is lies_c1 lies_d1 off_y.2 off_y.3)

  lies_x2 : Lies c2 t_x
  lies_x2 = hung_keeps c1 y c d t_x (omega (arith, off_y, times_append y (places ta) (x ∷ places tb))) lies_x1

  inside_m : m < length c2
  inside_m = omega (arith, hung_long ns x a b, hung_long c1 y c d, f.inside)

  same_m : node_at c2 m ≡ node_at ns m
  same_m = hung_other c1 y c d m (differ m y off_m.5) ∙ hung_other ns x a b m (differ m x off_m.4)

  pub crown_1 : Hook ns x a b
  crown_1 = hook ns x a b ta tb few f.inside.0 f.stand.0.root_is f.stand.1.root_is f.stand.0.lies f.stand.1.lies
      (omega (arith, low ns a ta f.stand.0)) (omega (arith, low ns b tb f.stand.1))

  pub crown_2 : Hook (hung ns x a b) y c d
  crown_2 = hook c1 y c d tc td few1 inside_y f.stand.2.root_is f.stand.3.root_is lies_c1 lies_d1
      (omega (arith, low ns c tc f.stand.2)) (omega (arith, low ns d td f.stand.3))

  pub crown_3 : Hook (hung (hung ns x a b) y c d) m x y
  crown_3 = hook c2 m x y t_x t_y few2 inside_m refl refl lies_x2 lies_y2
      (omega (arith, low ns a ta f.stand.0, low ns b tb f.stand.1)) (omega (arith, low ns c tc f.stand.2, low ns d td f.stand.3))

  pub crown_done : Crowned ns (hung (hung (hung ns x a b) y c d) m x y) x m y a b c d
  crown_done = record {
    lies = subst (λ n. Lies c3 (node m (entry_in n) t_x t_y)) same_m (hung_lies c2 m x y t_x t_y few2 inside_m refl refl lies_x2 lies_y2
        (omega (arith, off_m, times_append m (places ta) (x ∷ places tb))) (omega (arith, off_m, times_append m (places tc) (y ∷ places td))));
    kept = record {
      long = hung_long c2 m x y ∙ hung_long c1 y c d ∙ hung_long ns x a b;
      same = λ j out. hung_other c2 m x y j (differ j m (omega (arith, out))) ∙ hung_other c1 y c d j (differ j y (omega (arith, out))) ∙ hung_other ns x a b j (differ j x (omega (arith, out)));
    };
  }
