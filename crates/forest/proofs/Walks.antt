-- A bucket's nodes in a row of 512.
--
--   Walked         a row begins with given indices, and a walk ended behind them
--   walk_ready, walk_room  a bucket's nodes can be walked, and have room
--   walk_done      they stand in the row after a walk from its beginning
--   walk_behind    a walk that begins behind others
use Rattle.std.proofs.Common.{◌≡◌, ℕ, ◌+◌, ◌≤◌, true, List, [], ◌++◌, length, take, drop, sym, refl, ap, ◌∙◌, subst, arith, length-append}
use Rattle.std.proofs.lemmas.List.{append_assoc, take_at}
use Rattle.dictionary.specs.Pairs.{among}
use Rattle.buckets.specs.declared.Table.{Table}
use Rattle.buckets.specs.Tables.{root_of, order_of}
use Rattle.trees.specs.Pools.{tree_at, places_at, Standing}
use Rattle.trees.specs.Answers.{laid}
use Rattle.trees.proofs.Pools.{places_long, size}
use Rattle.trees.proofs.Rows.{laid_long, laid_parts}
use Rattle.avl.specs.declared.pool.Pool.{Pool}
use Rattle.forest.specs.Forests.{places_of, Forest}
use Rattle.forest.proofs.Alters.{stand}

pub record Walked (ps : List ℕ) (count : ℕ) (row : List ℕ) : Type 0 where
  pub back : List ℕ
  pub begins : row ≡ ps ++ back
  pub counted : count ≡ length ps
  pub long : length row ≡ 512
  pub few : count ≤ 512

-- indices laid behind those that the row begins with
laid_behind : (ps qs row next : List ℕ) (start count : ℕ) → Walked ps start row → start + length qs ≤ 512 → next ≡ laid row start qs → count ≡ start + length qs → Walked (ps ++ qs) count next
laid_behind ps qs row next start count w room e end = record {
  back = drop (start + length qs) row;
  begins = e
      ∙ laid_parts row start qs (omega (arith, w.long))
      ∙ ap (λ l. l ++ (qs ++ drop (start + length qs) row)) (ap (take start) w.begins ∙ take_at ps w.back start (sym w.counted))
      ∙ sym (append_assoc ps qs (drop (start + length qs) row));
  counted = omega (arith, end, w.counted, length-append ps qs);
  long = ap length e ∙ laid_long row start qs ∙ w.long;
  few = omega (arith, end);
}

module _ (t : Table) (p : Pool) (n root : ℕ) (f : Forest t p) (i : among n (order_of t) ≡ true) (is : root ≡ root_of t n) where
  pub walk_ready : Standing p.nodes root
  walk_ready = subst (Standing p.nodes) (sym is) (stand t p f n i)

  pub walk_room : length (places_at p.nodes root) ≤ 512
  walk_room = omega (arith, places_long (tree_at p.nodes root), size p.nodes root walk_ready)

  pub walk_behind : (ps row next : List ℕ) (start count : ℕ) → Walked ps start row → start + length (places_at p.nodes root) ≤ 512 → next ≡ laid row start (places_at p.nodes root) →
      count ≡ start + length (places_at p.nodes root) → Walked (ps ++ places_of t p n) count next
  walk_behind ps row next start count w room e end = subst (λ z. Walked (ps ++ places_at p.nodes z) count next) is (laid_behind ps (places_at p.nodes root) row next start count w room e end)

  pub walk_done : (count : ℕ) (zs row : List ℕ) → length zs ≡ 512 → row ≡ laid zs 0 (places_at p.nodes root) → count ≡ 0 + length (places_at p.nodes root) → Walked (places_of t p n) count row
  walk_done count zs row long e end =
      walk_behind [] zs row 0 count (record { back = zs; begins = refl; counted = refl; long = long; few = omega arith }) (omega (arith, walk_room)) e end
