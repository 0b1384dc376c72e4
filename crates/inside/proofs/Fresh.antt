-- A new index: a dictionary that fits is empty, and one bucket stands without an entry.
use Rattle.std.proofs.Common.{◌≡◌, ℕ, ◌+◌, ◌*◌, ◌≤◌, Bool, true, false, cond, ◌||◌, eqb, ltb, List, [], ◌∷◌, map, length, is_some, Some, None, Option, refl, ap, ◌∙◌, mul-le-mul_left, arith}
use mathlib.Core.Path.{fun_ext}
use Rattle.std.proofs.lemmas.Bool.{ltb-false, or_parts}
use Rattle.dictionary.specs.Pairs.{Pairs, no_pairs, among}
use Rattle.key.specs.Widths.{needed}
use Rattle.ordered.specs.declared.refusal.Refusal.{Refusal}
use Rattle.ordered.specs.Fitness.{fitness}
use Rattle.buckets.specs.declared.Table.{Table}
use Rattle.buckets.specs.Tables.{rep_of, Fresh}
use Rattle.trees.specs.Trees.{Tree, leaf, entries}
use Rattle.avl.specs.declared.pool.Pool.{Pool}
use Rattle.rules.specs.Buckets.{new}
use Rattle.rows.specs.Rows.{row}
use Rattle.forest.specs.Forests.{tree_of, items_of, row_of, grove_of}
use Rattle.forest.proofs.Fresh.{tree_first}

-- ---- a dictionary that fits
pub record Fits (w limit room held tally : ℕ) : Type 0 where
  pub small : limit ≤ 512
  pub enough : needed w limit ≤ room
  pub one : w + 1 ≤ room
  pub empty : held ≡ 0
  pub unused : tally ≡ 0

passed : (b : Bool) (r : Refusal) (o : Option Refusal) → None ≡ cond b (Some r) o → (b ≡ false) × (None ≡ o)
passed true r o e = absurd (let z : ◌≡◌ {A = ℕ} 0 1 = cc in omega arith)
passed false r o e = (refl, e)

pub fitting : (w limit room held tally : ℕ) → None ≡ fitness w limit room held tally → Fits w limit room held tally
fitting w limit room held tally e =
    let a = passed (eqb limit 0 || ltb 512 limit) _ _ e in
    let b = passed (ltb room (needed w limit)) _ _ a.1 in
    let c = passed (ltb 0 held || ltb 0 tally) _ _ b.1 in
    let small = ltb-false 512 limit (or_parts (eqb limit 0) (ltb 512 limit) a.0).1 in
    let enough = ltb-false room (needed w limit) b.0 in
    let empty = or_parts (ltb 0 held) (ltb 0 tally) c.0 in
    let one : (w + 1) * 1 ≤ needed w limit = mul-le-mul_left (w + 1) (omega arith) in
    record { small = small; enough = enough; one = omega arith; empty = omega (arith, ltb-false 0 held empty.0); unused = omega (arith, ltb-false 0 tally empty.1) }

none_is : {X : Type 0} (o : Option X) → is_some o ≡ false → o ≡ None
none_is None e = refl
none_is (Some x) e = absurd (let z : ◌≡◌ {A = ℕ} 0 1 = cc in omega arith)

pub pairless : (f : Pairs) (ns : List ℕ) → ((n : ℕ) → is_some (f n) ≡ among n ns) → length ns ≡ 0 → f ≡ no_pairs
pairless f [] held e = fun_ext (λ n. none_is (f n) (held n))
pairless f (x ∷ ns) held e = absurd (omega arith)

-- ---- one bucket without an entry
module _ (t : Table) (p : Pool) (f : Fresh t) where
  pub fresh_row : row_of t p ≡ new
  fresh_row =
      ap (row (rep_of t) (items_of t p)) f.order
      ∙ (ap (λ r. record { rep = r; items = items_of t p 0 } ∷ []) f.rep ∙ ap (λ (x : Tree). record { rep = 0; items = entries x } ∷ []) (tree_first t p f))

  pub fresh_grove : grove_of t p ≡ leaf ∷ []
  fresh_grove = ap (map (tree_of t p)) f.order ∙ ap (λ x. x ∷ []) (tree_first t p f)
