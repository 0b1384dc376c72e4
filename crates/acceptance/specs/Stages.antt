-- The stages of an acceptance, over what a dictionary means.
--
--   Filled      the first nodes were put, one after another: how many were accepted, the pairs and their number after it
--   right       how many of the first nodes have the links of a round
--   Cleared     the first nodes were dropped: how many had a pair, the pairs and their number after it
--   after_put   the pairs and their number after a put
--   Counted     a step was taken at the first numbers, one after another: how many times it answered yes, and its state after it
--   Tried       at the capacity a new node, node 0 and one that may have a pair were put: how many of the first two were refused,
--               and whether the third was accepted
use Rattle.std.specs.Prelude.{◌≡◌, ℕ, zero, suc, ◌+◌, Bool, true, false, cond, ◌&&◌, Some, None, Option, ◌==◌, is_some}
use Rattle.dictionary.specs.Pairs.{Links, Pairs, with_pair, accepts, one_more, one_less}
use Rattle.acceptance.specs.Nodes.{node_of, links_of}

pub data Filled (room round : ℕ) (f : Pairs) (held : ℕ) : ℕ → ℕ → Pairs → ℕ → Type 0 where
  start : Filled room round f held 0 0 f held
  put : {i n h : ℕ} {u : Pairs} → Filled room round f held i n u h → accepts u h room (node_of i) ≡ true →
      Filled room round f held (i + 1) (n + 1) (with_pair u (node_of i) (Some (links_of i round))) (one_more (u (node_of i)) h)
  refused : {i n h : ℕ} {u : Pairs} → Filled room round f held i n u h → accepts u h room (node_of i) ≡ false → Filled room round f held (i + 1) n u h

abbrev pub has : Option Links → Links → Bool
has None l = false
has (Some p) l = p.0 == l.0 && p.1 == l.1

unfoldable pub right : Pairs → ℕ → ℕ → ℕ
right f round zero = 0
right f round (suc i) = right f round i + cond (has (f (node_of i)) (links_of i round)) 1 0

pub data Cleared (f : Pairs) (held : ℕ) : ℕ → ℕ → Pairs → ℕ → Type 0 where
  start : Cleared f held 0 0 f held
  drop : {i n h : ℕ} {u : Pairs} → Cleared f held i n u h →
      Cleared f held (i + 1) (n + cond (is_some (u (node_of i))) 1 0) (with_pair u (node_of i) None) (one_less (u (node_of i)) h)

-- ---- a step at each number
pub data Counted {F : Type 0} (step : F → ℕ → Bool → F → Type 0) (f : F) : ℕ → ℕ → F → Type 0 where
  none : Counted step f 0 0 f
  more : {i n : ℕ} {p q : F} (b : Bool) → Counted step f i n p → step p i b q → Counted step f (i + 1) (n + cond b 1 0) q

-- ---- puts at the capacity
abbrev pub after_put : ℕ → Pairs → ℕ → ℕ → Links → Pairs × ℕ
after_put room f h n l = cond (accepts f h room n) (with_pair f n (Some l), one_more (f n) h) (f, h)

pub record Tried (room : ℕ) (f : Pairs) (h count : ℕ) (kept : Bool) (g : Pairs) (k : ℕ) : Type 0 where
  pub count_is : count ≡ cond (accepts f h room (node_of 768)) 1 2
  pub kept_is :
      let p = after_put room f h (node_of 768) (links_of 768 0) in
      kept ≡ accepts p.0 p.1 room (node_of 0)
  pub after_is :
      let p = after_put room f h (node_of 768) (links_of 768 0) in
      (g, k) ≡ after_put room p.0 p.1 (node_of 0) (links_of 768 0)
