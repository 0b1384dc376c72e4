-- The lowest key of a bucket's upper half can be a representative behind it.
use Rattle.std.proofs.Common.{◌≡◌, ℕ, ◌/◌, ◌^◌, ◌<◌, ◌≤◌, List, [], ◌∷◌, ◌++◌, length, drop, sym, ap, ◌∙◌, subst, arith}
use Rattle.std.specs.List.{AllByRecursion}
use Rattle.std.proofs.ByRecursion.{All-weaker}
use Rattle.dictionary.specs.Pairs.{Pairs}
use Rattle.entry.specs.declared.Entry.{Entry}
use Rattle.entry.specs.Lists.{first}
use Rattle.links.specs.Orders.{holder, Rising, Ordered}
use Rattle.links.specs.Links.{links}
use Rattle.links.proofs.Orders.{Not, rising_parts, rising_below}
use Rattle.links.proofs.Found.{holder_at}
use Rattle.buckets.specs.declared.Table.{Table}
use Rattle.buckets.specs.Tables.{rep_of, order_of}
use Rattle.trie.specs.Sound.{Sound as TrieSound}
use Rattle.rules.specs.Buckets.{lowest, Spread}
use Rattle.rules.proofs.Moves.{rise_split}
use Rattle.rules.proofs.Spreads.{spread_parts, lowest_le}
use Rattle.rows.specs.Rows.{bucket, row}
use Rattle.rows.proofs.Cuts.{map_append}

pub record Middle (w : ℕ) (rep : ℕ → ℕ) (order : List ℕ) (n mid : ℕ) : Type 0 where
  pub above : rep n < mid
  pub fits : mid < 2 ^ w
  pub behind : n ≡ holder rep order mid

all_above : (rep : ℕ → ℕ) (items : ℕ → List Entry) (top mid : ℕ) (post : List ℕ) → mid < lowest top (row rep items post) → Rising rep post → AllByRecursion (λ y. mid < rep y) post
all_above rep items top mid [] h r = tt
all_above rep items top mid (y ∷ ys) h r = (h, All-weaker (λ z. rep y < rep z) (λ z. mid < rep z) (λ z l. omega arith) ys r.0)

pub middle : (w : ℕ) (rep : ℕ → ℕ) (items : ℕ → List Entry) (n : ℕ) (pre post : List ℕ) → Spread (2 ^ w) (row rep items (pre ++ n ∷ post)) → Rising rep (pre ++ n ∷ post) → 2 ≤ length (items n) →
    Middle w rep (pre ++ n ∷ post) n (first (drop (length (items n) / 2) (items n))).key
middle w rep items n pre post sp rises two =
    let top = 2 ^ w in
    let parts = spread_parts top (row rep items pre) (row rep items (n ∷ post)) (subst (Spread top) (map_append (bucket rep items) pre (n ∷ post)) sp) in
    let here = parts.1 in
    let mid = (first (drop (length (items n) / 2) (items n))).key in
    let r = rise_split (rep n) (lowest top (row rep items post)) (length (items n) / 2) (items n) (omega arith) here.1.0 in
    let low : lowest top (row rep items post) ≤ top = lowest_le top (row rep items post) here.1.1 in
    let up : rep n < mid = omega (arith, r.2) in
    let over = all_above rep items top mid post r.3 (rising_parts rep pre (n ∷ post) rises).1.1 in
    record { above = up; fits = omega (arith, r.3); behind = sym (holder_at rep mid pre n post (omega arith) over) }

-- a table that keeps its order and representatives goes on to fit the dictionary
pub trie_kept : (w : ℕ) (f : Pairs) (t u : Table) → TrieSound w f t → order_of u ≡ order_of t → rep_of u ≡ rep_of t → TrieSound w f u
trie_kept w f t u so o r = record {
  ordered = subst (λ (g : ℕ → ℕ). Ordered w g (order_of u)) (sym r) (subst (Ordered w (rep_of t)) (sym o) so.ordered);
  first = ap (λ g. g 0) r ∙ so.first;
  pairs = so.pairs ∙ (ap (λ (g : ℕ → ℕ). links w g (order_of t)) (sym r) ∙ ap (links w (rep_of u)) (sym o));
}

-- numbers beside one of an order are others
pub not_before : (rep : ℕ → ℕ) (n : ℕ) (pre post : List ℕ) → Rising rep (pre ++ n ∷ post) → AllByRecursion (Not n) pre
not_before rep n pre post r = All-weaker (λ x. rep x < rep n) (Not n) (λ x l e. omega (arith, ap rep e)) pre (rising_below rep pre n post r)

pub not_behind : (rep : ℕ → ℕ) (n : ℕ) (pre post : List ℕ) → Rising rep (pre ++ n ∷ post) → AllByRecursion (Not n) post
not_behind rep n pre post r = All-weaker (λ x. rep n < rep x) (Not n) (λ x l e. omega (arith, ap rep e)) post (rising_parts rep pre (n ∷ post) r).1.0
