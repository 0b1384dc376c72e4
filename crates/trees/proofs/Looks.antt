-- What a look down a tree answers, from the answer below the root.
--
--   saw_none, saw_here, saw_step  at the end of a path; at the key's own place; one place higher
--   saw_more, saw_or    one place higher with the same entry; there, if none was found behind
--   saw_few             its visits are few
--   foremost-…, hindmost-…  what an answer tells of the list
--   front_or, back_or   the first and the last entry of joined lists
--   at-…, from-…, upto-…  the filters at a key, below the root's key, at it, above it
--   path-…              the search path likewise
--   span-…              the span likewise
--   walk-…, count_open  the indices likewise
--   span_few            a span has no more entries than the pool
use Rattle.std.proofs.Common.{◌≡◌, ℕ, ◌+◌, ◌<◌, ◌≤◌, max, true, leb, List, [], ◌∷◌, ◌++◌, length, Some, None, Option, sym, refl, ap, ◌∙◌, arith, length-append}
use Rattle.std.specs.Option.{option_or}
use Rattle.std.proofs.lemmas.List.{append-nil}
use Rattle.entry.specs.declared.Entry.{Entry}
use Rattle.entry.specs.Lists.{at, from, upto, between, filled, first, final, Over, Under}
use Rattle.entry.proofs.Filters.{at_left, at_right, from_left, from_right, upto_left, upto_right, key_at, key_from, key_upto, final_append, between_append, under_between, over_between, between_in, kept_short, at_past, from_past, upto_past}
use Rattle.entry.proofs.Orders.{over_less, under_more}
use Rattle.trees.specs.declared.Found.{Found}
use Rattle.trees.specs.declared.Node.{Node}
use Rattle.trees.specs.Counts.{single, times}
use Rattle.trees.specs.Trees.{Tree, tall, entries, places, seen, low_way, high_way}
use Rattle.trees.specs.Pools.{node_at, entry_at, left_at, right_at, tree_at, entries_at, places_at, Standing}
use Rattle.trees.specs.Answers.{foremost, hindmost, Saw}
use Rattle.trees.proofs.Counts.{times_append}
use Rattle.trees.proofs.Paths.{seen_here, seen_left, seen_right}
use Rattle.trees.proofs.Pools.{Opened, low, size}

pub saw_none : (e : Option Entry) (n : ℕ) (t : Tree) → None ≡ e → 0 ≡ n → Saw (record { entry = None; visits = 0 }) e n t
saw_none e n t is zero_is = record { entry = is; visits = zero_is; few = omega arith }

pub saw_here : {y : Found} {x : Entry} {e : Option Entry} {n : ℕ} {t : Tree} → y ≡ record { entry = Some x; visits = 1 } → e ≡ Some x → n ≡ 1 → 1 ≤ tall t → Saw y e n t
saw_here made is one_is pos = rw made (record { entry = sym is; visits = sym one_is; few = pos })

pub saw_step : (r : Found) (x e e' : Option Entry) (n n' : ℕ) (t t' : Tree) → Saw r e n t → x ≡ e' → n' ≡ n + 1 → 1 + tall t ≤ tall t'
    → Saw (record { entry = x; visits = r.visits + 1 }) e' n' t'
saw_step r x e e' n n' t t' s is more up = record { entry = is; visits = omega (arith, s.visits); few = omega (arith, s.few) }

pub saw_more : {y r : Found} {e e' : Option Entry} {n n' : ℕ} {t t' : Tree} → y ≡ record { entry = r.entry; visits = r.visits + 1 } → Saw r e n t → e' ≡ e → n' ≡ n + 1 → 1 + tall t ≤ tall t' → Saw y e' n' t'
saw_more made s is more up = rw made (record { entry = s.entry ∙ sym is; visits = omega (arith, s.visits); few = omega (arith, s.few) })

pub saw_or : {y r : Found} (x : Entry) {e e' : Option Entry} {n n' : ℕ} {t t' : Tree} → y ≡ record { entry = option_or r.entry (Some x); visits = r.visits + 1 } → Saw r e n t → e' ≡ option_or e (Some x) → n' ≡ n + 1 → 1 + tall t ≤ tall t' → Saw y e' n' t'
saw_or x made s is more up = rw made (record { entry = ap (λ z. option_or z (Some x)) s.entry ∙ sym is; visits = omega (arith, s.visits); few = omega (arith, s.few) })

pub saw_few : {ns : List Node} {root : ℕ} {r : Found} {e : Option Entry} {n : ℕ} → Standing ns root → Saw r e n (tree_at ns root) → r.visits < 512
saw_few s r = omega (arith, low _ _ _ s, r.few)

-- what an answer tells of the list
pub foremost_some : (xs : List Entry) (e : Entry) → foremost xs ≡ Some e → (filled xs ≡ true) × (first xs ≡ e)
foremost_some [] e h = absurd (let z : ◌≡◌ {A = ℕ} 0 1 = cc in omega arith)
foremost_some (x ∷ xs) e h = (refl, cc)

pub foremost_none : (xs : List Entry) → foremost xs ≡ None → xs ≡ []
foremost_none [] h = refl
foremost_none (x ∷ xs) h = absurd (let z : ◌≡◌ {A = ℕ} 0 1 = cc in omega arith)

pub hindmost_some : (xs : List Entry) (e : Entry) → hindmost xs ≡ Some e → (filled xs ≡ true) × (final xs ≡ e)
hindmost_some [] e h = absurd (let z : ◌≡◌ {A = ℕ} 0 1 = cc in omega arith)
hindmost_some (x ∷ xs) e h = (refl, cc)

pub hindmost_none : (xs : List Entry) → hindmost xs ≡ None → xs ≡ []
hindmost_none [] h = refl
hindmost_none (x ∷ xs) h = absurd (let z : ◌≡◌ {A = ℕ} 0 1 = cc in omega arith)

pub front_or : (xs : List Entry) (y : Entry) (ys : List Entry) → option_or (foremost xs) (Some y) ≡ foremost (xs ++ y ∷ ys)
front_or [] y ys = refl
front_or (x ∷ xs) y ys = refl

pub back_or : (xs : List Entry) (y : Entry) (ys : List Entry) → option_or (hindmost ys) (Some y) ≡ hindmost (xs ++ y ∷ ys)
back_or [] y [] = refl
back_or [] y (z ∷ ys) = refl
back_or (x ∷ xs) y [] = ap Some (sym (final_append (x ∷ xs) y []))
back_or (x ∷ xs) y (z ∷ ys) = ap Some (sym (final_append (x ∷ xs) y (z ∷ ys)))

module _ (ns : List Node) (root : ℕ) (o : Opened ns root) where
  abbrev mine : Entry
  mine = entry_at ns root

  abbrev lows : List Entry
  lows = entries (left_at ns root)

  abbrev highs : List Entry
  highs = entries (right_at ns root)

  pub entries_open : entries_at ns root ≡ entries (left_at ns root) ++ entry_at ns root ∷ entries (right_at ns root)
  entries_open = ap entries o.here

  pub tall_open : tall (tree_at ns root) ≡ 1 + max (tall (left_at ns root)) (tall (right_at ns root))
  tall_open = ap tall o.here

  pub low_open : low_way (tree_at ns root) ≡ low_way (left_at ns root) + 1
  low_open = omega (arith, ap low_way o.here)

  pub high_open : high_way (tree_at ns root) ≡ high_way (right_at ns root) + 1
  high_open = omega (arith, ap high_way o.here)

  pub walk_both : places_at ns root ≡ places (left_at ns root) ++ root ∷ places (right_at ns root)
  walk_both = ap places o.here

  pub walk_long : length (places_at ns root) ≡ length (places (left_at ns root)) + 1 + length (places (right_at ns root))
  walk_long = omega (arith, ap length walk_both, length-append (places (left_at ns root)) (root ∷ places (right_at ns root)))

  pub count_open : (j : ℕ) → times j (places_at ns root) ≡ times j (places (left_at ns root)) + single j root + times j (places (right_at ns root))
  count_open j = omega (arith, ap (times j) walk_both, times_append j (places (left_at ns root)) (root ∷ places (right_at ns root)))

  module _ (key : ℕ) (is : key ≡ (node_at ns root).key) where
    under_is : Under key lows
    under_is = under_more _ key lows (omega arith) o.split.under

    over_is : Over key highs
    over_is = over_less key _ highs (omega arith) o.split.over

    pub at_here : at key (entries_at ns root) ≡ entry_at ns root ∷ []
    at_here = ap (at key) entries_open ∙ key_at key lows mine highs is under_is over_is

    pub from_here : from key (entries_at ns root) ≡ entry_at ns root ∷ entries (right_at ns root)
    from_here = ap (from key) entries_open ∙ key_from key lows mine highs is under_is over_is

    pub upto_here : upto key (entries_at ns root) ≡ entries (left_at ns root) ++ entry_at ns root ∷ []
    upto_here = ap (upto key) entries_open ∙ key_upto key lows mine highs is under_is over_is

    pub path_here : seen key (tree_at ns root) ≡ 1
    path_here = ap (seen key) o.here ∙ seen_here key root mine (left_at ns root) (right_at ns root) is

  module _ (key : ℕ) (lt : key < (node_at ns root).key) where
    over_low : Over key (mine ∷ highs)
    over_low = (lt, over_less key _ highs (omega arith) o.split.over)

    pub at_low : at key (entries_at ns root) ≡ at key (entries (left_at ns root))
    at_low = ap (at key) entries_open ∙ at_left key lows (mine ∷ highs) over_low

    pub from_low : from key (entries_at ns root) ≡ from key (entries (left_at ns root)) ++ entry_at ns root ∷ entries (right_at ns root)
    from_low = ap (from key) entries_open ∙ from_left key lows (mine ∷ highs) over_low

    pub upto_low : upto key (entries_at ns root) ≡ upto key (entries (left_at ns root))
    upto_low = ap (upto key) entries_open ∙ upto_left key lows (mine ∷ highs) over_low

    pub path_low : seen key (tree_at ns root) ≡ seen key (left_at ns root) + 1
    path_low = ap (seen key) o.here ∙ seen_left key root mine (left_at ns root) (right_at ns root) lt

  module _ (key : ℕ) (lt : (node_at ns root).key < key) where
    under_high : Under key lows
    under_high = under_more _ key lows (omega arith) o.split.under

    pub at_high : at key (entries_at ns root) ≡ at key (entries (right_at ns root))
    at_high = ap (at key) entries_open ∙ at_right key lows (mine ∷ highs) under_high ∙ at_past key mine highs lt

    pub from_high : from key (entries_at ns root) ≡ from key (entries (right_at ns root))
    from_high = ap (from key) entries_open ∙ from_right key lows (mine ∷ highs) under_high ∙ from_past key mine highs lt

    pub upto_high : upto key (entries_at ns root) ≡ entries (left_at ns root) ++ entry_at ns root ∷ upto key (entries (right_at ns root))
    upto_high = ap (upto key) entries_open ∙ upto_right key lows (mine ∷ highs) under_high ∙ ap (λ z. lows ++ z) (upto_past key mine highs lt)

    pub path_high : seen key (tree_at ns root) ≡ seen key (right_at ns root) + 1
    path_high = ap (seen key) o.here ∙ seen_right key root mine (left_at ns root) (right_at ns root) lt

  module _ (a b : ℕ) where
    pub span_high : (node_at ns root).key < a → between a b (entries_at ns root) ≡ between a b (entries (right_at ns root))
    span_high lt = ap (between a b) entries_open ∙ between_append a b lows (mine ∷ highs)
        ∙ ap (λ z. z ++ between a b (mine ∷ highs)) (under_between a b lows (under_more _ a lows (omega arith) o.split.under))
        ∙ between_append a b (mine ∷ []) highs ∙ ap (λ z. z ++ between a b highs) (under_between a b (mine ∷ []) (lt, tt))

    pub span_low : b < (node_at ns root).key → between a b (entries_at ns root) ≡ between a b (entries (left_at ns root))
    span_low lt = ap (between a b) entries_open ∙ between_append a b lows (mine ∷ highs)
        ∙ ap (λ z. between a b lows ++ z) (over_between a b (mine ∷ highs) (lt, over_less b _ highs (omega arith) o.split.over))
        ∙ append-nil (between a b lows)

    module _ (le : a ≤ (node_at ns root).key) (ge : (node_at ns root).key ≤ b) where
      pub span_both : between a b (entries_at ns root) ≡ between a b (entries (left_at ns root)) ++ entry_at ns root ∷ between a b (entries (right_at ns root))
      span_both = ap (between a b) entries_open ∙ between_append a b lows (mine ∷ highs) ∙ ap (λ z. between a b lows ++ z) (between_in a b mine highs le ge)

      pub span_long : length (between a b (entries_at ns root)) ≡ length (between a b (entries (left_at ns root))) + 1 + length (between a b (entries (right_at ns root)))
      span_long = omega (arith, ap length span_both, length-append (between a b lows) (mine ∷ between a b highs))

pub span_few : (a b : ℕ) (ns : List Node) (root : ℕ) → Standing ns root → length (between a b (entries_at ns root)) ≤ 512
span_few a b ns root s =
    omega (arith, kept_short (λ (e : Entry). leb a e.key) (upto b (entries_at ns root)), kept_short (λ (e : Entry). leb e.key b) (entries_at ns root), size ns root s)
