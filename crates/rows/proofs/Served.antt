-- What the rules say of a call, at the number of its key's bucket.
--
--   InRow k                  the order cut at the bucket of k
--   find_served, ..          each call, by that bucket and its neighbours
--   find_path, ..            and its visits
use Rattle.std.proofs.Common.{◌≡◌, ℕ, ◌+◌, ◌<◌, ◌≤◌, cond, List, [], ◌∷◌, ◌++◌, map, length, get_or, drop, refl, ap, ◌∙◌}
use Rattle.std.specs.List.{flat_map, AllByRecursion}
use Rattle.entry.specs.declared.Entry.{Entry}
use Rattle.entry.specs.Lists.{at, from, upto, between, filled, first, final}
use Rattle.levels.specs.Counts.{searching}
use Rattle.ordered.specs.declared.calls.Call.TheVariants.{Add, Remove, Find, Next, Last, Range}
use Rattle.ordered.specs.Sorted.{no_add, no_find, no_near, no_range, tells, writes}
use Rattle.rules.specs.Buckets.{Bucket, hollow, here, place, behind, flat, total, reps}
use Rattle.rules.specs.Steps.{reads, served, added, removed}
use Rattle.runs.specs.States.{path, tree_at, tree_behind}
use Rattle.trees.specs.Trees.{Tree, leaf, seen, low_way, high_way}
use Rattle.rows.specs.Rows.{bucket, row, ahead, back}
use Rattle.rows.proofs.Cuts.{at_cut, ahead_cut, back_cut, drop_cut}
use Rattle.rows.proofs.Places.{row_reps, row_flat, row_place}

pub record InRow (rep : ℕ → ℕ) (order : List ℕ) (k n : ℕ) : Type 0 where
  pub pre : List ℕ
  pub post : List ℕ
  pub is : order ≡ pre ++ n ∷ post
  pub low : AllByRecursion (λ x. rep x ≤ k) pre
  pub mine : rep n ≤ k
  pub high : AllByRecursion (λ y. k < rep y) post

module _ (rep : ℕ → ℕ) (items : ℕ → List Entry) (tree : ℕ → Tree) (order : List ℕ) (k n : ℕ) (c : InRow rep order k n) where
  abbrev pub s : List Bucket
  s = row rep items order

  abbrev pub ts : List Tree
  ts = map tree order

  pub placed : place k s ≡ length c.pre
  placed = ap (λ l. place k (row rep items l)) c.is ∙ row_place rep items k c.pre n c.post c.low c.mine c.high

  pub here_is : here (length c.pre) s ≡ bucket rep items n
  here_is = ap (λ l. here (length c.pre) (row rep items l)) c.is ∙ at_cut (bucket rep items) hollow c.pre n c.post

  pub here_items : (here (place k s) s).items ≡ items n
  here_items = ap (λ i. (here i s).items) placed ∙ ap (λ (b : Bucket). b.items) here_is

  ahead_items : (post : List ℕ) → (ahead hollow (bucket rep items) post).items ≡ ahead [] items post
  ahead_items [] = refl
  ahead_items (y ∷ ys) = refl

  next_items : (here (place k s + 1) s).items ≡ ahead [] items c.post
  next_items =
      ap (λ i. (here (i + 1) s).items) placed
      ∙ (ap (λ l. (here (length c.pre + 1) (row rep items l)).items) c.is
      ∙ (ap (λ (b : Bucket). b.items) (ahead_cut (bucket rep items) hollow c.pre n c.post) ∙ ahead_items c.post))

  behind_row : (pre r : List ℕ) → behind (length pre) (row rep items (pre ++ r)) ≡ back [] items pre
  behind_row [] r = refl
  behind_row (x ∷ pre) r = ap (λ (b : Bucket). b.items) (back_cut (bucket rep items) hollow x pre r)

  behind_items : behind (place k s) s ≡ back [] items c.pre
  behind_items =
      ap (λ i. behind i s) placed
      ∙ (ap (λ l. behind (length c.pre) (row rep items l)) c.is ∙ behind_row c.pre (n ∷ c.post))

  pub rep_list : reps s ≡ map rep order
  rep_list = row_reps rep items order

  -- ---- the calls
  pub find_served : (w limit : ℕ) (ps : List Entry) →
      served w limit (Find k) ps s ≡ reads (tells (no_find (at k (items n))) (first (at k (items n))) ps) (searching w (map rep order) k) s
  unfolding served
  find_served w limit ps = rw (here_items, rep_list) refl

  pub next_served : (w limit : ℕ) (ps : List Entry) →
      let xs = from k (items n) ++ ahead [] items c.post in
      served w limit (Next k) ps s ≡ reads (tells (no_near xs) (first xs) ps) (searching w (map rep order) k) s
  unfolding served
  next_served w limit ps = rw (here_items, next_items, rep_list) refl

  pub last_served : (w limit : ℕ) (ps : List Entry) →
      let xs = back [] items c.pre ++ upto k (items n) in
      served w limit (Last k) ps s ≡ reads (tells (no_near xs) (final xs) ps) (searching w (map rep order) k) s
  unfolding served
  last_served w limit ps = rw (here_items, behind_items, rep_list) refl

  from_flat : flat (drop (place k s) s) ≡ flat_map items (n ∷ c.post)
  from_flat =
      ap (λ i. flat (drop i s)) placed
      ∙ (ap (λ l. flat (drop (length c.pre) (row rep items l))) c.is
      ∙ (ap flat (drop_cut (bucket rep items) c.pre (n ∷ c.post)) ∙ row_flat rep items (n ∷ c.post)))

  pub range_served : (w limit b : ℕ) (ps : List Entry) →
      let ys = between k b (flat_map items (n ∷ c.post)) in
      served w limit (Range k b) ps s ≡ reads (writes (no_range (length ys) (length ps)) ys ps) (searching w (map rep order) k) s
  unfolding served
  range_served w limit b ps = rw (from_flat, rep_list) refl

  pub add_served : (w limit v : ℕ) (ps : List Entry) →
      served w limit (Add k v) ps s ≡ added w (no_add limit (at k (items n)) (total s)) (record { key = k; note = v }) (length c.pre) (searching w (map rep order) k) ps s
  unfolding served
  add_served w limit v ps = rw (here_items, placed, rep_list) refl

  pub remove_served : (w limit : ℕ) (ps : List Entry) →
      served w limit (Remove k) ps s ≡ removed w (no_find (at k (items n))) k (length c.pre) (searching w (map rep order) k) ps s
  unfolding served
  remove_served w limit ps = rw (here_items, placed, rep_list) refl

  -- ---- the visits
  tree_is : tree_at (place k s) ts ≡ tree n
  tree_is = ap (λ i. tree_at i ts) placed ∙ (ap (λ l. get_or (map tree l) (length c.pre) leaf) c.is ∙ at_cut tree leaf c.pre n c.post)

  ahead_tree : tree_at (place k s + 1) ts ≡ ahead leaf tree c.post
  ahead_tree = ap (λ i. tree_at (i + 1) ts) placed ∙ (ap (λ l. get_or (map tree l) (length c.pre + 1) leaf) c.is ∙ ahead_cut tree leaf c.pre n c.post)

  back_row : (pre r : List ℕ) → tree_behind (length pre) (map tree (pre ++ r)) ≡ back leaf tree pre
  back_row [] r = refl
  back_row (x ∷ pre) r = back_cut tree leaf x pre r

  back_tree : tree_behind (place k s) ts ≡ back leaf tree c.pre
  back_tree = ap (λ i. tree_behind i ts) placed ∙ (ap (λ l. tree_behind (length c.pre) (map tree l)) c.is ∙ back_row c.pre (n ∷ c.post))

  pub find_path : path (Find k) s ts ≡ seen k (tree n)
  find_path = ap (seen k) tree_is

  pub next_path : path (Next k) s ts ≡ seen k (tree n) + cond (filled (from k (items n))) 0 (low_way (ahead leaf tree c.post))
  next_path = rw (tree_is, ahead_tree, here_items) refl

  pub last_path : path (Last k) s ts ≡ seen k (tree n) + cond (filled (upto k (items n))) 0 (high_way (back leaf tree c.pre))
  last_path = rw (tree_is, back_tree, here_items) refl
