-- An accepted add, by the rules.
use Rattle.std.proofs.Common.{◌≡◌, ℕ, ◌+◌, ◌*◌, ◌^◌, ◌<◌, ◌≤◌, true, false, leb, List, [], ◌∷◌, ◌++◌, map, length, take, drop, set, sym, refl, ap, ◌∙◌, subst, arith, length-append}
use lib.ListN.{length-map}
use Rattle.std.proofs.lemmas.Bool.{lt-leb, lt-ltb, le-ltb, cond-true, cond-false}
use Rattle.dictionary.specs.Pairs.{Pairs}
use Rattle.key.specs.Widths.{half, buckets_for}
use Rattle.entry.specs.declared.Entry.{Entry}
use Rattle.entry.specs.Lists.{at, put}
use Rattle.levels.specs.Counts.{searching}
use Rattle.links.specs.Orders.{holder, Rising}
use Rattle.links.proofs.Orders.{Not, all_among}
use Rattle.dictionary.specs.Pairs.{among}
use Rattle.trees.specs.Trees.{entries}
use Rattle.buckets.specs.declared.Table.{Table}
use Rattle.avl.specs.declared.pool.Pool.{Pool}
use Rattle.buckets.specs.Tables.{rep_of, order_of}
use Rattle.forest.specs.Forests.{items_of, tree_of, row_of, Replanted}
use Rattle.ordered.specs.declared.calls.Call.TheVariants.{Add}
use Rattle.ordered.specs.Sorted.{answered}
use Rattle.rules.specs.Buckets.{Bucket, hollow, total, here, place, Spread, lowest, size}
use Rattle.rules.specs.Buckets.{Sound as BucketsSound}
use Rattle.rules.specs.Changes.{Change, with_items, grown, split_at, still, halves}
use Rattle.rules.specs.Steps.{step, alters, added}
use Rattle.rules.specs.Steps.{Step as RuleStep}
use Rattle.rules.proofs.Calls.{agrees, spot, changed_items}
use Rattle.rules.proofs.Running.{keeps}
use Rattle.rules.proofs.Moves.{cut_at}
use Rattle.rules.proofs.Spreads.{rise_put}
use Rattle.rows.specs.Rows.{bucket}
use Rattle.rows.proofs.Cuts.{at_cut, set_cut}
use Rattle.rows.proofs.Served.{InRow, add_served, placed, here_items}
use Rattle.inside.specs.declared.Inside.{Inside}
use Rattle.inside.specs.Changing.{with_entry}
use Rattle.inside.specs.Whole.{Whole}
use Rattle.inside.proofs.Parts.{held_in}
use Rattle.inside.proofs.Quiet.{fits_large}
use Rattle.inside.proofs.Middle.{not_before, not_behind}
use Rattle.inside.proofs.Splits.{same_bucket, among_left, among_right, all_in}

-- a bucket's entries are others, and the row is so at its place alone
pub row_replanted : (t u : Table) (p q : Pool) (n : ℕ) (es : List Entry) (pre post : List ℕ) → order_of t ≡ pre ++ n ∷ post → Rising (rep_of t) (order_of t) → Replanted t p u q n es →
    row_of u q ≡ set (row_of t p) (length pre) (with_items (here (length pre) (row_of t p)) es)
row_replanted t u p q n es pre post is rises re =
    let old = bucket (rep_of t) (items_of t p) in
    let new = bucket (rep_of u) (items_of u q) in
    let up = subst (Rising (rep_of t)) is rises in
    let before = not_before (rep_of t) n pre post up in
    let behind = not_behind (rep_of t) n pre post up in
    let one : (x : ℕ) → among x (order_of t) ≡ true → Not n x → new x ≡ old x = λ x o a.
    same_bucket (new x) (old x) (ap (λ g. g x) re.kept.rep) (ap entries (re.kept.others x o (a, tt))) in
    let first = all_in (λ x. new x ≡ old x) pre (λ x h. one x (subst (λ o. among x o ≡ true) (sym is) (among_left x pre (n ∷ post) h)) (all_among (Not n) pre x before h)) in
    let last = all_in (λ x. new x ≡ old x) post (λ x h. one x (subst (λ o. among x o ≡ true) (sym is) (among_right x pre (n ∷ post) (among_right x (n ∷ []) post h))) (all_among (Not n) post x behind h)) in
    let here_was : here (length pre) (row_of t p) ≡ old n = ap (λ l. here (length pre) (map old l)) is ∙ at_cut old hollow pre n post in
    let now_is : new n ≡ with_items (here (length pre) (row_of t p)) es =
    same_bucket (new n) (with_items (here (length pre) (row_of t p)) es) (ap (λ g. g n) re.kept.rep ∙ ap (λ (b : Bucket). b.rep) (sym here_was)) re.items in
    ap (map new) (re.kept.order ∙ is)
    ∙ (set_cut old new pre n post first last
    ∙ (ap (λ l. set (map old l) (length pre) (new n)) (sym is) ∙ ap (set (row_of t p) (length pre)) now_is))

module _ (w : ℕ) (f : Pairs) (room tally : ℕ) (i : Inside) (big : 8 ≤ w) (wh : Whole w f room tally i) (e : Entry) (h : e.key < 2 ^ w)
    (new : at e.key (items_of i.grove.table i.grove.pool (holder (rep_of i.grove.table) (order_of i.grove.table) e.key)) ≡ []) (free : i.count < i.limit) where
  abbrev s : List Bucket
  s = row_of i.grove.table i.grove.pool

  abbrev k : ℕ
  k = e.key

  abbrev n : ℕ
  n = holder (rep_of i.grove.table) (order_of i.grove.table) k

  c : InRow (rep_of i.grove.table) (order_of i.grove.table) k n
  c = held_in w f i.grove.table wh.trie k

  -- the step of the rules
  pub add_rules : (ps : List Entry) → step w i.limit (Add k e.note) ps s ≡ alters (answered e ps) (searching w (map (rep_of i.grove.table) (order_of i.grove.table)) k) (grown w (place k s) (with_entry e s))
  unfolding step added
  add_rules ps =
      let items = items_of i.grove.table i.grove.pool in
      let is = add_served (rep_of i.grove.table) items (tree_of i.grove.table i.grove.pool) (order_of i.grove.table) k n c w i.limit e.note ps in
      let at_place = placed (rep_of i.grove.table) items (tree_of i.grove.table i.grove.pool) (order_of i.grove.table) k n c in
      let low : leb i.limit (total s) ≡ false = lt-leb i.limit (total s) (omega (arith, wh.counted)) in
      rw (fits_large w k h, is, new, low, at_place) refl

  -- the buckets after it are sound, and few enough for one more
  pub entered_sound : BucketsSound w i.limit (grown w (place k s) (with_entry e s)).after
  entered_sound = subst (λ (t : RuleStep). BucketsSound w i.limit t.after) (add_rules []) (agrees w i.limit big s wh.buckets (Add k e.note) []).sound

  pub entered_spread : Spread (2 ^ w) (with_entry e s)
  entered_spread =
      let sp = spot w i.limit k s wh.buckets h in
      (changed_items w k (place k s) s sp (put e (here (place k s) s).items)
      (rise_put (here (place k s) s).rep (lowest (2 ^ w) (drop (place k s + 1) s)) e (here (place k s) s).items sp.low sp.high sp.mine)).0

  -- ---- the rules' two ways
  pub stays_as : size (here (place k s) (with_entry e s)) ≤ 5 * half w → grown w (place k s) (with_entry e s) ≡ still (with_entry e s)
  unfolding grown
  stays_as le = cond-false _ _ _ (le-ltb (5 * half w) (size (here (place k s) (with_entry e s))) le)

  pub splits_as : 5 * half w < size (here (place k s) (with_entry e s)) → grown w (place k s) (with_entry e s) ≡ split_at w (place k s) (with_entry e s)
  unfolding grown
  splits_as lt = cond-true _ _ _ (lt-ltb (5 * half w) (size (here (place k s) (with_entry e s))) lt)

  -- ---- the table u and the pool q once the entry is in its tree
  module _ (u : Table) (q : Pool) (re : Replanted i.grove.table i.grove.pool u q n (put e (items_of i.grove.table i.grove.pool n))) where
    at_place : place k s ≡ length c.pre
    at_place = placed (rep_of i.grove.table) (items_of i.grove.table i.grove.pool) (tree_of i.grove.table i.grove.pool) (order_of i.grove.table) k n c

    was : (here (place k s) s).items ≡ items_of i.grove.table i.grove.pool n
    was = here_items (rep_of i.grove.table) (items_of i.grove.table i.grove.pool) (tree_of i.grove.table i.grove.pool) (order_of i.grove.table) k n c

    pub row_entered : row_of u q ≡ with_entry e s
    row_entered =
        row_replanted i.grove.table u i.grove.pool q n (put e (items_of i.grove.table i.grove.pool n)) c.pre c.post c.is wh.trie.ordered.rises re
        ∙ (ap (λ (es : List Entry). set s (length c.pre) (with_items (here (length c.pre) s) (put e es))) (sym was)
        ∙ ap (λ j. set s j (with_items (here j s) (put e (here (place k s) s).items))) (sym at_place))

    order_u : order_of u ≡ c.pre ++ n ∷ c.post
    order_u = re.kept.order ∙ c.is

    pub size_entered : size (here (place k s) (with_entry e s)) ≡ length (items_of u q n)
    size_entered =
        ap (λ (t : List Bucket). size (here (place k s) t)) (sym row_entered)
        ∙ (ap (λ j. size (here j (row_of u q))) at_place
        ∙ (ap (λ l. size (here (length c.pre) (map (bucket (rep_of u) (items_of u q)) l))) order_u
        ∙ ap size (at_cut (bucket (rep_of u) (items_of u q)) hollow c.pre n c.post)))

    long_u : length (row_of u q) ≡ length (order_of u)
    long_u = length-map (order_of u) (bucket (rep_of u) (items_of u q))

    pub one_more : 5 * half w < size (here (place k s) (with_entry e s)) → (length (order_of u) + 1 ≤ buckets_for w i.limit) × (length (order_of u) < 128)
    unfolding split_at
    one_more lt =
        let t = with_entry e s in
        let so = subst (λ (ch : Change). BucketsSound w i.limit ch.after) (splits_as lt) entered_sound in
        let ke = keeps w i.limit (split_at w (place k s) t).after big so in
        let l : length t ≡ length (order_of u) = ap length (sym row_entered) ∙ long_u in
        let lo : place k s < length t = omega (arith, at_place, ap length order_u ∙ length-append c.pre (n ∷ c.post)) in
        let x = cut_at t (place k s) lo in
        let a = ap length x ∙ length-append (take (place k s) t) (here (place k s) t ∷ drop (place k s + 1) t) in
        let b = length-append (take (place k s) t) (halves (here (place k s) t) ++ drop (place k s + 1) t) in
        (omega (arith, ke.few), omega (arith, ke.within wh.small))
