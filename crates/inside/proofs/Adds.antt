-- An add, as a step.
use Rattle.std.proofs.Common.{◌≡◌, ℕ, ◌+◌, ◌^◌, ◌<◌, ◌≤◌, true, false, leb, List, [], ◌∷◌, map, length, is_some, Some, Ok, sym, refl, ap, ◌∙◌, subst, arith}
use mathlib.Core.Bool.{false≢true}
use Rattle.trees.specs.Answers.{foremost}
use Rattle.std.specs.List.{AllByRecursion}
use Rattle.std.proofs.ByRecursion.{All-append, all_kept_by}
use Rattle.std.proofs.lemmas.Bool.{le-leb, lt-leb}
use Rattle.dictionary.specs.Pairs.{Pairs, raised}
use Rattle.key.specs.Widths.{needed}
use Rattle.entry.specs.declared.Entry.{Entry}
use Rattle.entry.specs.Lists.{at, put, below, above, filled}
use Rattle.levels.specs.Counts.{searching}
use Rattle.links.specs.Orders.{holder}
use Rattle.buckets.specs.Tables.{rep_of, order_of}
use Rattle.trie.specs.Sound.{Sound as TrieSound}
use Rattle.trees.specs.Trees.{seen}
use Rattle.forest.specs.Forests.{items_of, tree_of, row_of, grove_of}
use Rattle.ordered.specs.declared.calls.Call.TheVariants.{Add}
use Rattle.ordered.specs.declared.refusal.Refusal.{Refusal}
use Rattle.ordered.specs.declared.refusal.Refusal.TheVariants.{Held, Full}
use Rattle.ordered.specs.Sorted.{no_add, listed, answered}
use Rattle.rules.specs.Buckets.{Bucket, flat, total, place}
use Rattle.rules.specs.Buckets.{Sound as BucketsSound}
use Rattle.rules.specs.Changes.{Change, grown}
use Rattle.rules.specs.Steps.{step, alters, added}
use Rattle.rules.specs.Steps.{Step as RuleStep}
use Rattle.rules.proofs.Calls.{agrees, spot, at_spot}
use Rattle.rules.proofs.Spreads.{total_flat, put_size}
use Rattle.rows.proofs.Served.{InRow, add_served, find_path, here_items}
use Rattle.runs.specs.States.{Answered, Step, visits}
use Rattle.runs.proofs.Made.{Obeys, step_made}
use Rattle.inside.specs.declared.Inside.{Inside}
use Rattle.inside.specs.declared.Rebuilt.{Rebuilt}
use Rattle.ordered.specs.Answers.{no_of}
use Rattle.inside.specs.Changing.{with_entry, Entered}
use Rattle.inside.specs.Whole.{Whole, state_of}
use Rattle.inside.proofs.Parts.{held_in, planted, laid}
use Rattle.inside.proofs.Quiet.{fits_large, quiet_step}
use Rattle.inside.proofs.Enter.{add_rules, entered_sound}

module _ (w : ℕ) (f : Pairs) (room tally : ℕ) (i : Inside) (big : 8 ≤ w) (wh : Whole w f room tally i) (e : Entry) (h : e.key < 2 ^ w) where
  abbrev s : List Bucket
  s = row_of i.grove.table i.grove.pool

  abbrev k : ℕ
  k = e.key

  abbrev n : ℕ
  n = holder (rep_of i.grove.table) (order_of i.grove.table) k

  abbrev fr : ℕ
  fr = searching w (map (rep_of i.grove.table) (order_of i.grove.table)) k

  abbrev v : ℕ
  v = seen k (tree_of i.grove.table i.grove.pool n)

  c : InRow (rep_of i.grove.table) (order_of i.grove.table) k n
  c = held_in w f i.grove.table wh.trie k

  way : visits w (Add k e.note) s (grove_of i.grove.table i.grove.pool) ≡ v
  unfolding visits
  way = rw (fits_large w k h) (find_path (rep_of i.grove.table) (items_of i.grove.table i.grove.pool) (tree_of i.grove.table i.grove.pool) (order_of i.grove.table) k n c)

  -- ---- held, or full
  pub refused_step : (r : Refusal) (m : ℕ) → no_add i.limit (at k (items_of i.grove.table i.grove.pool n)) (total s) ≡ Some r → m < 2 ^ 64 → m ≡ raised tally fr →
      Step w i.limit (state_of f tally (Some i)) (Add k e.note) [] (record { answer = no_of r fr v; places = [] }) (state_of f m (Some i))
  unfolding step added
  refused_step r m why b up =
      let is = add_served (rep_of i.grove.table) (items_of i.grove.table i.grove.pool) (tree_of i.grove.table i.grove.pool) (order_of i.grove.table) k n c w i.limit e.note [] in
      quiet_step w f room tally i big wh (Add k e.note) [] (record { answer = no_of r fr v; places = [] }) m b up
      (rw (fits_large w k h, is, why) (record { told = refl; frames = refl; rebuilding = refl; after = refl })) (sym way)

  -- ---- accepted: the inside i became j, and the pairs f became g
  module _ (new : at k (items_of i.grove.table i.grove.pool n) ≡ []) (free : i.count < i.limit) (j : Inside) (g : Pairs) (room' m : ℕ) (r : Rebuilt) (small : e.note < 2 ^ 64)
      (trie : TrieSound w g j.grove.table) (en : Entered w i e r (row_of j.grove.table j.grove.pool))
      (lim : j.limit ≡ i.limit) (cnt : j.count ≡ i.count + 1) (rm : room' ≡ room) where
    abbrev ch : Change
    ch = grown w (place k s) (with_entry e s)

    rules : step w i.limit (Add k e.note) [] s ≡ alters (answered e []) fr ch
    rules = add_rules w f room tally i big wh e h new free []

    absent : at k (flat s) ≡ []
    absent =
        at_spot w k (place k s) s (spot w i.limit k s wh.buckets h)
        ∙ (ap (at k) (here_items (rep_of i.grove.table) (items_of i.grove.table i.grove.pool) (tree_of i.grove.table i.grove.pool) (order_of i.grove.table) k n c) ∙ new)

    listed_after : (listed w i.limit (Add k e.note) [] (flat s)).after ≡ put e (flat s)
    unfolding listed
    listed_after =
        let low : leb i.limit (length (flat s)) ≡ false = lt-leb i.limit (length (flat s)) (omega (arith, wh.counted, total_flat s)) in
        rw (fits_large w k h, absent, low) refl

    flat_after : flat (row_of j.grove.table j.grove.pool) ≡ put e (flat s)
    flat_after =
        ap flat en.row
        ∙ (ap (λ (t : RuleStep). flat t.after) (sym rules)
        ∙ ((agrees w i.limit big s wh.buckets (Add k e.note) []).list ∙ listed_after))

    one_more_held : total (row_of j.grove.table j.grove.pool) ≡ total s + 1
    one_more_held =
        total_flat (row_of j.grove.table j.grove.pool) ∙ (ap length flat_after ∙ (put_size e (flat s) (ap filled absent) ∙ ap (λ x. x + 1) (sym (total_flat s))))

    all_noted : AllByRecursion (λ (x : Entry). x.note < 2 ^ 64) (flat (row_of j.grove.table j.grove.pool))
    all_noted =
        let P : Entry → Type 0 = λ x. x.note < 2 ^ 64 in
        subst (AllByRecursion P) (sym flat_after) (All-append P (below k (flat s)) (e ∷ above k (flat s)) (all_kept_by _ P (flat s) wh.notes) (small, all_kept_by _ P (flat s) wh.notes))

    pub add_whole : Whole w g room' m j
    add_whole = record {
      trie = trie;
      buckets = subst (λ l. BucketsSound w l (row_of j.grove.table j.grove.pool)) (sym lim) (subst (BucketsSound w i.limit) (sym en.row) (entered_sound w f room tally i big wh e h new free));
      notes = all_noted;
      counted = cnt ∙ (ap (λ x. x + 1) wh.counted ∙ sym one_more_held);
      small = subst (λ l. l ≤ 512) (sym lim) wh.small;
      fits = subst (λ l. needed w l ≤ room') (sym lim) (subst (λ x. needed w i.limit ≤ x) (sym rm) wh.fits);
    }

    pub add_step : m < 2 ^ 64 → m ≡ raised (raised tally fr) r.frames →
        Step w i.limit (state_of f tally (Some i)) (Add k e.note) [] (record { answer = record { outcome = Ok e; number = 0; frames = fr + r.frames; visits = v; rebuilding = r.rebuilding }; places = [] }) (state_of g m (Some j))
    add_step b up =
        let a : Answered = record { answer = record { outcome = Ok e; number = 0; frames = fr + r.frames; visits = v; rebuilding = r.rebuilding }; places = [] } in
        let o : Obeys a (row_of j.grove.table j.grove.pool) (alters (answered e []) fr ch) = record { told = refl; frames = ap (λ x. fr + x) en.frames; rebuilding = en.rebuilding; after = en.row } in
        step_made w i.limit big (state_of f tally (Some i)) (Add k e.note) [] a (state_of g m (Some j)) wh.buckets
        (subst (Obeys a (row_of j.grove.table j.grove.pool)) (sym rules) o)
        (record { notes = all_noted; planted = planted j.grove.table j.grove.pool j.grove.forest; laid = laid w g j.grove.table j.grove.pool trie; counts = b; visits = sym way; tally = omega (arith, up); still = λ z. absurd (omega arith) })

-- ---- what a look for the key tells
pub none_found : (xs : List Entry) → is_some (foremost xs) ≡ false → xs ≡ []
none_found [] z = refl
none_found (x ∷ xs) z = absurd (false≢true (sym z))

pub some_held : (limit n : ℕ) (xs : List Entry) → is_some (foremost xs) ≡ true → no_add limit xs n ≡ Some Held
some_held limit n [] z = absurd (false≢true z)
some_held limit n (x ∷ xs) z = refl

pub none_full : (limit n : ℕ) (xs : List Entry) → xs ≡ [] → limit ≤ n → no_add limit xs n ≡ Some Full
none_full limit n xs z l = rw (z, le-leb limit n l) refl
