-- A remove, as a step.
use Rattle.std.proofs.Common.{◌≡◌, ℕ, ◌+◌, ◌*◌, ◌^◌, ◌<◌, ◌≤◌, List, [], ◌∷◌, map, length, set, Some, None, Ok, sym, refl, ap, ◌∙◌, subst, mul-le-mul_left, mul-one, arith}
use Rattle.std.specs.List.{AllByRecursion}
use Rattle.std.proofs.ByRecursion.{All-append, all_kept_by}
use Rattle.dictionary.specs.Pairs.{Pairs, raised}
use Rattle.key.specs.Widths.{needed, most}
use Rattle.entry.specs.declared.Entry.{Entry}
use Rattle.entry.specs.Lists.{at, without, below, above, filled, first}
use Rattle.levels.specs.Counts.{searching}
use Rattle.links.specs.Orders.{holder}
use Rattle.buckets.specs.Tables.{rep_of, order_of}
use Rattle.trie.specs.Sound.{Sound as TrieSound}
use Rattle.trees.specs.Trees.{seen}
use Rattle.trees.specs.Answers.{foremost}
use Rattle.forest.specs.Forests.{items_of, tree_of, row_of, grove_of}
use Rattle.ordered.specs.declared.calls.Call.TheVariants.{Remove}
use Rattle.ordered.specs.declared.refusal.Refusal.TheVariants.{Absent}
use Rattle.ordered.specs.Numbers.{rebuilt}
use Rattle.ordered.specs.declared.calls.Rebuilding.{Rebuilding}
use Rattle.ordered.specs.declared.calls.Rebuilding.TheVariants.{Unchanged, Split, Merge, MergeSplit}
use Rattle.ordered.specs.Sorted.{listed, answered}
use Rattle.rules.specs.Buckets.{Bucket, flat, total, place, here, lowest}
use Rattle.rules.specs.Buckets.{Sound as BucketsSound}
use Rattle.rules.specs.Changes.{Change, with_items, shrunk}
use Rattle.rules.specs.Steps.{step, alters, removed}
use Rattle.rules.specs.Steps.{Step as RuleStep}
use Rattle.rules.proofs.Calls.{agrees, spot, at_spot}
use Rattle.rules.proofs.Spreads.{total_flat, without_size, rise_flat}
use Rattle.rows.proofs.Served.{InRow, remove_served, find_path, here_items, placed}
use Rattle.runs.specs.States.{Answered, Step, visits}
use Rattle.runs.proofs.Made.{Obeys, step_made}
use Rattle.inside.specs.declared.Inside.{Inside}
use Rattle.inside.specs.declared.Rebuilt.{Rebuilt}
use Rattle.ordered.specs.Answers.{no_of}
use Rattle.inside.specs.Leaving.{without_entry, Left}
use Rattle.inside.specs.Whole.{Whole, state_of}
use Rattle.inside.proofs.Parts.{held_in, planted, laid}
use Rattle.inside.proofs.Quiet.{fits_large, quiet_step}

rebuilt_once : (r : Rebuilding) → rebuilt r ≤ 1
rebuilt_once Unchanged = omega arith
rebuilt_once Split = omega arith
rebuilt_once Merge = omega arith
rebuilt_once MergeSplit = omega arith

module _ (w : ℕ) (f : Pairs) (room tally : ℕ) (i : Inside) (big : 8 ≤ w) (wh : Whole w f room tally i) (k : ℕ) (h : k < 2 ^ w) where
  abbrev s : List Bucket
  s = row_of i.grove.table i.grove.pool

  abbrev n : ℕ
  n = holder (rep_of i.grove.table) (order_of i.grove.table) k

  abbrev fr : ℕ
  fr = searching w (map (rep_of i.grove.table) (order_of i.grove.table)) k

  abbrev v : ℕ
  v = seen k (tree_of i.grove.table i.grove.pool n)

  abbrev xs : List Entry
  xs = at k (items_of i.grove.table i.grove.pool n)

  c : InRow (rep_of i.grove.table) (order_of i.grove.table) k n
  c = held_in w f i.grove.table wh.trie k

  way : visits w (Remove k) s (grove_of i.grove.table i.grove.pool) ≡ v
  unfolding visits
  way = rw (fits_large w k h) (find_path (rep_of i.grove.table) (items_of i.grove.table i.grove.pool) (tree_of i.grove.table i.grove.pool) (order_of i.grove.table) k n c)

  -- ---- absent
  pub absent_step : (m : ℕ) → xs ≡ [] → m < 2 ^ 64 → m ≡ raised tally fr →
      Step w i.limit (state_of f tally (Some i)) (Remove k) [] (record { answer = no_of Absent fr v; places = [] }) (state_of f m (Some i))
  unfolding step removed
  absent_step m none b up =
      let is = remove_served (rep_of i.grove.table) (items_of i.grove.table i.grove.pool) (tree_of i.grove.table i.grove.pool) (order_of i.grove.table) k n c w i.limit [] in
      quiet_step w f room tally i big wh (Remove k) [] (record { answer = no_of Absent fr v; places = [] }) m b up
      (rw (fits_large w k h, is, none) (record { told = refl; frames = refl; rebuilding = refl; after = refl })) (sym way)

  -- ---- accepted: the inside i became j, and the pairs f became g
  module _ (e : Entry) (es : List Entry) (some : xs ≡ e ∷ es) where
    abbrev ch : Change
    ch = shrunk w (place k s) (without_entry k s)

    here_was : (here (place k s) s).items ≡ items_of i.grove.table i.grove.pool n
    here_was = here_items (rep_of i.grove.table) (items_of i.grove.table i.grove.pool) (tree_of i.grove.table i.grove.pool) (order_of i.grove.table) k n c

    at_place : place k s ≡ length c.pre
    at_place = placed (rep_of i.grove.table) (items_of i.grove.table i.grove.pool) (tree_of i.grove.table i.grove.pool) (order_of i.grove.table) k n c

    -- what the rules say of the bucket at place l
    abbrev taken : ℕ → RuleStep
    taken l = alters (answered (first (at k (here l s).items)) []) fr (shrunk w l (set s l (with_items (here l s) (without k (here l s).items))))

    rules : step w i.limit (Remove k) [] s ≡ alters (answered e []) fr ch
    unfolding step removed
    rules =
        let is = remove_served (rep_of i.grove.table) (items_of i.grove.table i.grove.pool) (tree_of i.grove.table i.grove.pool) (order_of i.grove.table) k n c w i.limit [] in
        let open_way : step w i.limit (Remove k) [] s ≡ taken (length c.pre) = rw (fits_large w k h, is, some) refl in
        open_way ∙ (ap taken (sym at_place) ∙ ap (λ (x : Entry). alters (answered x []) fr ch) (ap (λ (l : List Entry). first (at k l)) here_was ∙ ap first some))

    held : at k (flat s) ≡ e ∷ es
    held = at_spot w k (place k s) s (spot w i.limit k s wh.buckets h) ∙ (ap (at k) here_was ∙ some)

    listed_after : (listed w i.limit (Remove k) [] (flat s)).after ≡ without k (flat s)
    unfolding listed
    listed_after = rw (fits_large w k h, held) refl

    pub remove_few : fr + ch.frames ≤ most w + 4 * (w + 1)
    remove_few =
        let g = (agrees w i.limit big s wh.buckets (Remove k) []).few in
        let m : fr + ch.frames ≤ most w + 4 * (w + 1) * rebuilt ch.rebuilding = subst (λ (t : RuleStep). t.reply.frames ≤ most w + 4 * (w + 1) * rebuilt t.reply.rebuilding) rules g in
        omega (arith, m, mul-le-mul_left (4 * (w + 1)) (rebuilt_once ch.rebuilding), mul-one (4 * (w + 1)))

    module _ (j : Inside) (g : Pairs) (room' m : ℕ) (r : Rebuilt) (trie : TrieSound w g j.grove.table) (le : Left w i k r (row_of j.grove.table j.grove.pool))
        (lim : j.limit ≡ i.limit) (cnt : j.count + 1 ≡ i.count) (rm : room' ≡ room) where
      flat_after : flat (row_of j.grove.table j.grove.pool) ≡ without k (flat s)
      flat_after =
          ap flat le.row
          ∙ (ap (λ (t : RuleStep). flat t.after) (sym rules)
          ∙ ((agrees w i.limit big s wh.buckets (Remove k) []).list ∙ listed_after))

      one_less_held : total (row_of j.grove.table j.grove.pool) + 1 ≡ total s
      one_less_held =
          ap (λ x. x + 1) (total_flat (row_of j.grove.table j.grove.pool) ∙ ap length flat_after)
          ∙ (without_size (lowest (2 ^ w) s) (2 ^ w) k (flat s) (rise_flat (2 ^ w) s wh.buckets.spread) (ap filled held) ∙ sym (total_flat s))

      all_noted : AllByRecursion (λ (x : Entry). x.note < 2 ^ 64) (flat (row_of j.grove.table j.grove.pool))
      all_noted =
          let P : Entry → Type 0 = λ x. x.note < 2 ^ 64 in
          subst (AllByRecursion P) (sym flat_after) (All-append P (below k (flat s)) (above k (flat s)) (all_kept_by _ P (flat s) wh.notes) (all_kept_by _ P (flat s) wh.notes))

      pub remove_whole : Whole w g room' m j
      remove_whole = record {
        trie = trie;
        buckets = subst (λ l. BucketsSound w l (row_of j.grove.table j.grove.pool)) (sym lim) (subst (BucketsSound w i.limit) (sym le.row) (subst (λ (t : RuleStep). BucketsSound w i.limit t.after) rules (agrees w i.limit big s wh.buckets (Remove k) []).sound));
        notes = all_noted;
        counted = omega (arith, cnt, wh.counted, one_less_held);
        small = subst (λ l. l ≤ 512) (sym lim) wh.small;
        fits = subst (λ l. needed w l ≤ room') (sym lim) (subst (λ x. needed w i.limit ≤ x) (sym rm) wh.fits);
      }

      pub remove_step : m < 2 ^ 64 → m ≡ raised (raised tally fr) r.frames →
          Step w i.limit (state_of f tally (Some i)) (Remove k) [] (record { answer = record { outcome = Ok e; number = 0; frames = fr + r.frames; visits = v; rebuilding = r.rebuilding }; places = [] }) (state_of g m (Some j))
      remove_step b up =
          let a : Answered = record { answer = record { outcome = Ok e; number = 0; frames = fr + r.frames; visits = v; rebuilding = r.rebuilding }; places = [] } in
          let o : Obeys a (row_of j.grove.table j.grove.pool) (alters (answered e []) fr ch) = record { told = refl; frames = ap (λ x. fr + x) le.frames; rebuilding = le.rebuilding; after = le.row } in
          step_made w i.limit big (state_of f tally (Some i)) (Remove k) [] a (state_of g m (Some j)) wh.buckets
          (subst (Obeys a (row_of j.grove.table j.grove.pool)) (sym rules) o)
          (record { notes = all_noted; planted = planted j.grove.table j.grove.pool j.grove.forest; laid = laid w g j.grove.table j.grove.pool trie; counts = b; visits = sym way; tally = omega (arith, up); still = λ z. absurd (omega arith) })

-- ---- what a look for the key tells
pub found_first : (xs : List Entry) (e : Entry) → foremost xs ≡ Some e → (es : List Entry) × (xs ≡ e ∷ es)
found_first [] e q = absurd (let z : ◌≡◌ {A = ℕ} 0 1 = cc in omega arith)
found_first (x ∷ xs) e q = (xs, ap (λ y. y ∷ xs) (some_same x e q))
  where
    some_same : (a b : Entry) → Some a ≡ Some b → a ≡ b
    some_same a b p = cc

pub not_found : (xs : List Entry) → foremost xs ≡ None → xs ≡ []
not_found [] q = refl
not_found (x ∷ xs) q = absurd (let z : ◌≡◌ {A = ℕ} 0 1 = cc in omega arith)
