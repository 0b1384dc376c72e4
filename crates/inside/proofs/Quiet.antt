-- Calls that change nothing, and calls turned away before their first frame.
use Rattle.std.proofs.Common.{◌≡◌, ℕ, ◌+◌, ◌^◌, ◌<◌, ◌≤◌, false, cond, ltb, leb, List, [], ◌∷◌, ◌++◌, map, Some, None, Option, sym, refl, ap, ◌∙◌, inl, inr, arith}
use Rattle.std.proofs.lemmas.Bool.{cond-false, lt-leb, le-ltb, cases_Bool}
use Rattle.dictionary.specs.Pairs.{Pairs, raised}
use Rattle.entry.specs.declared.Entry.{Entry}
use Rattle.entry.specs.Lists.{at, from, upto, filled, first, final}
use Rattle.levels.specs.Counts.{searching}
use Rattle.links.specs.Orders.{holder}
use Rattle.buckets.specs.Tables.{rep_of, order_of}
use Rattle.ordered.specs.declared.calls.Call.{Call}
use Rattle.ordered.specs.declared.calls.Call.TheVariants.{Find, Next, Last, Range}
use Rattle.ordered.specs.declared.calls.Rebuilding.TheVariants.{Unchanged}
use Rattle.ordered.specs.declared.refusal.Refusal.{Refusal}
use Rattle.ordered.specs.declared.refusal.Refusal.TheVariants.{Absent, Nothing}
use Rattle.ordered.specs.Sorted.{misfit, large, tells, no_find, no_near}
use Rattle.rules.specs.Steps.{step}
use Rattle.trees.specs.Trees.{leaf, seen, low_way, high_way}
use Rattle.trees.specs.Answers.{foremost, hindmost}
use Rattle.forest.specs.Forests.{tree_of, items_of, row_of, grove_of}
use Rattle.rows.specs.Rows.{ahead, back}
use Rattle.rows.proofs.Served.{InRow, find_served, find_path, next_served, next_path, last_served, last_path}
use Rattle.runs.specs.States.{Answered, Step, told_by, visits}
use Rattle.runs.proofs.Made.{Obeys, step_made}
use Rattle.inside.specs.declared.Inside.{Inside}
use Rattle.ordered.specs.Answers.{no_of, reply_of}
use Rattle.inside.specs.Whole.{Whole, state_of}
use Rattle.inside.proofs.Parts.{planted, laid, held_in}

-- ---- keys that fit
pub fits_large : (w k : ℕ) → k < 2 ^ w → large w k ≡ None
fits_large w k h = cond-false (leb (2 ^ w) k) _ _ (lt-leb (2 ^ w) k h)

-- one key stands for both ends of a range
pub one_key : (w k : ℕ) → misfit w (Range k k) ≡ large w k
one_key w k = elim (cases_Bool (leb (2 ^ w) k)) [
  | inl t ↦ rw t refl
  | inr t ↦ (let u : ltb k k ≡ false = le-ltb k k (omega arith) in rw (t, u) refl)
]

module _ (w : ℕ) (f : Pairs) (room tally : ℕ) (i : Inside) (big : 8 ≤ w) (wh : Whole w f room tally i) where
  -- a call that leaves everything but the tally as it was
  pub quiet_step : (c : Call) (ps : List Entry) (a : Answered) (n : ℕ) → n < 2 ^ 64 → n ≡ raised tally a.answer.frames →
      Obeys a (row_of i.grove.table i.grove.pool) (step w i.limit c ps (row_of i.grove.table i.grove.pool)) →
      a.answer.visits ≡ visits w c (row_of i.grove.table i.grove.pool) (grove_of i.grove.table i.grove.pool) →
      Step w i.limit (state_of f tally (Some i)) c ps a (state_of f n (Some i))
  quiet_step c ps a n h up o v =
      step_made w i.limit big (state_of f tally (Some i)) c ps a (state_of f n (Some i)) wh.buckets o
      (record { notes = wh.notes; planted = planted i.grove.table i.grove.pool i.grove.forest; laid = laid w f i.grove.table i.grove.pool wh.trie; counts = h; visits = v; tally = up; still = λ _. (refl, refl) })

  -- a call that its keys bar
  pub barred_step : (c : Call) (ps : List Entry) (r : Refusal) → misfit w c ≡ Some r → tally < 2 ^ 64 →
      Step w i.limit (state_of f tally (Some i)) c ps (record { answer = no_of r 0 0; places = ps }) (state_of f tally (Some i))
  unfolding step visits
  barred_step c ps r e h =
      quiet_step c ps (record { answer = no_of r 0 0; places = ps }) tally h (omega arith)
      (rw e (record { told = refl; frames = refl; rebuilding = refl; after = refl }))
      (rw e refl)

  -- ---- find
  found_told : (xs : List Entry) (ps : List Entry) (fr v : ℕ) → told_by (record { answer = reply_of (foremost xs) Absent fr v; places = ps }) ≡ tells (no_find xs) (first xs) ps
  found_told [] ps fr v = refl
  found_told (x ∷ xs) ps fr v = refl

  reply_frames : (o : Option Entry) (r : Refusal) (fr v : ℕ) → (reply_of o r fr v).frames ≡ fr
  reply_frames None r fr v = refl
  reply_frames (Some e) r fr v = refl

  reply_visits : (o : Option Entry) (r : Refusal) (fr v : ℕ) → (reply_of o r fr v).visits ≡ v
  reply_visits None r fr v = refl
  reply_visits (Some e) r fr v = refl

  reply_rebuilding : (o : Option Entry) (r : Refusal) (fr v : ℕ) → (reply_of o r fr v).rebuilding ≡ Unchanged
  reply_rebuilding None r fr v = refl
  reply_rebuilding (Some e) r fr v = refl

  pub find_step : (k : ℕ) (ps : List Entry) (n : ℕ) → k < 2 ^ w →
      let m = holder (rep_of i.grove.table) (order_of i.grove.table) k in
      let fr = searching w (map (rep_of i.grove.table) (order_of i.grove.table)) k in
      n < 2 ^ 64 → n ≡ raised tally fr →
      Step w i.limit (state_of f tally (Some i)) (Find k) ps (record { answer = reply_of (foremost (at k (items_of i.grove.table i.grove.pool m))) Absent fr (seen k (tree_of i.grove.table i.grove.pool m)); places = ps }) (state_of f n (Some i))
  unfolding step visits
  find_step k ps n h b up =
      let m = holder (rep_of i.grove.table) (order_of i.grove.table) k in
      let items = items_of i.grove.table i.grove.pool in
      let tree = tree_of i.grove.table i.grove.pool in
      let order = order_of i.grove.table in
      let c = held_in w f i.grove.table wh.trie k in
      let fr = searching w (map (rep_of i.grove.table) order) k in
      let xs = at k (items m) in
      let v = seen k (tree m) in
      let a : Answered = record { answer = reply_of (foremost xs) Absent fr v; places = ps } in
      let none = fits_large w k h in
      let is = find_served (rep_of i.grove.table) items tree order k m c w i.limit ps in
      let way = find_path (rep_of i.grove.table) items tree order k m c in
      quiet_step (Find k) ps a n b (up ∙ ap (raised tally) (sym (reply_frames (foremost xs) Absent fr v)))
      (rw (none, is) (record { told = found_told xs ps fr v; frames = reply_frames (foremost xs) Absent fr v; rebuilding = reply_rebuilding (foremost xs) Absent fr v; after = refl }))
      (reply_visits (foremost xs) Absent fr v ∙ sym (rw none way))

  -- ---- next and last, by the bucket and its neighbour
  near_told : (xs : List Entry) (ps : List Entry) (fr v : ℕ) → told_by (record { answer = reply_of (foremost xs) Nothing fr v; places = ps }) ≡ tells (no_near xs) (first xs) ps
  near_told [] ps fr v = refl
  near_told (x ∷ xs) ps fr v = refl

  far_told : (xs : List Entry) (ps : List Entry) (fr v : ℕ) → told_by (record { answer = reply_of (hindmost xs) Nothing fr v; places = ps }) ≡ tells (no_near xs) (final xs) ps
  far_told [] ps fr v = refl
  far_told (x ∷ xs) ps fr v = refl

  pub next_step : (k : ℕ) (ps : List Entry) (n m : ℕ) (c : InRow (rep_of i.grove.table) (order_of i.grove.table) k m) → k < 2 ^ w →
      let items = items_of i.grove.table i.grove.pool in
      let fr = searching w (map (rep_of i.grove.table) (order_of i.grove.table)) k in
      let v = seen k (tree_of i.grove.table i.grove.pool m) + cond (filled (from k (items m))) 0 (low_way (ahead leaf (tree_of i.grove.table i.grove.pool) c.post)) in
      n < 2 ^ 64 → n ≡ raised tally fr →
      Step w i.limit (state_of f tally (Some i)) (Next k) ps (record { answer = reply_of (foremost (from k (items m) ++ ahead [] items c.post)) Nothing fr v; places = ps }) (state_of f n (Some i))
  unfolding step visits
  next_step k ps n m c h b up =
      let items = items_of i.grove.table i.grove.pool in
      let tree = tree_of i.grove.table i.grove.pool in
      let order = order_of i.grove.table in
      let fr = searching w (map (rep_of i.grove.table) order) k in
      let xs = from k (items m) ++ ahead [] items c.post in
      let v = seen k (tree m) + cond (filled (from k (items m))) 0 (low_way (ahead leaf tree c.post)) in
      let a : Answered = record { answer = reply_of (foremost xs) Nothing fr v; places = ps } in
      let none = fits_large w k h in
      let is = next_served (rep_of i.grove.table) items tree order k m c w i.limit ps in
      let way = next_path (rep_of i.grove.table) items tree order k m c in
      quiet_step (Next k) ps a n b (up ∙ ap (raised tally) (sym (reply_frames (foremost xs) Nothing fr v)))
      (rw (none, is) (record { told = near_told xs ps fr v; frames = reply_frames (foremost xs) Nothing fr v; rebuilding = reply_rebuilding (foremost xs) Nothing fr v; after = refl }))
      (reply_visits (foremost xs) Nothing fr v ∙ sym (rw none way))

  pub last_step : (k : ℕ) (ps : List Entry) (n m : ℕ) (c : InRow (rep_of i.grove.table) (order_of i.grove.table) k m) → k < 2 ^ w →
      let items = items_of i.grove.table i.grove.pool in
      let fr = searching w (map (rep_of i.grove.table) (order_of i.grove.table)) k in
      let v = seen k (tree_of i.grove.table i.grove.pool m) + cond (filled (upto k (items m))) 0 (high_way (back leaf (tree_of i.grove.table i.grove.pool) c.pre)) in
      n < 2 ^ 64 → n ≡ raised tally fr →
      Step w i.limit (state_of f tally (Some i)) (Last k) ps (record { answer = reply_of (hindmost (back [] items c.pre ++ upto k (items m))) Nothing fr v; places = ps }) (state_of f n (Some i))
  unfolding step visits
  last_step k ps n m c h b up =
      let items = items_of i.grove.table i.grove.pool in
      let tree = tree_of i.grove.table i.grove.pool in
      let order = order_of i.grove.table in
      let fr = searching w (map (rep_of i.grove.table) order) k in
      let xs = back [] items c.pre ++ upto k (items m) in
      let v = seen k (tree m) + cond (filled (upto k (items m))) 0 (high_way (back leaf tree c.pre)) in
      let a : Answered = record { answer = reply_of (hindmost xs) Nothing fr v; places = ps } in
      let none = fits_large w k h in
      let is = last_served (rep_of i.grove.table) items tree order k m c w i.limit ps in
      let way = last_path (rep_of i.grove.table) items tree order k m c in
      quiet_step (Last k) ps a n b (up ∙ ap (raised tally) (sym (reply_frames (hindmost xs) Nothing fr v)))
      (rw (none, is) (record { told = far_told xs ps fr v; frames = reply_frames (hindmost xs) Nothing fr v; rebuilding = reply_rebuilding (hindmost xs) Nothing fr v; after = refl }))
      (reply_visits (hindmost xs) Nothing fr v ∙ sym (rw none way))
