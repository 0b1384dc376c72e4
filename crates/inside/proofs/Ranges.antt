-- A range on an index that is not shut: refused for want of room, or written.
use Rattle.std.proofs.Common.{Some, ◌≡◌, ℕ, ◌^◌, ◌<◌, ◌≤◌, eqb, leb, List, [], ◌∷◌, ◌++◌, map, length, None, Ok, sym, refl, ap, ◌∙◌, subst, inl, inr, arith, length-append}
use Rattle.std.specs.List.{flat_map}
use Rattle.std.proofs.lemmas.Bool.{cases_Bool, lt-ltb, le-ltb}
use Rattle.dictionary.specs.Pairs.{Pairs, raised}
use Rattle.entry.specs.declared.Entry.{Entry}
use Rattle.entry.specs.Lists.{blank, between, upto}
use Rattle.entry.proofs.Filters.{kept_short}
use Rattle.levels.specs.Counts.{searching}
use Rattle.avl.specs.declared.pool.Pool.{Pool}
use Rattle.buckets.specs.declared.Table.{Table}
use Rattle.buckets.specs.Tables.{rep_of, order_of}
use Rattle.buckets.specs.Onwards.{since}
use Rattle.buckets.proofs.Onwards.{since_at}
use Rattle.ordered.specs.declared.calls.Answer.{Answer}
use Rattle.ordered.specs.declared.calls.Call.TheVariants.{Range}
use Rattle.ordered.specs.declared.calls.Rebuilding.TheVariants.{Unchanged}
use Rattle.ordered.specs.declared.refusal.Refusal.TheVariants.{Room}
use Rattle.ordered.specs.Sorted.{misfit, no_range, writes}
use Rattle.rules.specs.Steps.{step}
use Rattle.rules.proofs.Spreads.{total_flat}
use Rattle.forest.specs.Forests.{tree_of, items_of, row_of, grove_of}
use Rattle.rows.proofs.Places.{row_flat}
use Rattle.rows.proofs.Served.{InRow, range_served}
use Rattle.runs.specs.States.{Answered, Step, told_by, visits}
use Rattle.runs.proofs.Made.{Obeys, step_made}
use Rattle.inside.specs.declared.Inside.{Inside}
use Rattle.ordered.specs.Answers.{no_of}
use Rattle.inside.specs.Spans.{onward, over}
use Rattle.inside.specs.Whole.{Whole, state_of}
use Rattle.inside.proofs.Parts.{planted, laid}

-- the answer of a range that was written
abbrev pub wrote : ℕ → ℕ → Answer
wrote number frames = record { outcome = Ok blank; number = number; frames = frames; visits = 0; rebuilding = Unchanged }

pub onward_cut : (t : Table) (p : Pool) → (pre : List ℕ) (n : ℕ) (post : List ℕ) → order_of t ≡ pre ++ n ∷ post → onward t p n ≡ flat_map (items_of t p) (n ∷ post)
unfolding onward
onward_cut t p pre n post is = ap (flat_map (items_of t p)) (since_at t pre n post is)

-- ---- no more entries than an index has
since_fewer : (f : ℕ → List Entry) (n : ℕ) (xs : List ℕ) → length (flat_map f (since n xs)) ≤ length (flat_map f xs)
since_fewer f n [] = omega arith
since_fewer f n (x ∷ xs) = elim (cases_Bool (eqb x n)) [
  | inl e ↦ rw e (omega arith)
  | inr e ↦ rw e (omega (arith, since_fewer f n xs, length-append (f x) (flat_map f xs)))
]

pub span_bound : (w : ℕ) (f : Pairs) (room tally : ℕ) (i : Inside) → Whole w f room tally i → (a b n : ℕ) → length (between a b (onward i.grove.table i.grove.pool n)) ≤ 512
unfolding onward
span_bound w f room tally i wh a b n =
    let items = items_of i.grove.table i.grove.pool in
    let order = order_of i.grove.table in
    let xs = flat_map items (since n order) in
    omega (
      arith,
      kept_short (λ (e : Entry). leb a e.key) (upto b xs),
      kept_short (λ (e : Entry). leb e.key b) xs,
      since_fewer items n order,
      ap length (row_flat (rep_of i.grove.table) items order),
      total_flat (row_of i.grove.table i.grove.pool),
      wh.buckets.few,
      wh.small,
    )

-- ---- what is told
pub room_told : (ys ps : List Entry) (fr : ℕ) → length ps < length ys → told_by (record { answer = no_of Room fr 0; places = ps }) ≡ writes (no_range (length ys) (length ps)) ys ps
room_told ys ps fr h = let e = lt-ltb (length ps) (length ys) h in rw e refl

pub written_told : (ys ps qs : List Entry) (number fr : ℕ) → number ≡ length ys → qs ≡ over ys ps → length ys ≤ length ps →
    told_by (record { answer = wrote number fr; places = qs }) ≡ writes (no_range (length ys) (length ps)) ys ps
written_told ys ps qs number fr en eq h = let e = le-ltb (length ps) (length ys) h in rw (e, en, eq) refl

module _ (w : ℕ) (f : Pairs) (room tally : ℕ) (i : Inside) (big : 8 ≤ w) (wh : Whole w f room tally i) where
  pub range_step : (a b : ℕ) (ps : List Entry) (n m : ℕ) (c : InRow (rep_of i.grove.table) (order_of i.grove.table) a m) (x : Answered) → misfit w (Range a b) ≡ None →
      let ys = between a b (onward i.grove.table i.grove.pool m) in
      let fr = searching w (map (rep_of i.grove.table) (order_of i.grove.table)) a in
      told_by x ≡ writes (no_range (length ys) (length ps)) ys ps → x.answer.frames ≡ fr → x.answer.visits ≡ 0 → x.answer.rebuilding ≡ Unchanged →
      n < 2 ^ 64 → n ≡ raised tally x.answer.frames → Step w i.limit (state_of f tally (Some i)) (Range a b) ps x (state_of f n (Some i))
  unfolding step visits
  range_step a b ps n m c x none told frames seen still h up =
      let items = items_of i.grove.table i.grove.pool in
      let is = range_served (rep_of i.grove.table) items (tree_of i.grove.table i.grove.pool) (order_of i.grove.table) a m c w i.limit b ps in
      let all = onward_cut i.grove.table i.grove.pool c.pre m c.post c.is in
      let told_all = subst (λ xs. told_by x ≡ writes (no_range (length (between a b xs)) (length ps)) (between a b xs) ps) all told in
      let o : Obeys x (row_of i.grove.table i.grove.pool) (step w i.limit (Range a b) ps (row_of i.grove.table i.grove.pool)) =
      rw (none, is) (record { told = told_all; frames = frames; rebuilding = still; after = refl }) in
      let v : x.answer.visits ≡ visits w (Range a b) (row_of i.grove.table i.grove.pool) (grove_of i.grove.table i.grove.pool) = seen ∙ sym (rw none refl) in
      step_made w i.limit big (state_of f tally (Some i)) (Range a b) ps x (state_of f n (Some i)) wh.buckets o
      (record { notes = wh.notes; planted = planted i.grove.table i.grove.pool i.grove.forest; laid = laid w f i.grove.table i.grove.pool wh.trie; counts = h; visits = v; tally = up; still = λ _. (refl, refl) })
