-- A question's visits stay on the search path of one tree and on the way to the end of another.
use Rattle.std.proofs.Common.{◌≡◌, ℕ, zero, suc, ◌+◌, ◌*◌, ◌<◌, ◌≤◌, List, [], ◌∷◌, length, Some, None, Option, sym, refl, ap, ◌∙◌, arith}
use Rattle.std.specs.List.{AllByRecursion}
use Rattle.std.proofs.lemmas.Bool.{cond_both}
use Rattle.key.specs.Widths.{half, most}
use Rattle.key.proofs.Logs.{half_within}
use Rattle.entry.specs.Lists.{from, upto, filled}
use Rattle.ordered.specs.declared.calls.Call.{Call}
use Rattle.ordered.specs.declared.calls.Call.TheVariants.{Add, Remove, Find, Next, Last, Range}
use Rattle.ordered.specs.declared.refusal.Refusal.{Refusal}
use Rattle.ordered.specs.Numbers.{rebuilt}
use Rattle.ordered.specs.Runs.{Asked}
use Rattle.ordered.specs.Sorted.{misfit, changed}
use Rattle.rules.specs.Buckets.{Bucket, size, here, place}
use Rattle.rules.specs.Steps.{step}
use Rattle.rules.proofs.Calls.{agrees}
use Rattle.trees.specs.Trees.{Tree, tall, seen, low_way, high_way}
use Rattle.trees.specs.Heights.{highest}
use Rattle.trees.proofs.Heights.{highest_tree}
use Rattle.trees.proofs.Paths.{seen_low, low_way_low, high_way_low}
use Rattle.runs.specs.States.{State, Answered, Step, Sound, Planted, tree_at, tree_behind, unbarred, visits, told_by}
use Rattle.runs.specs.Runs.{Run, ended, then}
use Rattle.runs.specs.Law.{Few, Short, AllShort}

-- each tree of buckets with at most n entries is at most as high as n entries allow
pub low_trees : (n : ℕ) → n < 232 → (s : List Bucket) (ts : List Tree) → Planted s ts → AllByRecursion (λ (b : Bucket). size b ≤ n) s → (i : ℕ) → tall (tree_at i ts) ≤ highest n
low_trees n h [] [] p a i = omega arith
low_trees n h [] (t ∷ ts) p a i = absurd p
low_trees n h (b ∷ s) [] p a i = absurd p
low_trees n h (b ∷ s) (t ∷ ts) p a zero = highest_tree n h t p.1 (omega (arith, ap length p.0, a.0))
low_trees n h (b ∷ s) (t ∷ ts) p a (suc i) = low_trees n h s ts p.2 a.1 i

pub low_behind : (n : ℕ) → n < 232 → (s : List Bucket) (ts : List Tree) → Planted s ts → AllByRecursion (λ (b : Bucket). size b ≤ n) s → (i : ℕ) → tall (tree_behind i ts) ≤ highest n
low_behind n h s ts p a zero = omega arith
low_behind n h s ts p a (suc i) = low_trees n h s ts p a i

at_most : (o : Option Refusal) (n m : ℕ) → n ≤ m → unbarred o n ≤ m
at_most None n m h = h
at_most (Some r) n m h = omega arith

module _ (w limit : ℕ) (big : 8 ≤ w) (small : w ≤ 60) (σ : State) (so : Sound w limit σ) where
  abbrev s : List Bucket
  s = σ.buckets

  abbrev ts : List Tree
  ts = σ.trees

  full : 5 * half w < 232
  full = omega (arith, half_within w big small)

  tree_low : (i : ℕ) → tall (tree_at i ts) ≤ highest (5 * half w)
  tree_low = low_trees (5 * half w) full s ts so.planted so.buckets.sized.high

  behind_low : (i : ℕ) → tall (tree_behind i ts) ≤ highest (5 * half w)
  behind_low = low_behind (5 * half w) full s ts so.planted so.buckets.sized.high

  pub visits_most : (c : Call) → visits w c s ts ≤ 2 * highest (5 * half w)
  unfolding visits
  visits_most (Add k v) = at_most (misfit w (Add k v)) _ _ (omega (arith, seen_low k (tree_at (place k s) ts), tree_low (place k s)))
  visits_most (Remove k) = at_most (misfit w (Remove k)) _ _ (omega (arith, seen_low k (tree_at (place k s) ts), tree_low (place k s)))
  visits_most (Find k) = at_most (misfit w (Find k)) _ _ (omega (arith, seen_low k (tree_at (place k s) ts), tree_low (place k s)))
  visits_most (Next k) =
      let i = place k s in
      let a = seen_low k (tree_at i ts) in
      let b = tree_low i in
      let c = low_way_low (tree_at (i + 1) ts) in
      let d = tree_low (i + 1) in
      at_most (misfit w (Next k)) _ _ (cond_both (filled (from k (here i s).items)) 0 (low_way (tree_at (i + 1) ts)) (λ n. seen k (tree_at i ts) + n ≤ 2 * highest (5 * half w)) (λ _. omega arith) (λ _. omega arith))
  visits_most (Last k) =
      let i = place k s in
      let a = seen_low k (tree_at i ts) in
      let b = tree_low i in
      let c = high_way_low (tree_behind i ts) in
      let d = behind_low i in
      at_most (misfit w (Last k)) _ _ (cond_both (filled (upto k (here i s).items)) 0 (high_way (tree_behind i ts)) (λ n. seen k (tree_at i ts) + n ≤ 2 * highest (5 * half w)) (λ _. omega arith) (λ _. omega arith))
  visits_most (Range a b) = at_most (misfit w (Range a b)) _ _ (omega arith)

  -- a call that changes nothing takes at most q frames
  frames_few : (c : Call) (places : List _) (a : Answered) (σ' : State) → Step w limit σ c places a σ' → changed c a.answer.outcome ≡ 0 → Few w a.answer
  frames_few c places a σ' t q =
      let g = agrees w limit big s so.buckets c places in
      let told : told_by a ≡ (step w limit c places s).reply.told = t.told ∙ sym g.told in
      let zero_change : changed c (step w limit c places s).reply.told.outcome ≡ 0 = ap (λ x. changed c x.outcome) (sym told) ∙ q in
      let none : rebuilt (step w limit c places s).reply.rebuilding ≡ 0 = ap rebuilt (g.still zero_change).0 in
      let fr : (step w limit c places s).reply.frames ≤ most w = omega (arith, g.few, ap (λ n. 4 * (w + 1) * n) none) in
      (omega (arith, t.frames), omega (arith, t.visits, visits_most c))

  pub short : (c : Call) (places : List _) (a : Answered) (σ' : State) → Step w limit σ c places a σ' → Short w c a.answer
  short (Add k v) ps a σ' t = tt
  short (Remove k) ps a σ' t = tt
  short (Find k) ps a σ' t = frames_few (Find k) ps a σ' t refl
  short (Next k) ps a σ' t = frames_few (Next k) ps a σ' t refl
  short (Last k) ps a σ' t = frames_few (Last k) ps a σ' t refl
  short (Range x y) ps a σ' t = tt

pub all_short : {w limit : ℕ} → 8 ≤ w → w ≤ 60 → {σ σ' : State} {cs : List Asked} {rs : List Answered} → Run w limit σ cs rs σ' → Sound w limit σ → AllShort w cs rs
all_short big small ended so = tt
all_short {w = w} {limit = limit} big small {σ = σ} (then {τ = τ} {c = c} {a = a} t r) so =
    (short w limit big small σ so c.call c.places a τ t, all_short big small r t.sound)
