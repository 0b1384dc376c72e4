-- Each call on the buckets tells what the sorted list tells, keeps them sound, and is paid for.
use Rattle.std.proofs.Common.{◌≡◌, ℕ, zero, suc, ◌+◌, ◌*◌, ◌^◌, ◌<◌, ◌≤◌, true, false, eqb, ltb, leb, List, [], ◌∷◌, ◌++◌, length, take, drop, set, Some, None, Ok, Option, sym, refl, ap, ◌∙◌, subst, inl, inr, add-zero, add-one, arith, take-suc}
use Rattle.std.proofs.lemmas.List.{append_assoc, append-nil, set_split, drop_more, get_or-drop, get_or-take, length-take-le, length-set}
use Rattle.std.proofs.lemmas.List.Elements.{filter-append}
use Rattle.std.proofs.ByRecursion.{all_kept_by, All-get_or}
use Rattle.std.proofs.lemmas.Bool.{cases_lt, le-leb, or_left, false≢true}
use Rattle.key.specs.Widths.{half, most}
use Rattle.entry.specs.declared.Entry.{Entry}
use Rattle.entry.specs.Lists.{below, at, above, from, upto, put, without, between, filled, first, final}
use Rattle.levels.specs.Counts.{searching}
use Rattle.ordered.specs.declared.calls.Call.{Call}
use Rattle.ordered.specs.declared.calls.Call.TheVariants.{Add, Remove, Find, Next, Last, Range}
use Rattle.ordered.specs.declared.calls.Rebuilding.TheVariants.{Unchanged}
use Rattle.ordered.specs.declared.refusal.Refusal.{Refusal}
use Rattle.ordered.specs.declared.refusal.Refusal.TheVariants.{TooLarge, Full}
use Rattle.ordered.specs.Numbers.{rebuilt}
use Rattle.ordered.specs.Sorted.{Told, Listed, refused, answered, large, misfit, no_add, no_find, tells, keeps, unless, fitting, listed, changed}
use Rattle.rules.specs.Buckets.{Bucket, hollow, size, flat, reps, total, here, place, behind, lowest, Rise, Spread, Sound}
use Rattle.rules.specs.Changes.{Change, with_items, grown, shrunk}
use Rattle.rules.specs.Steps.{Step, reads, alters, added, removed, served, barred, step}
use Rattle.rules.specs.Runs.{saved}
use Rattle.rules.proofs.Frames.{searching_most, Paid, grown_paid, shrunk_paid}
use Rattle.rules.proofs.Ways.{Stands, reps_set, grown_stands, shrunk_stands}
use Rattle.rules.proofs.Potential.{saves}
use Rattle.rules.proofs.Sizes.{Kept, Low, low_beside, grown_kept, shrunk_kept}
use Rattle.rules.proofs.Spreads.{In, in_rise, rise_flat, rise_put, rise_without, put_size, without_size, below_all, below_none, above_all, above_none, at_low, at_high, from_all, from_none, upto_all, upto_none, lowest_append, spread_parts, spread_join, flat_append, total_flat, placed}
use Rattle.rules.proofs.Moves.{Alike, cut_at, grown_alike, shrunk_alike}

-- ---- a key between the entries A and C
module _ (k lo r n top : ℕ) (A B C : List Entry) (a : In lo r A) (c : In n top C) (p : r ≤ k) (q : k < n) where
  pub at_mid : at k (A ++ (B ++ C)) ≡ at k B
  at_mid = rw (filter-append (λ e. eqb e.key k) A (B ++ C), filter-append (λ e. eqb e.key k) B C, at_low lo r k A a p, at_high n top k C c q) (append-nil (at k B))

  pub below_mid : below k (A ++ (B ++ C)) ≡ A ++ below k B
  below_mid = rw (filter-append (λ e. ltb e.key k) A (B ++ C), filter-append (λ e. ltb e.key k) B C, below_all lo r k A a p, below_none n top k C c (omega arith), append-nil) refl

  pub above_mid : above k (A ++ (B ++ C)) ≡ above k B ++ C
  above_mid = rw (filter-append (λ e. ltb k e.key) A (B ++ C), filter-append (λ e. ltb k e.key) B C, above_none lo r k A a (omega arith), above_all n top k C c q) refl

  pub from_mid : from k (A ++ (B ++ C)) ≡ from k B ++ C
  from_mid = rw (filter-append (λ e. leb k e.key) A (B ++ C), filter-append (λ e. leb k e.key) B C, from_none lo r k A a p, from_all n top k C c (omega arith)) refl

  pub upto_mid : upto k (A ++ (B ++ C)) ≡ A ++ upto k B
  upto_mid = rw (filter-append (λ e. leb e.key k) A (B ++ C), filter-append (λ e. leb e.key k) B C, upto_all lo r k A a (omega arith), upto_none n top k C c q, append-nil) refl

  pub put_mid : (v : ℕ) → put (record { key = k; note = v }) (A ++ (B ++ C)) ≡ A ++ (put (record { key = k; note = v }) B ++ C)
  put_mid v = rw (below_mid, above_mid) (append_assoc A (below k B) _ ∙ ap (λ t. A ++ t) (sym (append_assoc (below k B) (record { key = k; note = v } ∷ above k B) C)))

  pub without_mid : without k (A ++ (B ++ C)) ≡ A ++ (without k B ++ C)
  without_mid = rw (below_mid, above_mid) (append_assoc A (below k B) _ ∙ ap (λ t. A ++ t) (sym (append_assoc (below k B) (above k B) C)))

  pub between_mid : (b : ℕ) → between k b (A ++ (B ++ C)) ≡ between k b (B ++ C)
  between_mid b = rw (
    filter-append (λ e. leb e.key b) A (B ++ C),
    filter-append (λ e. leb k e.key) (upto b A) (upto b (B ++ C)),
    from_none lo r k (upto b A) (all_kept_by (λ e. leb e.key b) (λ e. (lo ≤ e.key) × (e.key < r)) A a) p,
  ) refl

-- ---- the bucket of a key, and what stands beside it
pub record Spot (w k i : ℕ) (s : List Bucket) : Type 0 where
  pub within : i < length s
  pub low : (here i s).rep ≤ k
  pub high : k < lowest (2 ^ w) (drop (i + 1) s)
  pub left : Spread (here i s).rep (take i s)
  pub mine : Rise (here i s).rep (lowest (2 ^ w) (drop (i + 1) s)) (here i s).items
  pub right : Spread (2 ^ w) (drop (i + 1) s)
  pub parts : flat s ≡ flat (take i s) ++ ((here i s).items ++ flat (drop (i + 1) s))

pub spot : (w limit k : ℕ) (s : List Bucket) → Sound w limit s → k < 2 ^ w → Spot w k (place k s) s
spot w limit k s so h =
    let i = place k s in
    let p = placed (2 ^ w) k s so.first h in
    let e = cut_at s i p.within in
    let t = here i s ∷ drop (i + 1) s in
    let q = spread_parts (2 ^ w) (take i s) t (subst (Spread (2 ^ w)) e so.spread) in
    record {
      within = p.within;
      low = p.at_or_above;
      high = rw add-one p.below_next;
      left = q.0;
      mine = q.1.1.0;
      right = q.1.1.1;
      parts = ap flat e ∙ flat_append (take i s) t;
    }

module _ (w k i : ℕ) (s : List Bucket) (sp : Spot w k i s) where
  ahead : In (lowest (here i s).rep (take i s)) (here i s).rep (flat (take i s))
  ahead = in_rise _ _ (flat (take i s)) (rise_flat (here i s).rep (take i s) sp.left)

  beyond : In (lowest (2 ^ w) (drop (i + 1) s)) (2 ^ w) (flat (drop (i + 1) s))
  beyond = in_rise _ _ (flat (drop (i + 1) s)) (rise_flat (2 ^ w) (drop (i + 1) s) sp.right)

  pub at_spot : at k (flat s) ≡ at k (here i s).items
  at_spot = rw sp.parts (at_mid k _ _ _ _ (flat (take i s)) (here i s).items (flat (drop (i + 1) s)) ahead beyond sp.low sp.high)

  pub put_spot : (v : ℕ) → put (record { key = k; note = v }) (flat s) ≡ flat (take i s) ++ (put (record { key = k; note = v }) (here i s).items ++ flat (drop (i + 1) s))
  put_spot v = rw sp.parts (put_mid k _ _ _ _ (flat (take i s)) (here i s).items (flat (drop (i + 1) s)) ahead beyond sp.low sp.high v)

  pub without_spot : without k (flat s) ≡ flat (take i s) ++ (without k (here i s).items ++ flat (drop (i + 1) s))
  without_spot = rw sp.parts (without_mid k _ _ _ _ (flat (take i s)) (here i s).items (flat (drop (i + 1) s)) ahead beyond sp.low sp.high)

  pub from_spot : from k (flat s) ≡ from k (here i s).items ++ flat (drop (i + 1) s)
  from_spot = rw sp.parts (from_mid k _ _ _ _ (flat (take i s)) (here i s).items (flat (drop (i + 1) s)) ahead beyond sp.low sp.high)

  pub upto_spot : upto k (flat s) ≡ flat (take i s) ++ upto k (here i s).items
  upto_spot = rw sp.parts (upto_mid k _ _ _ _ (flat (take i s)) (here i s).items (flat (drop (i + 1) s)) ahead beyond sp.low sp.high)

  pub between_spot : (b : ℕ) → between k b (flat s) ≡ between k b ((here i s).items ++ flat (drop (i + 1) s))
  between_spot b = rw sp.parts (between_mid k _ _ _ _ (flat (take i s)) (here i s).items (flat (drop (i + 1) s)) ahead beyond sp.low sp.high b)

  pub set_is : (b : Bucket) → set s i b ≡ take i s ++ (b ∷ drop (i + 1) s)
  set_is b = rw (add-one i) (set_split s i b sp.within)

  -- the bucket's entries changed
  pub changed_items : (xs : List Entry) → Rise (here i s).rep (lowest (2 ^ w) (drop (i + 1) s)) xs →
      let t = set s i (with_items (here i s) xs) in
      Spread (2 ^ w) t × (lowest (2 ^ w) t ≡ lowest (2 ^ w) s) × (flat t ≡ flat (take i s) ++ (xs ++ flat (drop (i + 1) s)))
  changed_items xs h =
      let b = with_items (here i s) xs in
      let R = drop (i + 1) s in
      let e = set_is b in
      let c = cut_at s i sp.within in
      let up : (here i s).rep < lowest (2 ^ w) R = omega (arith, sp.low, sp.high) in (
        rw e (spread_join (2 ^ w) (take i s) (b ∷ R) sp.left (up, (h, sp.right))),
        ap (lowest (2 ^ w)) e ∙ (lowest_append (2 ^ w) (take i s) (b ∷ R) ∙ (sym (lowest_append (2 ^ w) (take i s) (here i s ∷ R)) ∙ sym (ap (lowest (2 ^ w)) c))),
        ap flat e ∙ flat_append (take i s) (b ∷ R),
      )

-- ---- next and last go on to one neighbouring bucket
filled_long : {A : Type 0} (xs : List A) → 1 ≤ length xs → filled xs ≡ true
filled_long [] h = absurd (omega arith)
filled_long (x ∷ xs) h = refl

front_same : (X Y Z : List Entry) → filled Y ≡ true → (first (X ++ (Y ++ Z)) ≡ first (X ++ Y)) × (filled (X ++ (Y ++ Z)) ≡ filled (X ++ Y))
front_same [] [] Z h = absurd (false≢true h)
front_same [] (y ∷ Y) Z h = (refl, refl)
front_same (x ∷ X) Y Z h = (refl, refl)

next_same : (m : ℕ) → 1 ≤ m → (X : List Entry) (s : List Bucket) → Low m s → (first (X ++ flat s) ≡ first (X ++ (here 0 s).items)) × (filled (X ++ flat s) ≡ filled (X ++ (here 0 s).items))
next_same m p X [] h = (refl, refl)
next_same m p X (b ∷ s) h = front_same X b.items (flat s) (filled_long b.items (omega arith))

filled_more : {A : Type 0} (X Y : List A) → filled Y ≡ true → filled (X ++ Y) ≡ true
filled_more [] Y h = h
filled_more (x ∷ X) Y h = refl

final_more : (X Y : List Entry) → filled Y ≡ true → final (X ++ Y) ≡ final Y
final_more [] Y h = refl
final_more (x ∷ []) [] h = absurd (false≢true h)
final_more (x ∷ []) (y ∷ Y) h = refl
final_more (x ∷ z ∷ X) Y h = final_more (z ∷ X) Y h

filled_front : {A : Type 0} (X Y : List A) → filled X ≡ true → filled (X ++ Y) ≡ true
filled_front [] Y h = absurd (false≢true h)
filled_front (x ∷ X) Y h = refl

last_same : (m : ℕ) → 1 ≤ m → (i : ℕ) (s : List Bucket) (U : List Entry) → i < length s → Low m (take i s) →
    (final (flat (take i s) ++ U) ≡ final (behind i s ++ U)) × (filled (flat (take i s) ++ U) ≡ filled (behind i s ++ U))
last_same m p zero s U h l = (refl, refl)
last_same m p (suc j) s U h l =
    let b = here j s in
    let e : take (suc j) s ≡ take j s ++ (b ∷ []) = take-suc s j hollow (omega arith) in
    let z : m ≤ size b = rw (get_or-take (suc j) s j hollow (omega arith)) at (All-get_or (λ x. m ≤ size x) (take (suc j) s) j hollow (rw (length-take-le (suc j) s (omega arith)) (omega arith)) l) in
    let u : filled (b.items ++ U) ≡ true = filled_front b.items U (filled_long b.items (omega arith)) in
    let a : flat (take (suc j) s) ++ U ≡ flat (take j s) ++ (b.items ++ U) =
    ap (λ t. flat t ++ U) e ∙ (ap (λ t. t ++ U) (flat_append (take j s) (b ∷ []) ∙ ap (λ t. flat (take j s) ++ t) (append-nil b.items)) ∙ append_assoc (flat (take j s)) b.items U) in
    (rw a (final_more (flat (take j s)) (b.items ++ U) u), rw a (filled_more (flat (take j s)) (b.items ++ U) u ∙ sym u))

-- ---- no refusal, and what that says
none_some : {X : Type 0} (x : X) → None ≡ Some x → ⊥
none_some x e = let z : ◌≡◌ {A = ℕ} 0 1 = cc in omega arith

large_none : (w k : ℕ) → large w k ≡ None → k < 2 ^ w
large_none w k e = elim (cases_lt k (2 ^ w)) [ inl h ↦ h | inr h ↦ absurd (none_some TooLarge (sym e ∙ (rw (le-leb (2 ^ w) k h) refl))) ]

range_none : (w a b : ℕ) → misfit w (Range a b) ≡ None → a < 2 ^ w
range_none w a b e = elim (cases_lt a (2 ^ w)) [
  | inl h ↦ h
  | inr h ↦ absurd (none_some TooLarge (sym e ∙ (rw (or_left (leb (2 ^ w) a) (leb (2 ^ w) b) (le-leb (2 ^ w) a h)) refl)))
]

no_add_none : (limit : ℕ) (xs : List Entry) (n : ℕ) → no_add limit xs n ≡ None → (filled xs ≡ false) × (n < limit)
no_add_none limit (x ∷ xs) n e = absurd (none_some _ (sym e))
no_add_none limit [] n e = (refl, elim (cases_lt n limit) [ inl h ↦ h | inr h ↦ absurd (none_some Full (sym e ∙ (rw (le-leb limit n h) refl))) ])

no_find_none : (xs : List Entry) → no_find xs ≡ None → filled xs ≡ true
no_find_none (x ∷ xs) e = refl
no_find_none [] e = absurd (none_some _ (sym e))

-- ---- what a call does: t against the sorted list's l
pub record Agrees (w limit : ℕ) (c : Call) (s : List Bucket) (l : Listed Entry) (t : Step) : Type 0 where
  pub told : t.reply.told ≡ l.told
  pub list : flat t.after ≡ l.after
  pub sound : Sound w limit t.after
  pub saves : saved (half w) t.after + rebuilt t.reply.rebuilding * half w ≤ saved (half w) s + changed c t.reply.told.outcome
  pub frames : t.reply.frames ≤ most w + 9 * (rebuilt t.reply.rebuilding * half w)
  pub few : t.reply.frames ≤ most w + 4 * (w + 1) * rebuilt t.reply.rebuilding
  pub still : changed c t.reply.told.outcome ≡ 0 → (t.reply.rebuilding ≡ Unchanged) × (t.after ≡ s)
  pub stands : t.reply.rebuilding ≡ Unchanged → reps t.after ≡ reps s

module _ (w limit : ℕ) (big : 8 ≤ w) (s : List Bucket) (so : Sound w limit s) where
  reads_agrees : (c : Call) (t : Told) (f : ℕ) (l : Listed Entry) → f ≤ most w → t ≡ l.told → flat s ≡ l.after → Agrees w limit c s l (reads t f s)
  reads_agrees c t f l h told list = record {
    told = told;
    list = list;
    sound = so;
    saves = omega arith;
    frames = omega arith;
    few = omega arith;
    still = λ _. (refl, refl);
    stands = λ _. refl;
  }

  accepted_agrees : (c : Call) (e : Entry) (ps new : List Entry) (t : List Bucket) (f : ℕ) (ch : Change) → changed c (Ok e) ≡ 1 → f ≤ most w → Paid w ch → Kept (half w) t ch →
      Alike (2 ^ w) t ch.after → lowest (2 ^ w) t ≡ 0 → flat t ≡ new → saved (half w) t ≤ saved (half w) s + 1 → length new ≤ limit → Stands ch t → reps t ≡ reps s →
      Agrees w limit c s (record { told = answered e ps; after = new }) (alters (answered e ps) f ch)
  accepted_agrees c e ps new t f ch one h paid kept alike low is up few stands same = record {
    told = refl;
    list = alike.same ∙ is;
    sound = record {
      first = alike.first ∙ low;
      spread = alike.spread;
      sized = kept.sized;
      few = rw (total_flat ch.after, alike.same, is) few;
    };
    saves = omega (arith, kept.spends, one);
    frames = omega (arith, paid.paid);
    few = omega (arith, paid.few);
    still = λ z. absurd (omega arith);
    stands = λ z. stands z ∙ same;
  }

  -- ---- add and remove
  add_done : (n : Option Refusal) (k v i f : ℕ) (ps : List Entry) → f ≤ most w →
      (n ≡ None → Spot w k i s × (filled (at k (here i s).items) ≡ false) × (total s < limit)) →
      let e : Entry = record { key = k; note = v } in
      Agrees w limit (Add k v) s (record { told = tells n e ps; after = keeps n (put e (flat s)) (flat s) }) (added w n e i f ps s)
  unfolding added
  add_done None k v i f ps h g =
      let sp = (g refl).0 in
      let un = (g refl).1 in
      let e : Entry = record { key = k; note = v } in
      let b = with_items (here i s) (put e (here i s).items) in
      let t = set s i b in
      let ch = changed_items w k i s sp (put e (here i s).items) (rise_put (here i s).rep (lowest (2 ^ w) (drop (i + 1) s)) e (here i s).items sp.low sp.high sp.mine) in
      let more : size b ≡ size (here i s) + 1 = put_size e (here i s).items un in
      let all : length (put e (flat s)) ≡ length (flat s) + 1 = put_size e (flat s) (rw (at_spot w k i s sp) un) in
      accepted_agrees (Add k v) e ps (put e (flat s)) t f (grown w i t) refl h (grown_paid w i t big)
      (grown_kept w big s i b sp.within so.sized more)
      (grown_alike w (2 ^ w) t i big (rw length-set sp.within) ch.0)
      (ch.1 ∙ so.first) (ch.2 ∙ sym (put_spot w k i s sp v))
      (saves (half w) s i b sp.within (omega arith) (omega arith))
      (omega (arith, total_flat s, (g refl).2)) (grown_stands w i t) (reps_set s i (put e (here i s).items))
  add_done (Some r) k v i f ps h g = reads_agrees (Add k v) (refused r ps) f _ h refl refl

  remove_done : (n : Option Refusal) (k i f : ℕ) (ps : List Entry) → f ≤ most w →
      (n ≡ None → Spot w k i s × (filled (at k (here i s).items) ≡ true)) →
      Agrees w limit (Remove k) s (record { told = tells n (first (at k (here i s).items)) ps; after = keeps n (without k (flat s)) (flat s) }) (removed w n k i f ps s)
  unfolding removed
  remove_done None k i f ps h g =
      let sp = (g refl).0 in
      let un = (g refl).1 in
      let b = with_items (here i s) (without k (here i s).items) in
      let t = set s i b in
      let lo = (here i s).rep in
      let hi = lowest (2 ^ w) (drop (i + 1) s) in
      let ch = changed_items w k i s sp (without k (here i s).items) (rise_without lo hi k (here i s).items sp.low sp.high sp.mine) in
      let less : size b + 1 ≡ size (here i s) = without_size lo hi k (here i s).items sp.mine un in
      let all : length (without k (flat s)) + 1 ≡ length (flat s) = without_size _ _ k (flat s) (rise_flat (2 ^ w) s so.spread) (rw (at_spot w k i s sp) un) in
      accepted_agrees (Remove k) (first (at k (here i s).items)) ps (without k (flat s)) t f (shrunk w i t) refl h (shrunk_paid w i t big)
      (shrunk_kept w big s i b sp.within so.sized less)
      (shrunk_alike w (2 ^ w) t i big (rw length-set sp.within) ch.0)
      (ch.1 ∙ so.first) (ch.2 ∙ sym (without_spot w k i s sp))
      (saves (half w) s i b sp.within (omega arith) (omega arith))
      (omega (arith, total_flat s, so.few)) (shrunk_stands w i t) (reps_set s i (without k (here i s).items))
  remove_done (Some r) k i f ps h g = reads_agrees (Remove k) (refused r ps) f _ h refl refl

  -- ---- the calls whose keys fit
  module _ (k : ℕ) (h : k < 2 ^ w) where
    sp : Spot w k (place k s) s
    sp = spot w limit k s so h

    add_agrees : (v : ℕ) (ps : List Entry) → Agrees w limit (Add k v) s (fitting limit (Add k v) ps (flat s)) (served w limit (Add k v) ps s)
    unfolding served
    add_agrees v ps =
        let i = place k s in
        let found = at k (here i s).items in
        rw (at_spot w k i s sp, ← total_flat s)
        (add_done (no_add limit found (total s)) k v i (searching w (reps s) k) ps (searching_most w (reps s) k) (λ z. let q = no_add_none limit found (total s) z in (sp, q.0, q.1)))

    remove_agrees : (ps : List Entry) → Agrees w limit (Remove k) s (fitting limit (Remove k) ps (flat s)) (served w limit (Remove k) ps s)
    unfolding served
    remove_agrees ps =
        let i = place k s in
        let found = at k (here i s).items in
        rw (at_spot w k i s sp)
        (remove_done (no_find found) k i (searching w (reps s) k) ps (searching_most w (reps s) k) (λ z. (sp, no_find_none found z)))

    find_agrees : (ps : List Entry) → Agrees w limit (Find k) s (fitting limit (Find k) ps (flat s)) (served w limit (Find k) ps s)
    unfolding served
    find_agrees ps = reads_agrees (Find k) _ (searching w (reps s) k) _ (searching_most w (reps s) k) (rw (at_spot w k (place k s) s sp) refl) refl

    next_agrees : (ps : List Entry) → Agrees w limit (Next k) s (fitting limit (Next k) ps (flat s)) (served w limit (Next k) ps s)
    unfolding served
    next_agrees ps =
        let i = place k s in
        let D = drop (i + 1) s in
        let X = from k (here i s).items in
        let g : here 0 D ≡ here (i + 1) s = get_or-drop (i + 1) s 0 hollow ∙ ap (λ n. here n s) (add-zero (i + 1)) in
        let f = next_same (half w) (omega arith) X D (low_beside (half w) s i sp.within so.sized.low).1 in
        reads_agrees (Next k) _ (searching w (reps s) k) _ (searching_most w (reps s) k) (rw (from_spot w k i s sp, f.0, f.1, g) refl) refl

    last_agrees : (ps : List Entry) → Agrees w limit (Last k) s (fitting limit (Last k) ps (flat s)) (served w limit (Last k) ps s)
    unfolding served
    last_agrees ps =
        let i = place k s in
        let f = last_same (half w) (omega arith) i s (upto k (here i s).items) sp.within (low_beside (half w) s i sp.within so.sized.low).0 in
        reads_agrees (Last k) _ (searching w (reps s) k) _ (searching_most w (reps s) k) (rw (upto_spot w k i s sp, f.0, f.1) refl) refl

    range_agrees : (b : ℕ) (ps : List Entry) → Agrees w limit (Range k b) s (fitting limit (Range k b) ps (flat s)) (served w limit (Range k b) ps s)
    unfolding served
    range_agrees b ps =
        let i = place k s in
        let e : flat (drop i s) ≡ (here i s).items ++ flat (drop (i + 1) s) = ap flat (drop_more s i hollow sp.within) in
        reads_agrees (Range k b) _ (searching w (reps s) k) _ (searching_most w (reps s) k) (rw (e, between_spot w k i s sp b) refl) refl

  served_agrees : (c : Call) (ps : List Entry) → misfit w c ≡ None → Agrees w limit c s (fitting limit c ps (flat s)) (served w limit c ps s)
  served_agrees (Add k v) ps e = add_agrees k (large_none w k e) v ps
  served_agrees (Remove k) ps e = remove_agrees k (large_none w k e) ps
  served_agrees (Find k) ps e = find_agrees k (large_none w k e) ps
  served_agrees (Next k) ps e = next_agrees k (large_none w k e) ps
  served_agrees (Last k) ps e = last_agrees k (large_none w k e) ps
  served_agrees (Range a b) ps e = range_agrees a (range_none w a b e) b ps

  by_misfit : (c : Call) (ps : List Entry) (no : Option Refusal) → misfit w c ≡ no →
      Agrees w limit c s (unless no ps (flat s) (fitting limit c ps (flat s))) (barred no ps s (served w limit c ps s))
  by_misfit c ps None e = served_agrees c ps e
  by_misfit c ps (Some r) e = reads_agrees c (refused r ps) 0 _ (omega arith) refl refl

  pub agrees : (c : Call) (ps : List Entry) → Agrees w limit c s (listed w limit c ps (flat s)) (step w limit c ps s)
  unfolding listed step
  agrees c ps = by_misfit c ps (misfit w c) refl
