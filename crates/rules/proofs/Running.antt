-- Runs of calls: the laws, from the single calls.
use Rattle.std.proofs.Common.{ℕ, suc, ◌+◌, ◌-◌, ◌*◌, ◌^◌, ◌<◌, ◌≤◌, List, [], ◌∷◌, length, sym, refl, ◌∙◌, suc-mul, mul_comm, add-mul, mul-suc, arith, pow_pos}
use mathlib.Core.Bool.{false≢true}
use Rattle.std.proofs.lemmas.List.Sums.{sum_by-cons}
use Rattle.std.proofs.lemmas.Nat.{le-div}
use Rattle.std.proofs.ByRecursion.{All-weaker}
use Rattle.key.specs.Widths.{half, most, buckets_for}
use Rattle.entry.specs.declared.Entry.{Entry}
use Rattle.entry.specs.Lists.{Rising}
use Rattle.ordered.specs.Numbers.{rebuilt}
use Rattle.ordered.specs.Runs.{Asked, list_answers, list_after}
use Rattle.ordered.specs.Kinds.{Kind, KindLaws}
use Rattle.ordered.proofs.Agree.{lists_agree}
use Rattle.rules.specs.Buckets.{Bucket, new, size, flat, total, lowest, Rise, Sized, Sound}
use Rattle.rules.specs.Steps.{Reply, step}
use Rattle.rules.specs.Runs.{after, replies, changes, frames, rebuildings, saved}
use Rattle.rules.specs.Laws.{Keeps, BucketsKeep, RebuildingsRare, FramesBounded, CallsBounded, NewRuns, Listing, AsAList, AsOwnList}
use Rattle.rules.proofs.Potential.{lacks}
use Rattle.rules.proofs.Sizes.{Low, High}
use Rattle.rules.proofs.Spreads.{in_rise, rise_flat}
use Rattle.rules.proofs.Calls.{agrees}

pub new_sound : (w limit : ℕ) → Sound w limit new
new_sound w limit = record {
  first = refl;
  spread = (pow_pos w, (omega arith, tt));
  sized = record { some = omega arith; high = (omega arith, tt); low = λ e. (elim (false≢true e) [ ], tt) };
  few = omega arith;
}

-- ---- how many buckets stand, and how much they can have saved
low_total : (m : ℕ) (s : List Bucket) → Low m s → length s * m ≤ total s
low_total m [] h = omega arith
low_total m (b ∷ s) h = omega (arith, sum_by-cons size b s, low_total m s h.1, suc-mul (length s) m)

pub few_buckets : (w limit : ℕ) (s : List Bucket) → 8 ≤ w → Sound w limit s → length s ≤ buckets_for w limit
few_buckets w limit [] big so = omega arith
few_buckets w limit (b ∷ []) big so = omega arith
few_buckets w limit (b ∷ c ∷ s) big so =
    let t = b ∷ c ∷ s in
    omega (arith, le-div (length t) limit (half w) (omega arith) (omega (arith, low_total (half w) t (so.sized.low refl), so.few)))

-- with at most 512 entries, and m at least 4, there are at most 128
few_records : (w limit : ℕ) (s : List Bucket) → 8 ≤ w → Sound w limit s → limit ≤ 512 → length s ≤ 128
few_records w limit [] big so h = omega arith
few_records w limit (b ∷ []) big so h = omega arith
few_records w limit (b ∷ c ∷ s) big so h =
    let t = b ∷ c ∷ s in
    let l : Low 4 t = All-weaker (λ x. half w ≤ size x) (λ x. 4 ≤ size x) (λ x p. omega arith) t (so.sized.low refl) in
    omega (arith, low_total 4 t l, so.few)

lacks_most : (m : ℕ) (s : List Bucket) → Low m s → High m s → lacks m s ≤ m * length s
lacks_most m [] l h = omega arith
lacks_most m (b ∷ s) l h = omega (arith, sum_by-cons (λ (x : Bucket). (2 * m - 1 - size x) + (size x - 4 * m)) b s, mul-suc m (length s), lacks_most m s l.1 h.1)

pub saved_most : (m : ℕ) (s : List Bucket) → Sized m s → saved m s ≤ m * length s
saved_most m [] z = omega arith
saved_most m (b ∷ []) z = omega (arith, z.high.0)
saved_most m (b ∷ c ∷ s) z = lacks_most m (b ∷ c ∷ s) (z.low refl) z.high

rise_rising : (lo hi : ℕ) (xs : List Entry) → Rise lo hi xs → Rising xs
rise_rising lo hi [] h = tt
rise_rising lo hi (e ∷ es) h = (
  All-weaker (λ x. (suc e.key ≤ x.key) × (x.key < hi)) (λ x. e.key < x.key) (λ x p. omega arith) es (in_rise (suc e.key) hi es h.1),
  rise_rising (suc e.key) hi es h.1,
)

pub rising_flat : (w limit : ℕ) (s : List Bucket) → Sound w limit s → Rising (flat s)
rising_flat w limit s so = rise_rising (lowest (2 ^ w) s) (2 ^ w) (flat s) (rise_flat (2 ^ w) s so.spread)

pub keeps : (w limit : ℕ) (s : List Bucket) → 8 ≤ w → Sound w limit s → Keeps w limit s
keeps w limit s big so = record {
  sound = so;
  rising = rising_flat w limit s so;
  few = few_buckets w limit s big so;
  within = few_records w limit s big so;
}

-- ---- runs from sound buckets
module _ (w limit : ℕ) (big : 8 ≤ w) where
  sound_after : (cs : List Asked) (s : List Bucket) → Sound w limit s → Sound w limit (after w limit cs s)
  unfolding after
  sound_after [] s so = so
  sound_after (c ∷ cs) s so = sound_after cs (step w limit c.call c.places s).after (agrees w limit big s so c.call c.places).sound

  bought : (cs : List Asked) (s : List Bucket) → Sound w limit s →
      saved (half w) (after w limit cs s) + rebuildings (replies w limit cs s) * half w ≤ saved (half w) s + changes cs (replies w limit cs s)
  unfolding after replies changes
  bought [] s so = omega arith
  bought (c ∷ cs) s so =
      let a = agrees w limit big s so c.call c.places in
      let t = step w limit c.call c.places s in
      let ih = bought cs t.after a.sound in
      let rs = replies w limit cs t.after in
      let e = sum_by-cons (λ (x : Reply). rebuilt x.rebuilding) t.reply rs in
      let d = add-mul (rebuilt t.reply.rebuilding) (rebuildings rs) (half w) in
      rw e (omega (arith, a.saves))

  framed : (cs : List Asked) (s : List Bucket) → Sound w limit s →
      frames (replies w limit cs s) ≤ most w * length cs + 9 * (rebuildings (replies w limit cs s) * half w)
  unfolding replies
  framed [] s so = omega arith
  framed (c ∷ cs) s so =
      let a = agrees w limit big s so c.call c.places in
      let t = step w limit c.call c.places s in
      let rs = replies w limit cs t.after in
      let ih = framed cs t.after a.sound in
      let e = sum_by-cons (λ (x : Reply). rebuilt x.rebuilding) t.reply rs in
      let g = sum_by-cons (λ (x : Reply). x.frames) t.reply rs in
      let d = add-mul (rebuilt t.reply.rebuilding) (rebuildings rs) (half w) in
      let n = mul-suc (most w) (length cs) in
      rw (e, g) (omega (arith, a.frames))

  listing : (cs : List Asked) (s : List Bucket) → Sound w limit s → Listing w limit s cs
  unfolding replies after list_answers list_after
  listing [] s so = record { tells = refl; holds = refl }
  listing (c ∷ cs) s so =
      let a = agrees w limit big s so c.call c.places in
      let ih = listing cs (step w limit c.call c.places s).after a.sound in
      record { tells = rw (a.told, ih.tells, a.list) refl; holds = rw (ih.holds, a.list) refl }

-- ---- the laws
pub buckets_keep : BucketsKeep
buckets_keep = (new_sound, λ w limit big _ s so cs. keeps w limit (after w limit cs s) big (sound_after w limit big cs s so))

pub rebuildings_rare : RebuildingsRare
rebuildings_rare = (
  λ m. omega arith,
  λ w limit big _ s so cs.
      let b = bought w limit big cs s so in
      record { paid = omega (arith, mul_comm (half w) (rebuildings (replies w limit cs s))); most_saved = saved_most (half w) s so.sized },
)

pub frames_bounded : FramesBounded
frames_bounded w limit big _ s so cs = omega (arith, bought w limit big cs s so, framed w limit big cs s so)

pub calls_bounded : CallsBounded
calls_bounded w limit big _ s so c ps =
    let a = agrees w limit big s so c ps in
    record { frames_most = omega (arith, a.few); quiet = λ z. (a.still z).0; stands = a.stands }

pub new_runs : NewRuns
new_runs w limit big _ cs =
    let so = new_sound w limit in
    let b = bought w limit big cs new so in
    let f = framed w limit big cs new so in
    record { frames_most = omega arith; rebuildings_most = omega arith }

pub as_a_list : AsAList
as_a_list w limit big _ s so cs = listing w limit big cs s so

pub as_own_list : {K : Type 0} (kind : Kind K) → KindLaws kind → AsOwnList kind
as_own_list kind laws limit cs =
    let l = listing kind.width limit laws.wide.0 cs new (new_sound kind.width limit) in
    let a = lists_agree kind laws limit cs in
    record { tells = l.tells ∙ sym a.told; holds = l.holds ∙ sym a.held }
