-- A level search takes at most q frames, and a rebuilding at most nine times m.
use Rattle.std.proofs.Common.{ℕ, zero, suc, ◌+◌, ◌-◌, ◌*◌, ◌/◌, ◌^◌, ◌≤◌, Bool, leb, List, arith}
use Rattle.std.proofs.lemmas.Bool.{cond_both, leb-false}
use Rattle.key.specs.Widths.{half, log_up, most}
use Rattle.key.proofs.Logs.{doubled, rounded_up, nine_halves}
use Rattle.levels.specs.Nodes.{present}
use Rattle.levels.specs.Counts.{gets_by, searching, at_end, ends, turning}
use Rattle.ordered.specs.Numbers.{rebuilt}
use Rattle.rules.specs.Buckets.{Bucket, reps, here}
use Rattle.rules.specs.Changes.{Change, high_half, split_at, join_at, share_at, grown, shrunk}
use Rattle.rules.proofs.Ways.{grown_ways, shrunk_ways}

gets_le : (f k : ℕ) (there : ℕ → Bool) (lo hi : ℕ) → hi - lo ≤ 2 ^ k → gets_by f there lo hi ≤ k
unfolding gets_by
gets_le zero k there lo hi h = omega arith
gets_le (suc f) zero there lo hi h =
    cond_both (leb (hi - lo) 1) _ _ (λ x. x ≤ 0) (λ e. omega arith) (λ e. omega (arith, leb-false (hi - lo) 1 e))
gets_le (suc f) (suc k) there lo hi h =
    let p = doubled k in
    let up : gets_by f there ((lo + hi) / 2) hi ≤ k = gets_le f k there ((lo + hi) / 2) hi (omega arith) in
    let down : gets_by f there lo ((lo + hi) / 2) ≤ k = gets_le f k there lo ((lo + hi) / 2) (omega arith) in
    cond_both (leb (hi - lo) 1) _ _ (λ x. x ≤ suc k) (λ e. omega arith)
    (λ e. cond_both (there ((lo + hi) / 2)) _ _ (λ x. 1 + x ≤ suc k) (λ _. omega arith) (λ _. omega arith))

pub searching_most : (w : ℕ) (rs : List ℕ) (k : ℕ) → searching w rs k ≤ most w
searching_most w rs k =
    let h = (rounded_up (w + 1)).enough in
    omega (arith, gets_le (w + 1 - 0) (log_up (w + 1)) (present w rs k) 0 (w + 1) (omega arith))

ends_le : (w : ℕ) (rs : List ℕ) (r j : ℕ) → ends w rs r j ≤ j
unfolding ends
ends_le w rs r zero = omega arith
ends_le w rs r (suc j) =
    cond_both (at_end w rs r j) 1 0 (λ x. x + ends w rs r j ≤ suc j) (λ _. omega (arith, ends_le w rs r j)) (λ _. omega (arith, ends_le w rs r j))

pub turning_most : (w : ℕ) (rs : List ℕ) (r : ℕ) → turning w rs r ≤ 2 * (w + 1)
turning_most w rs r = omega (arith, ends_le w rs r (w + 1))

-- the frames of a change: none, or at most 4 for each level, which nine times m pay
pub record Paid (w : ℕ) (c : Change) : Type 0 where
  pub few : c.frames ≤ 4 * (w + 1) * rebuilt c.rebuilding
  pub paid : c.frames ≤ 9 * (rebuilt c.rebuilding * half w)

split_paid : (w i : ℕ) (s : List Bucket) → 8 ≤ w → Paid w (split_at w i s)
unfolding split_at
split_paid w i s h =
    let t = turning_most w (reps s) (high_half (here i s)).rep in
    let n = nine_halves w h in
    record { few = omega arith; paid = omega arith }

join_paid : (w l : ℕ) (s : List Bucket) → 8 ≤ w → Paid w (join_at w l s)
unfolding join_at
join_paid w l s h =
    let t = turning_most w (reps s) (here (l + 1) s).rep in
    let n = nine_halves w h in
    record { few = omega arith; paid = omega arith }

share_paid : (w l : ℕ) (s : List Bucket) → 8 ≤ w → Paid w (share_at w l s)
unfolding share_at join_at split_at
share_paid w l s h =
    let t = (join_at w l s).after in
    let a = turning_most w (reps s) (here (l + 1) s).rep in
    let b = turning_most w (reps t) (high_half (here l t)).rep in
    let n = nine_halves w h in
    record { few = omega arith; paid = omega arith }

pub grown_paid : (w i : ℕ) (s : List Bucket) → 8 ≤ w → Paid w (grown w i s)
grown_paid w i s h = grown_ways w i s (Paid w) (λ _. split_paid w i s h) (λ _. record { few = omega arith; paid = omega arith })

pub shrunk_paid : (w i : ℕ) (s : List Bucket) → 8 ≤ w → Paid w (shrunk w i s)
shrunk_paid w i s h =
    shrunk_ways w i s (Paid w) (λ _. record { few = omega arith; paid = omega arith })
    (λ _ _ _. join_paid w (i - 1) s h) (λ _ _ _. share_paid w (i - 1) s h)
