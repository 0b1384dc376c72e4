-- What a drop leaves in each slot, while its followers move back.
use Rattle.std.proofs.Common.{rules, ◌≡◌, ℕ, ◌+◌, ◌%◌, ◌<◌, ◌≤◌, ◌≢◌, List, length, get_or, set, ap, ◌∙◌, ⊎_elim, arith, length-set}
use Rattle.std.proofs.lemmas.List.{get_or-set_same, get_or-set_other}
use Rattle.std.proofs.lemmas.Bool.{cases_lt}
use Rattle.slots.specs.declared.Slot.{Slot}
use Rattle.slots.specs.Slots.{blank}
use Rattle.robin_hood.specs.Homes.{rank_of}
use Rattle.robin_hood.specs.Layout.{rank_at, Shifted, Closes}

abbrev slot_at : List Slot → ℕ → Slot
slot_at xs i = get_or xs i blank

-- a slot that reads the same has the same rank
rank_like : (xs ys : List Slot) (i : ℕ) → slot_at ys i ≡ slot_at xs i → rank_at ys i ≡ rank_at xs i
rank_like xs ys i e = ap (λ (s : Slot). rank_of i s.node) e

pub shift_start : (xs : List Slot) (from : ℕ) → from < length xs → length xs ≡ 1024 → Shifted (set xs from blank) from 0 (set xs from blank)
shift_start xs from within long = search rules

module _ {xs : List Slot} {from k : ℕ} {ys : List Slot} (s : Shifted xs from k ys) (few : k < 1023) where
  abbrev p : ℕ
  p = (from + k) % 1024

  abbrev n : ℕ
  n = (from + k + 1) % 1024

  next : slot_at ys n ≡ slot_at xs n
  next = search rules

  -- the follower moves back
  module _ (long : length ys ≡ 1024) (high : 1 < rank_at ys n) where
    abbrev zs : List Slot
    zs = set (set ys n blank) p (slot_at ys n)

    else : (i : ℕ) → i ≢ p → i ≢ n → slot_at zs i ≡ slot_at ys i
    else i np nn = search rules

    pub shift_move : Shifted xs from (k + 1) zs
    shift_move =
        let e : (from + (k + 1)) % 1024 ≡ n = omega arith in
        let np : n ≢ p = omega arith in
        let p_within : p < length (set ys n blank) = rw length-set (omega arith) in
        record {
          away = λ j l.
              ⊎_elim (λ (b : j < k). s.away j b)
              (λ (b : k ≤ j). let q : j ≡ k = omega arith in rw q (omega (arith, rank_like xs ys n next)))
              (cases_lt j k);
          moved = λ j l.
              ⊎_elim
              (λ (b : j < k). else ((from + j) % 1024) (omega arith) (omega arith) ∙ s.moved j b)
              (λ (b : k ≤ j). let q : j ≡ k = omega arith in rw q (get_or-set_same (set ys n blank) p (slot_at ys n) blank p_within ∙ next))
              (cases_lt j k);
          emptied = rw e (get_or-set_other (set ys n blank) p n (slot_at ys n) blank np ∙ get_or-set_same ys n blank blank (omega arith));
          kept = λ j l. else ((from + j) % 1024) (omega (arith, l.0, l.1)) (omega (arith, l.0, l.1)) ∙ s.kept j (omega (arith, l.0), l.1);
        }

-- the row before the pair was taken out
module _ (xs : List Slot) {from k : ℕ} {ys : List Slot} (within : from < 1024) (few : k < 1023) (s : Shifted (set xs from blank) from k ys) where
  same : (i : ℕ) → i ≢ from → slot_at (set xs from blank) i ≡ slot_at xs i
  same i ne = get_or-set_other xs from i blank blank ne

  -- the follower stays
  pub shift_end : rank_at ys ((from + k + 1) % 1024) ≤ 1 → Closes xs from ys
  shift_end low =
      let stay : slot_at ys ((from + k + 1) % 1024) ≡ slot_at xs ((from + k + 1) % 1024) = next s few ∙ same ((from + k + 1) % 1024) (omega arith) in
      record {
        followers = k;
        few = few;
        shifted = record {
          away = λ j l. omega (arith, s.away j l, rank_like xs (set xs from blank) ((from + j + 1) % 1024) (same ((from + j + 1) % 1024) (omega arith)));
          moved = λ j l. s.moved j l ∙ same ((from + j + 1) % 1024) (omega arith);
          emptied = s.emptied;
          kept = λ j l. s.kept j l ∙ same ((from + j) % 1024) (omega (arith, l.0, l.1));
        };
        end = omega (arith, rank_like xs ys ((from + k + 1) % 1024) stay);
      }
