-- A drop from the overflow row, whose last pair moves into the hole.
use Rattle.std.proofs.Common.{rules, ◌≡◌, ℕ, ◌+◌, ◌-◌, ◌<◌, ◌≤◌, ◌≢◌, List, length, get_or, set, None, sym, refl, ap, ◌∙◌, subst, ⊎_elim, arith, length-set}
use Rattle.std.proofs.lemmas.List.{get_or-set_other, set-set, set_comm}
use Rattle.std.proofs.lemmas.Bool.{cases_lt, cases_eq}
use Rattle.dictionary.specs.Pairs.{with_pair}
use Rattle.slots.specs.declared.Slot.{Slot}
use Rattle.slots.specs.Slots.{blank, node_at, pairs_of, held, Apart}
use Rattle.slots.proofs.Rows.{node_same, node_other, taken_within, out_apart, out_pairs}
use Rattle.slots.proofs.Counts.{held_less}
use Rattle.slots.proofs.Moves.{moved, move_apart, move_held, move_pairs}
use Rattle.cuckoo.specs.Layout.{Placed, Packed}

-- a row zs without the pair in the slot at of the row xs
pub record Gone (xs : List Slot) (at : ℕ) (zs : List Slot) : Type 0 where
  pub apart : Apart zs
  pub count : held zs + 1 ≡ held xs
  pub pairs : (m : ℕ) → pairs_of zs m ≡ with_pair (pairs_of xs) (node_at xs at) None m

module _ (xs : List Slot) (at : ℕ) (within : at < length xs) (apart : Apart xs) (taken : 0 < node_at xs at) where
  pub emptied : Gone xs at (set xs at blank)
  emptied = record { apart = out_apart xs at within apart; count = held_less xs at blank within taken refl; pairs = out_pairs xs at within apart taken }

  -- the last slot l is taken
  module _ (l : ℕ) (l_within : l < length xs) (l_taken : 0 < node_at xs l) where
    abbrev filled : List Slot
    filled = set (set xs at (get_or xs l blank)) l blank

    -- the last pair is the one dropped
    same : at ≡ l → set xs at blank ≡ filled
    same e = rw e (sym (set-set xs l (get_or xs l blank) blank))

    -- another pair moves into the hole
    other : at ≢ l → moved (set xs at blank) l at ≡ filled
    other ne =
        let f : Slot = get_or xs l blank in
        let ne' : l ≢ at = λ e. ne (sym e) in
        ap (λ s. set (set (set xs at blank) l blank) at s) (get_or-set_other xs at l blank blank ne')
        ∙ ap (λ r. set r at f) (set_comm xs at l blank blank ne)
        ∙ set-set (set xs l blank) at blank f
        ∙ set_comm xs l at blank f ne'

    moves : at ≢ l → Gone xs at (moved (set xs at blank) l at)
    moves ne =
        let ys : List Slot = set xs at blank in
        let ne' : l ≢ at = λ e. ne (sym e) in
        let l_there : l < length ys = rw length-set l_within in
        let at_there : at < length ys = rw length-set within in
        let hole : node_at ys at ≡ 0 = node_same xs at blank within in
        let l_some : 0 < node_at ys l = rw (node_other xs at blank within l ne') l_taken in
        let ys_apart : Apart ys = emptied.apart in
        record {
          apart = move_apart ys l at l_there at_there ne hole l_some ys_apart;
          count = omega (arith, move_held ys l at l_there at_there ne hole l_some ys_apart, emptied.count);
          pairs = λ m. move_pairs ys l at l_there at_there ne hole l_some ys_apart m ∙ emptied.pairs m;
        }

    pub filled_gone : Gone xs at filled
    filled_gone =
        ⊎_elim (λ (e : at ≡ l). subst (Gone xs at) (same e) emptied) (λ (ne : at ≡ l → ⊥). subst (Gone xs at) (other ne) (moves ne))
        (cases_eq at l)

    pub filled_placed : 1024 ≤ at → Placed xs → Placed filled
    filled_placed high placed = search rules

-- the slots of a packed overflow row
module _ (xs : List Slot) (n at : ℕ) (packed : Packed xs n) (high : 1024 ≤ at) (taken : 0 < node_at xs at) where
  pub at_below : at < 1024 + n
  at_below =
      ⊎_elim (λ (a : at < 1024 + n). a)
      (λ (b : 1024 + n ≤ at).
      let e : 1024 + (at - 1024) ≡ at = omega arith in
      let z : node_at xs at ≡ 0 = rw e at (packed.1 (at - 1024) (omega arith)) in
      absurd (omega arith))
      (cases_lt at (1024 + n))

  pub last_taken : 0 < node_at xs (1024 + n - 1)
  last_taken =
      let e : 1024 + (n - 1) ≡ 1024 + n - 1 = omega (arith, at_below) in
      rw e at (packed.0 (n - 1) (omega (arith, at_below)))

  pub filled_packed : Packed (set (set xs at (get_or xs (1024 + n - 1) blank)) (1024 + n - 1) blank) (n - 1)
  filled_packed =
      let l : ℕ = 1024 + n - 1 in
      let f : Slot = get_or xs l blank in
      let within : at < length xs = taken_within xs at taken in
      let there : l < length (set xs at f) = rw length-set (taken_within xs l last_taken) in (
        λ k h.
            let off = node_other (set xs at f) l blank there (1024 + k) (omega arith) in
            ⊎_elim
            (λ (a : 1024 + k ≡ at). omega (arith, off, ap (node_at (set xs at f)) a, node_same xs at f within, last_taken))
            (λ (na : 1024 + k ≡ at → ⊥). omega (arith, off, node_other xs at f within (1024 + k) na, packed.0 k (omega arith)))
            (cases_eq (1024 + k) at),
        λ k h.
            ⊎_elim
            (λ (a : 1024 + k ≡ l). ap (node_at (set (set xs at f) l blank)) a ∙ node_same (set xs at f) l blank there)
            (λ (na : 1024 + k ≡ l → ⊥).
            let out : n ≤ k = omega (arith, at_below) in
            node_other (set xs at f) l blank there (1024 + k) na ∙ node_other xs at f within (1024 + k) (omega (arith, at_below)) ∙ packed.1 k out)
            (cases_eq (1024 + k) l),
      )
