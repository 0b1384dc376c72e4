-- The levels at which a key's node has a pair are those at which a representative lies under it.
--
--   links_some        a node has a pair where some representative lies under it
--   held_present      so at each level of a key
--   present_root, links_root       the root has a pair
--   present_closed, links_closed   with a level, each one from the root down to it
--   frames_present    the frames of a search, on the representatives alone
use Rattle.std.proofs.Common.{◌≡◌, ℕ, ◌+◌, ◌^◌, ◌<◌, ◌≤◌, true, not, ◌||◌, List, [], ◌∷◌, map, is_some, sym, refl, ap, ◌∙◌, inl, inr, arith}
use Rattle.std.specs.List.{AllByRecursion}
use Rattle.std.proofs.lemmas.Bool.{cases_Bool, eq-eqb, eqb-true, or_left, or_right, or_cases, false≢true}
use Rattle.levels.specs.Nodes.{node_at, under, any, present}
use Rattle.levels.specs.Counts.{gets, searching}
use Rattle.levels.specs.Search.{held, Closed}
use Rattle.levels.proofs.Gets.{gets_same}
use Rattle.levels.proofs.Steps.{node_root}
use Rattle.links.specs.Orders.{ZeroFirst}
use Rattle.links.specs.Links.{lies, under_node, links}
use Rattle.links.proofs.Rows.{empty, outermost_some}
use Rattle.links.proofs.Nodes.{lies_node, node_up}

pub all_map : (P : ℕ → Type 0) (rep : ℕ → ℕ) (xs : List ℕ) → AllByRecursion (λ x. P (rep x)) xs → AllByRecursion P (map rep xs)
all_map P rep [] a = tt
all_map P rep (x ∷ xs) a = (a.0, all_map P rep xs a.1)

filled_any : (w : ℕ) (rep : ℕ → ℕ) (order : List ℕ) (n : ℕ) → not (empty (under_node w rep n order)) ≡ any (λ r. lies w r n) (map rep order)
filled_any w rep [] n = refl
filled_any w rep (x ∷ xs) n =
    elim (cases_Bool (lies w (rep x) n)) [ inl t ↦ rw t refl | inr t ↦ rw t (filled_any w rep xs n) ]

pub links_some : (w : ℕ) (rep : ℕ → ℕ) (order : List ℕ) (n : ℕ) → is_some (links w rep order n) ≡ any (λ r. lies w r n) (map rep order)
unfolding links
links_some w rep order n = outermost_some (under_node w rep n order) ∙ filled_any w rep order n

-- ---- on representatives
pub lies_present : (w k j : ℕ) (rs : List ℕ) → k < 2 ^ w → j ≤ w → AllByRecursion (λ r. r < 2 ^ w) rs → any (λ r. lies w r (node_at w k j)) rs ≡ present w rs k j
lies_present w k j [] kw jw a = refl
lies_present w k j (r ∷ rs) kw jw a =
    ap (λ b. b || any (λ r. lies w r (node_at w k j)) rs) (lies_node w r k j a.0 kw jw) ∙ ap (λ b. under w k j r || b) (lies_present w k j rs kw jw a.1)

pub present_closed : (w k : ℕ) (rs : List ℕ) → Closed (present w rs k) w
present_closed w k [] i j h l t = absurd (false≢true t)
present_closed w k (r ∷ rs) i j h l t =
    elim (or_cases (under w k j r) (present w rs k j) t) [
      | inl u ↦ or_left (under w k i r) (present w rs k i) (eq-eqb _ _ (node_up w r k i j h l (eqb-true _ _ u)))
      | inr u ↦ or_right (under w k i r) (present w rs k i) (present_closed w k rs i j h l u)
    ]

pub present_root : (w k r : ℕ) (rs : List ℕ) → k < 2 ^ w → r < 2 ^ w → present w (r ∷ rs) k 0 ≡ true
present_root w k r rs kw rw' = or_left (under w k 0 r) (present w rs k 0) (eq-eqb _ _ (node_root w r rw' ∙ sym (node_root w k kw)))

-- ---- on an order
module _ (w : ℕ) (rep : ℕ → ℕ) (order : List ℕ) (k : ℕ) (kw : k < 2 ^ w) (a : AllByRecursion (λ x. rep x < 2 ^ w) order) where
  pub held_present : (j : ℕ) → j ≤ w → held (links w rep order) w k j ≡ present w (map rep order) k j
  held_present j jw = links_some w rep order (node_at w k j) ∙ lies_present w k j (map rep order) kw jw (all_map (λ r. r < 2 ^ w) rep order a)

  pub links_closed : Closed (held (links w rep order) w k) w
  links_closed i j h l t = held_present i (omega arith) ∙ present_closed w k (map rep order) i j h l (sym (held_present j l) ∙ t)

  pub frames_present : 1 + gets (held (links w rep order) w k) 0 (w + 1) ≡ searching w (map rep order) k
  frames_present = ap (λ n. 1 + n) (gets_same (held (links w rep order) w k) (present w (map rep order) k) w held_present)

pub links_root : (w : ℕ) (rep : ℕ → ℕ) (order : List ℕ) (k : ℕ) → k < 2 ^ w → AllByRecursion (λ x. rep x < 2 ^ w) order → ZeroFirst rep order → held (links w rep order) w k 0 ≡ true
links_root w rep [] k kw a z = absurd z
links_root w rep (x ∷ xs) k kw a z = held_present w rep (x ∷ xs) k kw a 0 (omega arith) ∙ present_root w k (rep x) (map rep xs) kw a.0
