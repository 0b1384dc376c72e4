-- A level search between two levels: what holds at each turn.
--
--   Going                                lo has the links, hi has no pair or is past the end, and the frames made are right so far
--   going_starts, going_up, going_down   at the root, and after a get that finds a pair or none
--   going_ends                           once lo and hi are neighbours, lo is the deepest level
use Rattle.std.proofs.Common.{◌≡◌, ℕ, ◌+◌, ◌-◌, ◌/◌, ◌^◌, ◌<◌, ◌≤◌, true, false, is_some, Some, None, refl, ap, ◌∙◌, inl, inr, arith, pow_pos}
use Rattle.std.proofs.lemmas.Nat.{div_below}
use Rattle.std.proofs.lemmas.Bool.{cases_Bool, both_ways}
use Rattle.dictionary.specs.Pairs.{Pairs}
use Rattle.levels.specs.Nodes.{node_at}
use Rattle.levels.specs.Counts.{gets}
use Rattle.levels.specs.Search.{held, Closed, Deepest}
use Rattle.levels.proofs.Gets.{middle, gets_done, gets_up, gets_down}

-- the node at level 0 is 1 for every key
pub node_root : (w k : ℕ) → k < 2 ^ w → node_at w k 0 ≡ 1
unfolding node_at
node_root w k h =
    let z : k / 2 ^ w < 1 = div_below k (2 ^ w) 1 (pow_pos w) (omega arith) in
    let e : w - 0 ≡ w = omega arith in
    rw e (omega arith)

pub record Going (f : Pairs) (w k lo hi frames low high : ℕ) : Type 0 where
  pub between : lo < hi
  pub within : hi ≤ w + 1
  pub links : f (node_at w k lo) ≡ Some (low, high)
  pub missing : hi ≤ w → held f w k hi ≡ false
  pub count : frames + gets (held f w k) lo hi ≡ 1 + gets (held f w k) 0 (w + 1)
  pub first : 1 ≤ frames
  pub few : frames + (hi - lo) ≤ w + 2

pub going_starts : (f : Pairs) (w k hi low high : ℕ) → k < 2 ^ w → hi ≡ w + 1 → f 1 ≡ Some (low, high) → Going f w k 0 hi 1 low high
going_starts f w k hi low high h e pair = record {
  between = omega arith;
  within = omega arith;
  links = ap f (node_root w k h) ∙ pair;
  missing = λ b. absurd (omega arith);
  count = rw e refl;
  first = omega arith;
  few = omega arith;
}

-- a search of a dictionary with the root's pair finds it
pub root_there : (f : Pairs) (w k : ℕ) → k < 2 ^ w → held f w k 0 ≡ true → f 1 ≡ None → ⊥
root_there f w k h there gone = both_ways (held f w k 0) (ap is_some (ap f (node_root w k h) ∙ gone)) there

module _ (f : Pairs) (w k lo hi frames low high : ℕ) (s : Going f w k lo hi frames low high) where
  pub going_up : (made mid l h : ℕ) → 1 < hi - lo → made ≡ frames + 1 → mid ≡ middle lo hi → f (node_at w k mid) ≡ Some (l, h) → Going f w k mid hi made l h
  going_up made mid l h wide one half e = let at = rw half at e in record {
    between = omega arith;
    within = s.within;
    links = e;
    missing = s.missing;
    count = rw half (omega (arith, gets_up (held f w k) lo hi wide (ap is_some at), s.count));
    first = omega arith;
    few = omega (arith, s.few);
  }

  pub going_down : (made mid : ℕ) → 1 < hi - lo → made ≡ frames + 1 → mid ≡ middle lo hi → f (node_at w k mid) ≡ None → Going f w k lo mid made low high
  going_down made mid wide one half e = let at = rw half at e in record {
    between = omega arith;
    within = omega (arith, s.within);
    links = s.links;
    missing = λ _. ap is_some e;
    count = rw half (omega (arith, gets_down (held f w k) lo hi wide (ap is_some at), s.count));
    first = omega arith;
    few = omega (arith, s.few);
  }

  pub going_ends : hi - lo ≤ 1 → Closed (held f w k) w → Deepest (held f w k) w lo × (frames ≡ 1 + gets (held f w k) 0 (w + 1))
  going_ends narrow closed = (
    record {
      within = omega (arith, s.between, s.within);
      pair = ap is_some s.links;
      none_below = λ j a b. elim (cases_Bool (held f w k j)) [
        | inl t ↦ absurd (both_ways (held f w k hi) (s.missing (omega (arith, s.between))) (closed hi j (omega (arith, s.between)) b t))
        | inr t ↦ t
      ];
    },
    omega (arith, gets_done (held f w k) lo hi narrow, s.count),
  )
