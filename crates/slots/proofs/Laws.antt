-- What a put or a drop answers for a dictionary.
use Rattle.std.proofs.Common.{rules, ◌≡◌, ℕ, ◌<◌, ◌≤◌, true, false, is_some, Some, None, Option, ap, arith}
use Rattle.std.proofs.lemmas.Bool.Decides.{nat_tests}
use Rattle.dictionary.specs.Pairs.{Links, Pairs, with_pair, accepts}

-- the pair of a node is put as it is
pub with_same : (f : Pairs) (n : ℕ) (v : Option Links) → f n ≡ v → f ≡ with_pair f n v
with_same f n v e = search rules

module _ (f : Pairs) (count capacity n : ℕ) where
  pub accepts_zero : n ≡ 0 → accepts f count capacity n ≡ false
  accepts_zero z = grind (arith, nat_tests)

  pub accepts_held : {v : Links} → 0 < n → f n ≡ Some v → accepts f count capacity n ≡ true
  accepts_held pos e = grind (arith, nat_tests, ap is_some e)

  pub accepts_room : 0 < n → count < capacity → accepts f count capacity n ≡ true
  accepts_room pos h = grind (arith, nat_tests)

  pub accepts_full : f n ≡ None → capacity ≤ count → accepts f count capacity n ≡ false
  accepts_full e h = grind (arith, nat_tests, ap is_some e)
