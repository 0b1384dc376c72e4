-- Nodes at the levels, and what lies under them.
--
--   node_low, node_pos, node_high   a node of level j is from 2^j to below 2^(j + 1)
--   node_up                         keys that share a node share each one above
--   node_between                    a key between two under a node is under it too
--   below_same                      a bound in other words
--   less_by                         a key whose first bits are less is less
--   passed_low                      a number from 2^m on is no node of a level below m
--   lies_node, lies_own             under a node of a level lie the keys with that node at that level
use Rattle.std.proofs.Common.{◌≡◌, ℕ, zero, suc, ◌+◌, ◌-◌, ◌/◌, ◌^◌, ◌<◌, ◌≤◌, Bool, true, false, ◌||◌, eqb, sym, refl, ap, ◌∙◌, subst, inl, inr, div-lt_iff_lt-mul, arith, pow_pos, pow_mono}
use Rattle.std.proofs.lemmas.Nat.{shr_below, shr-shr, shr_split}
use Rattle.std.proofs.lemmas.Bool.{cases_eq, cases_order, eq-eqb, ne_eqb, or_from}
use Rattle.key.proofs.Logs.{doubled}
use Rattle.levels.specs.Nodes.{node_at, under}
use Rattle.links.specs.Links.{passed, lies}

pub node_low : (w b j : ℕ) → 2 ^ j ≤ node_at w b j
unfolding node_at
node_low w b j = omega arith

pub node_pos : (w b j : ℕ) → 0 < node_at w b j
node_pos w b j = omega (arith, node_low w b j, pow_pos j)

node_high : (w b j : ℕ) → j ≤ w → b < 2 ^ w → node_at w b j < 2 ^ suc j
unfolding node_at
node_high w b j h lt =
    let e : w ≡ j + (w - j) = omega arith in
    omega (arith, shr_below b j (w - j) (subst (λ k. b < 2 ^ k) e lt), doubled j)

pub node_up : (w b r i j : ℕ) → i ≤ j → j ≤ w → node_at w b j ≡ node_at w r j → node_at w b i ≡ node_at w r i
unfolding node_at
node_up w b r i j h k e =
    let d : w - i ≡ (w - j) + (j - i) = omega arith in
    let q : b / 2 ^ (w - j) ≡ r / 2 ^ (w - j) = omega arith in
    rw d (ap (λ x. 2 ^ i + x) (sym (shr-shr b (w - j) (j - i)) ∙ ap (λ x. x / 2 ^ (j - i)) q ∙ shr-shr r (w - j) (j - i)))

pub below_same : (r s w v : ℕ) → r ≡ s → w ≡ v → s < 2 ^ v → r < 2 ^ w
below_same r s w v e f h = rw (e, f) h

pub less_by : (h a b : ℕ) → a / 2 ^ h < b / 2 ^ h → a < b
less_by h a b l = omega (arith, (div-lt_iff_lt-mul (pow_pos h)).0 l, shr_split b h)

pub node_between : (w a c b j : ℕ) → a ≤ c → c ≤ b → node_at w a j ≡ node_at w b j → node_at w c j ≡ node_at w a j
unfolding node_at
node_between w a c b j h k e =
    let s = w - j in
    elim (cases_order (c / 2 ^ s) (a / 2 ^ s)) [
      | inl y ↦ ap (λ x. 2 ^ j + x) y
      | inr (inl y) ↦ absurd (omega (arith, less_by s c a y))
      | inr (inr y) ↦ absurd (omega (arith, less_by s b c (omega arith)))
    ]

pub passed_low : (w r m n : ℕ) → m ≤ w + 1 → r < 2 ^ w → 2 ^ m ≤ n → passed w r m n ≡ false
passed_low w r zero n h lt far = refl
passed_low w r (suc m) n h lt far =
    or_from (eqb (node_at w r m) n) (passed w r m n) (ne_eqb (node_at w r m) n (λ e. omega (arith, node_high w r m (omega arith) lt)))
    (passed_low w r m n (omega arith) lt (omega (arith, doubled m)))

or_false : (x : Bool) → (x || false) ≡ x
or_false true = refl
or_false false = refl

-- among the levels below m, j alone can give b's node at level j
passed_node : (w r b j m : ℕ) → r < 2 ^ w → b < 2 ^ w → j < m → m ≤ w + 1 → passed w r m (node_at w b j) ≡ under w b j r
passed_node w r b j zero rlt blt h k = absurd (omega arith)
passed_node w r b j (suc m) rlt blt h k =
    elim (cases_eq j m) [
      | inl e ↦
          let low : passed w r m (node_at w b j) ≡ false = passed_low w r m (node_at w b j) (omega arith) rlt (subst (λ z. 2 ^ z ≤ node_at w b j) e (node_low w b j)) in
          rw (low, ← e) (or_false (under w b j r))
      | inr e ↦
          let jm : suc j ≤ m = omega arith in
          let off : eqb (node_at w r m) (node_at w b j) ≡ false = ne_eqb (node_at w r m) (node_at w b j) (λ d. omega (arith, node_high w b j (omega arith) blt, node_low w r m, pow_mono jm)) in
          rw off (passed_node w r b j m rlt blt (omega arith) (omega arith))
    ]

pub lies_node : (w r b j : ℕ) → r < 2 ^ w → b < 2 ^ w → j ≤ w → lies w r (node_at w b j) ≡ under w b j r
unfolding lies
lies_node w r b j rlt blt h = passed_node w r b j (w + 1) rlt blt (omega arith) (omega arith)

pub lies_own : (w r j : ℕ) → r < 2 ^ w → j ≤ w → lies w r (node_at w r j) ≡ true
lies_own w r j lt h = lies_node w r r j lt lt h ∙ eq-eqb (node_at w r j) (node_at w r j) refl
