-- The order, cut at the bucket that a key belongs to.
use Rattle.std.proofs.Common.{◌≡◌, ℕ, ◌<◌, ◌≤◌, List, [], ◌∷◌, sym, refl, ap, ◌∙◌, subst, inl, inr, arith}
use Rattle.std.proofs.ByRecursion.{All-weaker}
use Rattle.std.proofs.lemmas.Bool.{cases_lt}
use Rattle.links.specs.Orders.{holder, Rising, ZeroFirst}
use Rattle.links.proofs.Found.{holder_at}
use Rattle.rows.proofs.Served.{InRow}

record Held (rep : ℕ → ℕ) (order : List ℕ) (k : ℕ) : Type 0 where
  pub it : ℕ
  pub row : InRow rep order k it

from_first : (rep : ℕ → ℕ) (k x : ℕ) (xs : List ℕ) → rep x ≤ k → Rising rep (x ∷ xs) → Held rep (x ∷ xs) k
from_first rep k x [] l r = record { it = x; row = record { pre = []; post = []; is = refl; low = tt; mine = l; high = tt } }
from_first rep k x (y ∷ ys) l r = elim (cases_lt k (rep y)) [
  | inl h ↦ record { it = x; row = record { pre = []; post = y ∷ ys; is = refl; low = tt; mine = l; high = (h, All-weaker (λ z. rep y < rep z) (λ z. k < rep z) (λ z m. omega arith) ys r.1.0) } }
  | inr h ↦
      let c = from_first rep k y ys h r.1 in
      record { it = c.it; row = record { pre = x ∷ c.row.pre; post = c.row.post; is = ap (λ l. x ∷ l) c.row.is; low = (l, c.row.low); mine = c.row.mine; high = c.row.high } }
]

first_held : (rep : ℕ → ℕ) (order : List ℕ) (k : ℕ) → Rising rep order → ZeroFirst rep order → Held rep order k
first_held rep [] k r z = absurd z
first_held rep (x ∷ xs) k r z = from_first rep k x xs (omega (arith, z)) r

pub in_row : (rep : ℕ → ℕ) (order : List ℕ) (k : ℕ) → Rising rep order → ZeroFirst rep order → InRow rep order k (holder rep order k)
in_row rep order k r z =
    let c = first_held rep order k r z in
    let i = c.row in
    let e : holder rep order k ≡ c.it = ap (λ l. holder rep l k) i.is ∙ holder_at rep k i.pre c.it i.post i.mine i.high in
    subst (InRow rep order k) (sym e) i
