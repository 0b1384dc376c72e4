use Rattle.std.proofs.Common.{◌≡◌, ℕ, [], ◌<◌, get_or, sym, subst, rules}
use Rattle.avl.specs.Spares.{Shared}
use Rattle.avl.proofs.Spares.{all_free}
use Rattle.avl.proofs.pool.Pool.new.Goals as goal

pub returns : goal.returns
returns c =
    let row = c.from_fn.result in
    let each : (k : ℕ) → k < 512 → get_or row k 0 ≡ k = λ k lt. (let h = c.from_fn.ensures.items.at k 0 lt in search rules) in
    subst (Shared []) (sym c.from.ensures.0) (all_free row c.from_fn.ensures.items.long each)
