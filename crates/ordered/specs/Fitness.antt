-- Whether a dictionary fits an index.
--
--   fitness   the refusal of a limit and a dictionary with some capacity, pairs held and tally, or none
use Rattle.std.specs.Prelude.{ℕ, cond, ◌||◌, Some, None, Option, ◌==◌, nat_lt}
use Rattle.key.specs.Widths.{needed}
use Rattle.ordered.specs.declared.refusal.Refusal.{Refusal}
use Rattle.ordered.specs.declared.refusal.Refusal.TheVariants.{Limit, Capacity, Used}

abbrev pub fitness : ℕ → ℕ → ℕ → ℕ → ℕ → Option Refusal
fitness w limit room held tally =
    cond (limit == 0 || nat_lt 512 limit) (Some Limit)
    (cond (nat_lt room (needed w limit)) (Some Capacity)
    (cond (nat_lt 0 held || nat_lt 0 tally) (Some Used) None))
