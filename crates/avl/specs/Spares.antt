-- Which nodes of a pool are free.
--
--   free    the free indices
--   Shared  every index below 512 stands once among those in use and the free ones, and no other does
--   Lent    an index was handed out: it was not in use
--   Took    what handing out answers: an index, or nothing if all 512 are in use
use Rattle.std.specs.Prelude.{◌≡◌, ℕ, ◌+◌, ◌<◌, cond, List, [], ◌∷◌, ◌++◌, length, Some, None, Option, nat_lt}
use Rattle.trees.specs.Counts.{times}
use Rattle.avl.specs.declared.pool.Pool.{Pool}

abbrev pub free : Pool → List ℕ
free p = p.spare.items

abbrev pub Shared : List ℕ → List ℕ → Type 0
Shared used spare = (m : ℕ) → times m used + times m spare ≡ cond (nat_lt m 512) 1 0

pub record Lent (used spare : List ℕ) (m : ℕ) : Type 0 where
  pub inside : m < 512
  pub new : times m used ≡ 0
  pub shared : Shared (m ∷ used) spare

abbrev pub Took : Pool → Pool → Option ℕ → Type 0
Took p q None = (free p ≡ []) × (free q ≡ []) × ((used : List ℕ) → Shared used (free p) → length used ≡ 512)
Took p q (Some m) = (free p ≡ free q ++ m ∷ []) × ((used : List ℕ) → Shared used (free p) → Lent used (free q) m)
