-- Runs of calls on the sorted list.
--
--   Asked           a call, and the caller's places as they stood
--   list_answers    what the sorted list tells of a run of calls, by bits
--   list_after      its entries after the run
--   own_answers     what the list of a kind's own keys tells
--   ListsAgree      the two tell the same, and hold the same, after every run
use Rattle.std.specs.Prelude.{◌≡◌, ℕ, List, [], ◌∷◌, map}
use Rattle.entry.specs.declared.Entry.{Entry}
use Rattle.ordered.specs.declared.calls.Call.{Call}
use Rattle.ordered.specs.Sorted.{Told, listed}
use Rattle.ordered.specs.Kinds.{Kind, Item, shown, own_listed}

pub record Asked : Type 0 where
  pub call : Call
  pub places : List Entry

unfoldable pub list_answers : ℕ → ℕ → List Asked → List Entry → List Told
list_answers w limit [] xs = []
list_answers w limit (c ∷ cs) xs =
    let l = listed w limit c.call c.places xs in
    l.told ∷ list_answers w limit cs l.after

unfoldable pub list_after : ℕ → ℕ → List Asked → List Entry → List Entry
list_after w limit [] xs = xs
list_after w limit (c ∷ cs) xs = list_after w limit cs (listed w limit c.call c.places xs).after

unfoldable pub own_answers : {K : Type 0} → Kind K → ℕ → List Asked → List (Item K) → List Told
own_answers kind limit [] xs = []
own_answers kind limit (c ∷ cs) xs =
    let l = own_listed kind limit c.call c.places xs in
    l.told ∷ own_answers kind limit cs l.after

unfoldable pub own_after : {K : Type 0} → Kind K → ℕ → List Asked → List (Item K) → List (Item K)
own_after kind limit [] xs = xs
own_after kind limit (c ∷ cs) xs = own_after kind limit cs (own_listed kind limit c.call c.places xs).after

pub record Agreeing {K : Type 0} (kind : Kind K) (limit : ℕ) (cs : List Asked) : Type 0 where
  pub told : own_answers kind limit cs [] ≡ list_answers kind.width limit cs []
  pub held : map (shown kind) (own_after kind limit cs []) ≡ list_after kind.width limit cs []

abbrev pub ListsAgree : {K : Type 0} → Kind K → Type 0
ListsAgree kind = (limit : ℕ) (cs : List Asked) → Agreeing kind limit cs
