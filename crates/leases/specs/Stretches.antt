-- Leases: entries whose key is the start and whose note is the end's decimetre, times 2^32, and the holder.
--
--   end                 the last station of a lease
--   holder_of           its holder
--   entered             the entry of a lease from one station to another by a holder
--   Noted               an entry that is a lease: it ends on its piste and not before its start, and has a holder
--   Spaced              leases one after another, each ended before the next one starts
--   Spaced-prop         that has one proof at most
--   shares f t x        the lease x has a station from f to t
--   sharing f t xs      the leases that have one
--   Covers              a station lies in a lease
--   NoSharedStation     no station lies in two of the leases
--   Leased              a lease index that is not shut
use Rattle.std.specs.Prelude.{◌≡◌, ℕ, ◌+◌, ◌*◌, ◌/◌, ◌%◌, ◌^◌, ◌<◌, ◌≤◌, Bool, false, ◌&&◌, List, [], ◌∷◌, length, filter, nat_le, slice_index_or}
use Rattle.std.specs.List.{AllByRecursion}
use Rattle.std.specs.Coded.{Unit-prop}
use Rattle.std.proofs.Props.{props}
use Rattle.entry.specs.declared.Entry.{Entry}
use Rattle.entry.specs.Lists.{blank}
use Rattle.ordered.specs.Meaning.{View}

abbrev pub end : Entry → ℕ
end e = e.key / 2 ^ 24 * 2 ^ 24 + e.note / 2 ^ 32

abbrev pub holder_of : Entry → ℕ
holder_of e = e.note % 2 ^ 32

abbrev pub entered : ℕ → ℕ → ℕ → Entry
entered f t h = record { key = f; note = t % 2 ^ 24 * 2 ^ 32 + h }

pub record Noted (e : Entry) : Type 0 where
  pub small : e.key < 2 ^ 32
  pub rises : e.key ≤ end e
  pub inside : e.note / 2 ^ 32 < 2 ^ 24
  pub held : 0 < holder_of e

abbrev pub Spaced : List Entry → Type 0
Spaced [] = Unit {0}
Spaced (x ∷ xs) = Noted x × AllByRecursion (λ (y : Entry). end x < y.key) xs × Spaced xs

pub Spaced-prop : (xs : List Entry) → IsProp (Spaced xs)
Spaced-prop [] = Unit-prop
Spaced-prop (x ∷ xs) = Prim.hlevel (Spaced-prop xs, props)

abbrev pub shares : ℕ → ℕ → Entry → Bool
shares f t x = nat_le x.key t && nat_le f (end x)

abbrev pub sharing : ℕ → ℕ → List Entry → List Entry
sharing f t xs = filter (shares f t) xs

abbrev pub Covers : Entry → ℕ → Type 0
Covers e s = (e.key ≤ s) × (s ≤ end e)

abbrev pub NoSharedStation : List Entry → Type 0
NoSharedStation xs = (i j s : ℕ) → i < length xs → j < length xs → Covers (slice_index_or xs i blank) s → Covers (slice_index_or xs j blank) s → i ≡ j

pub record Leased (v : View) : Type 0 where
  pub unshut : v.shut ≡ false
  pub spaced : Spaced v.entries
