-- What a row of slots holds. Past its end a row reads as empty slots.
--
--   blank            an empty slot
--   node_at           the node in a slot of a row, 0 where the slot is empty
--   links_of          the links in a slot
--   seek             the links in the first slot of a node
--   pairs_of          what a row means: the links of each node, and none of node 0
--   nodes_of          the nodes that stand in a row, from its first slot on
--   held             how many slots are taken
--   Apart            no node stands in two slots
--   Absent           a node stands in no slot
use Rattle.std.specs.Prelude.{◌≡◌, ℕ, ◌<◌, cond, List, [], ◌∷◌, length, Some, None, Option, ◌==◌, ◌≢◌, slice_index_or}
use Rattle.dictionary.specs.Pairs.{Links, Pairs}
use Rattle.slots.specs.declared.Slot.{Slot}

abbrev pub blank : Slot
blank = record { node = 0; low = 0; high = 0 }

abbrev pub node_at : List Slot → ℕ → ℕ
node_at xs i = (slice_index_or xs i blank).node

abbrev pub links_of : Slot → Option Links
links_of s = Some (s.low, s.high)

unfoldable pub seek : List Slot → Pairs
seek [] n = None
seek (s ∷ ss) n = cond (s.node == n) (links_of s) (seek ss n)

unfoldable pub pairs_of : List Slot → Pairs
pairs_of xs n = cond (n == 0) None (seek xs n)

unfoldable pub nodes_of : List Slot → List ℕ
nodes_of [] = []
nodes_of (s ∷ ss) = cond (s.node == 0) (nodes_of ss) (s.node ∷ nodes_of ss)

abbrev pub held : List Slot → ℕ
held xs = length (nodes_of xs)

abbrev pub Apart : List Slot → Type 0
Apart xs = (i j : ℕ) → (0 < node_at xs i) × (node_at xs i ≡ node_at xs j) → i ≡ j

abbrev pub Absent : List Slot → ℕ → Type 0
Absent xs n = (i : ℕ) → node_at xs i ≢ n
