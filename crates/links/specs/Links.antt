-- The pairs that an order of buckets asks for.
--
--   passed w r j n           n is the node of r at a level below j
--   lies w r n               r lies under the node n
--   outermost                the first and the last of a row, if it has any
--   under_node w rep n       those of an order whose representative lies under n
--   links w rep order        the pairs: for each node the first and the last bucket whose representative lies under it
--   joined rep i pair        a node's pair once the bucket i is set up under it
--   joins rep i pair         that pair is new or alters
--   parted next prev i pair  a node's pair once the bucket i, between prev and next, is taken away
--   parts i pair             that pair goes or alters
--   chosen w k j l h prev    what a search answers from the deepest level j of k, its links and the bucket before each
--   own_levels w rs r j      at how many of the levels below j no number of rs lies under the node of r
--   node_count w rs          how many nodes the numbers of rs have, each counted once
use Rattle.std.specs.Prelude.{ℕ, zero, suc, ◌+◌, ◌-◌, ◌/◌, ◌%◌, ◌^◌, Bool, true, false, cond, ◌||◌, List, [], ◌∷◌, Some, None, filter, Option, ◌==◌, nat_lt}
use Rattle.dictionary.specs.Pairs.{Pairs, Links}
use Rattle.levels.specs.Nodes.{node_at, present}
use Rattle.links.specs.Orders.{last_from}

abbrev pub passed : ℕ → ℕ → ℕ → ℕ → Bool
passed w r zero n = false
passed w r (suc j) n = node_at w r j == n || passed w r j n

unfoldable pub lies : ℕ → ℕ → ℕ → Bool
lies w r n = passed w r (w + 1) n

abbrev pub outermost : List ℕ → Option Links
outermost [] = None
outermost (x ∷ xs) = Some (x, last_from x xs)

abbrev pub under_node : ℕ → (ℕ → ℕ) → ℕ → List ℕ → List ℕ
under_node w rep n order = filter (λ i. lies w (rep i) n) order

unfoldable pub links : ℕ → (ℕ → ℕ) → List ℕ → Pairs
links w rep order n = outermost (under_node w rep n order)

-- it becomes the low where the low's representative is above its own, the high where the high's is below
abbrev pub joined : (ℕ → ℕ) → ℕ → Option Links → Option Links
joined rep i None = Some (i, i)
joined rep i (Some p) = Some (cond (nat_lt (rep i) (rep p.0)) i p.0, cond (nat_lt (rep p.1) (rep i)) i p.1)

abbrev pub joins : (ℕ → ℕ) → ℕ → Option Links → Bool
joins rep i None = true
joins rep i (Some p) = nat_lt (rep i) (rep p.0) || nat_lt (rep p.1) (rep i)

-- nothing is left where both links name it, and a single link passes to the neighbour
abbrev pub parted : ℕ → ℕ → ℕ → Option Links → Option Links
parted next prev i None = None
parted next prev i (Some p) =
    cond (p.0 == i) (cond (p.1 == i) None (Some (next, p.1))) (cond (p.1 == i) (Some (p.0, prev)) (Some p))

abbrev pub parts : ℕ → Option Links → Bool
parts i None = false
parts i (Some p) = p.0 == i || p.1 == i

-- at the last level the low; otherwise by the key's next bit the high, or the one before the low
abbrev pub chosen : ℕ → ℕ → ℕ → ℕ → ℕ → (ℕ → ℕ) → ℕ
chosen w k level low high prev = cond (level == w) low (cond (k / 2 ^ (w - (level + 1)) % 2 == 1) high (prev low))

unfoldable pub own_levels : ℕ → List ℕ → ℕ → ℕ → ℕ
own_levels w rs r zero = 0
own_levels w rs r (suc j) = cond (present w rs r j) 0 1 + own_levels w rs r j

unfoldable pub node_count : ℕ → List ℕ → ℕ
node_count w [] = 0
node_count w (r ∷ rs) = own_levels w rs r (w + 1) + node_count w rs
