-- A look for a key: the bucket that it belongs to, what stands under it there, and what was spent.
--
--   Looked   the number and the frames of the search, the entry found and its visits
use Rattle.std.specs.Prelude.{◌≡◌, ℕ, ◌≤◌, true}
use Rattle.key.specs.Widths.{most}
use Rattle.dictionary.specs.Pairs.{among}
use Rattle.entry.specs.Lists.{at}
use Rattle.levels.specs.Counts.{searching}
use Rattle.links.specs.Orders.{holder}
use Rattle.buckets.specs.Tables.{rep_of, order_of}
use Rattle.trie.specs.Sound.{reps_of}
use Rattle.trees.specs.declared.Found.{Found}
use Rattle.trees.specs.Trees.{seen}
use Rattle.trees.specs.Answers.{foremost}
use Rattle.forest.specs.Forests.{items_of, tree_of}
use Rattle.inside.specs.declared.Inside.{Inside}

pub record Looked (w : ℕ) (i : Inside) (k m spent : ℕ) (found : Found) : Type 0 where
  pub number : m ≡ holder (rep_of i.grove.table) (order_of i.grove.table) k
  pub held : among m (order_of i.grove.table) ≡ true
  pub frames : spent ≡ searching w (reps_of i.grove.table) k
  pub few : spent ≤ most w
  pub entry : found.entry ≡ foremost (at k (items_of i.grove.table i.grove.pool (holder (rep_of i.grove.table) (order_of i.grove.table) k)))
  pub visits : found.visits ≡ seen k (tree_of i.grove.table i.grove.pool (holder (rep_of i.grove.table) (order_of i.grove.table) k))
