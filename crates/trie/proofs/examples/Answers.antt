use Rattle.std.proofs.Common.{refl}
use Rattle.levels.specs.Nodes.{node_at}
use Rattle.levels.specs.Counts.{gets_by, ends}
use Rattle.links.specs.Orders.{holder}
use Rattle.links.specs.Links.{lies, links, own_levels, node_count}
use Rattle.trie.proofs.examples.Goals as goal

pub returns : goal.returns
unfolding node_at gets_by ends holder lies links own_levels node_count
returns c =
    record {
      root = refl;
      fifth = refl;
      leaf = refl;
      root_links = refl;
      shared_links = refl;
      own_links = refl;
      leaf_links = refl;
      no_links = refl;
      no_node = refl;
      pairs = refl;
      outer = refl;
      inner = refl;
      before = refl;
      at = refl;
      between = refl;
      short = refl;
      whole = refl;
      beside = refl;
      split = refl;
      merge = refl;
      middle = refl;
    }
