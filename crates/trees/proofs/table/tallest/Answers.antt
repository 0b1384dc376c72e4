use Rattle.std.proofs.Common.{◌≡◌, leb, ap, arith, rules, tests}
use Rattle.std.proofs.lemmas.Iterator.{YieldsList-from_slice}
use Rattle.std.proofs.lemmas.Iterator.Consumers.{YieldsList-from_filter, count_from_yields_List}
use Rattle.trees.specs.Heights.{highest, fewest, table}
use Rattle.trees.proofs.Heights.{highest_allows, highest_largest, highest_tree}
use Rattle.trees.proofs.Paths.{seen_low}
use Rattle.trees.proofs.table.tallest.Goals as goal

pub returns : goal.returns
unfolding highest
returns c =
    let is : c.count.result ≡ highest c.args.size = count_from_yields_List _ _ c.count.ensures.ran (YieldsList-from_filter _ (λ n. leb n c.args.size) (YieldsList-from_slice table cc) c.filter.ensures.closure (λ x b q k. search (rules, tests))) in
    record {
      height = is;
      allowed = omega (arith, highest_allows c.args.size, ap fewest is);
      largest = λ h le. omega (arith, highest_largest c.args.size c.requires h le);
      trees = λ t b le. omega (arith, highest_tree c.args.size c.requires t b le);
      paths = λ t key b le. omega (arith, highest_tree c.args.size c.requires t b le, seen_low key t);
    }
