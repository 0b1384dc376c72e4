use Rattle.slots.proofs.Rows.{fresh_apart, fresh_pairs}
use Rattle.slots.proofs.Counts.{fresh_nodes}
use Rattle.robin_hood.proofs.Rings.{fresh_spread}
use Rattle.robin_hood.proofs.table.RingLayout.new.Goals as goal

pub invariant_of-result : goal.invariant_of-result
invariant_of-result c = record { spread = fresh_spread 1024; apart = fresh_apart 1024 }

pub returns : goal.returns
returns c = record { pairs = fresh_pairs 1024; nodes = fresh_nodes 1024 }
