use Rattle.slots.proofs.Rows.{fresh_apart, fresh_pairs}
use Rattle.slots.proofs.Counts.{fresh_nodes}
use Rattle.cuckoo.proofs.Standing.{fresh_placed}
use Rattle.cuckoo.proofs.Packing.{fresh_packed}
use Rattle.cuckoo.proofs.table.TwoRowsLayout.new.Goals as goal

pub invariant_of-result : goal.invariant_of-result
invariant_of-result c = record { placed = fresh_placed 1792; packed = fresh_packed 1792; apart = fresh_apart 1792 }

pub returns : goal.returns
returns c = record { pairs = fresh_pairs 1792; nodes = fresh_nodes 1792 }
