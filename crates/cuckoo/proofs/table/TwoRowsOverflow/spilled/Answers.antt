use Rattle.std.proofs.Common.{sym}
use Rattle.cuckoo.proofs.Packing.{packed_count}
use Rattle.cuckoo.proofs.table.TwoRowsOverflow.spilled.Goals as goal

pub returns : goal.returns
returns c = sym (packed_count c.args.self.now.slots c.args.self.now.spilled c.args.self.now.packed)
