use Rattle.std.proofs.Common.{sym}
use Rattle.buckets.proofs.Lays.{order_long}
use Rattle.buckets.proofs.Table.count.Goals as goal

pub returns : goal.returns
returns c = sym (order_long c.args.self.now)
