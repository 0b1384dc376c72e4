use Rattle.std.proofs.Common.{refl, arith}
use Rattle.buckets.proofs.Fields.{sized}
use Rattle.buckets.proofs.Lays.{kept_stands, kept_order}
use Rattle.buckets.proofs.Table.set_size.Goals as goal

pub invariant_of-self : goal.invariant_of-self
invariant_of-self c = let t = c.args.self.now in record { stands = kept_stands t _ (sized t.records c.args.number c.args.size (omega arith)) }

pub returns-clause-reads : goal.returns-clause-reads
returns-clause-reads c =
    let t = c.args.self.now in
    let s = sized t.records c.args.number c.args.size (omega arith) in
    record { rep = s.rep; size = s.size; root = s.root; prev = s.prev; next = s.next; count = refl; free = refl; long = s.long }

pub returns-clause-order : goal.returns-clause-order
returns-clause-order c = let t = c.args.self.now in kept_order t _ (sized t.records c.args.number c.args.size (omega arith)) _ refl refl
