use Rattle.std.proofs.Common.{arith}
use Rattle.leases.proofs.Carrying.{due_none, due_later, due_taken}
use Rattle.leases.proofs.events.due.Goals as goal

pub returns-in_default : goal.returns-in_default
returns-in_default g c =
    let v = g.E.OrderedIndex.view c.args.events.now in
    let u = g.E.OrderedIndex.view c.next-earliest.new.self in
    let law = g.met.E.OrderedIndex.lawful c.args.events.now in
    due_none v law c.requires c.args.moment u c.next-earliest.result c.next-earliest.ensures c.in_default.field-0 c.in_default.is

pub returns-then-event-moment : goal.returns-then-event-moment
returns-then-event-moment g c =
    let v = g.E.OrderedIndex.view c.args.events.now in
    let u = g.E.OrderedIndex.view c.next-earliest.new.self in
    let law = g.met.E.OrderedIndex.lawful c.args.events.now in
    rw c.refused.ensures (due_later v law c.requires c.args.moment u c.next-earliest.result c.next-earliest.ensures c.in-Ok.event c.in-Ok.is (omega arith))

pub returns : goal.returns
returns g c =
    let v = g.E.OrderedIndex.view c.args.events.now in
    let u = g.E.OrderedIndex.view c.next-earliest.new.self in
    let v' = g.E.OrderedIndex.view c.remove-removed.new.self in
    let law = g.met.E.OrderedIndex.lawful c.args.events.now in
    rw c.joined.ensures
    (due_taken v law c.requires c.args.moment u c.next-earliest.result c.next-earliest.ensures c.in-Ok.event c.in-Ok.is (omega arith) v' c.remove-removed.result c.remove-removed.ensures)
