use Rattle.std.proofs.Common.{ℕ, ◌+◌, ◌-◌, ◌*◌, ◌≤◌, take, ap, arith, rules}
use Rattle.book.specs.Books.{look}
use Rattle.saves.proofs.Saving.{front_is, part_keys, part_few, part_written}
use Rattle.saves.proofs.save.write_part.Goals as goal

pub list-requires : goal.list-requires
list-requires g c =
    let b = g.B.Ledger.view c.args.book.now in
    part_few c.args.part b (g.met.B.Ledger.standing c.args.book.now) c.requires.unshut

pub slice_bounds-write-end : goal.slice_bounds-write-end
slice_bounds-write-end g c =
    let b = g.B.Ledger.view c.args.book.now in
    let few = part_few c.args.part b (g.met.B.Ledger.standing c.args.book.now) c.requires.unshut in
    let short : c.len-count.result ≤ 256 = omega (arith, c.len-count.ensures) in
    search rules

pub write-requires : goal.write-requires
write-requires g c =
    let b = g.B.Ledger.view c.args.book.now in
    let xs = (look c.args.part b).entries in
    let part = front_is xs _ c.list.new.places c.len-count.result c.len-count.ensures c.list.ensures in
    record { keys = rw part (part_keys c.args.part b (g.met.B.Ledger.standing c.args.book.now)); room = rw part c.requires.room }

pub returns : goal.returns
returns g c =
    let b = g.B.Ledger.view c.args.book.now in
    let xs = (look c.args.part b).entries in
    let n = c.len-count.result in
    let part = front_is xs _ c.list.new.places n c.len-count.ensures c.list.ensures in
    record {
      place = ap (λ (k : ℕ). c.args.at + 32 * k) c.len-count.ensures;
      bytes = part_written c.args.part xs (take (n - 0) c.list.new.places) c.args.at n c.args.out.now c.write.new.out part c.len-count.ensures c.write.ensures;
    }
