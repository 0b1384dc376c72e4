use Rattle.std.proofs.Common.{◌≡◌}
use Rattle.std.specs.Slice.Iter.{chunks_exact_rest, chunks_exact_size}
use Rattle.std.specs.Iterator.Adapters.{enumerate_source, enumerate_count}
use Rattle.saves.proofs.Reading.{Reading, Taking}
use Rattle.saves.proofs.load.take_all.Given as goal

abbrev pub invariant-loop-number : goal.invariant-loop-number
invariant-loop-number g l =
    let m = g.B.Ledger in
    let n = enumerate_count l.number-iterator in
    (goal.iterator-loop-number g).can_next l.number-iterator
    × (goal.iterator-loop-number g).is_finite l.number-iterator
    × (chunks_exact_size (enumerate_source l.number-iterator) ≡ 32)
    × Reading l.bytes (chunks_exact_rest (enumerate_source l.number-iterator)) n
    × Taking (m.view l.initial.book) l.bytes n l.before (m.view l.book)
