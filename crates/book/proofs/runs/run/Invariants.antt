use Rattle.std.proofs.Common.{◌≡◌}
use Rattle.std.specs.Slice.Iter.{chunks_rest, chunks_size}
use Rattle.std.specs.Iterator.Adapters.{enumerate_source, enumerate_count}
use Rattle.book.proofs.Running.{Running, Reading}
use Rattle.book.proofs.runs.run.Given as goal

abbrev pub invariant-loop-i : goal.invariant-loop-i
invariant-loop-i g l =
    let m = g.B.Ledger in
    let n = enumerate_count l.i-iterator in
    (goal.iterator-loop-i g).can_next l.i-iterator
    × (goal.iterator-loop-i g).is_finite l.i-iterator
    × (chunks_size (enumerate_source l.i-iterator) ≡ 32)
    × Reading l.script (chunks_rest (enumerate_source l.i-iterator)) n
    × Running (m.view l.initial.book) l.script l.initial.answers n l.answers (m.view l.book)
