use Rattle.buckets.specs.Onwards.{left}
use Rattle.inside.proofs.Spans.{Counting}
use Rattle.workings.proofs.spans.count_span.Given as goal

abbrev pub invariant-loop-bucket : goal.invariant-loop-bucket
invariant-loop-bucket l =
    (goal.iterator-loop-bucket).can_next l.bucket-iterator ×
    (goal.iterator-loop-bucket).is_finite l.bucket-iterator ×
    Counting l.grove.table l.grove.pool l.first l.second l.number (left l.bucket-iterator) l.sum
