use Rattle.std.proofs.Common.{◌≡◌, length, refl, ap, ◌∙◌, inl, arith}
use Rattle.std.specs.Slice.Iter.{chunks_exact_rest, chunks_exact_size}
use Rattle.std.specs.Iterator.Adapters.{enumerate_source, enumerate_count}
use Rattle.saves.proofs.Reading.{part_is, reading_more, all_read, some_left, taking_start, taking_more, taken_whole, taken_part}
use Rattle.saves.proofs.load.take_all.Goals as goal

pub loop-number-init : goal.loop-number-init
loop-number-init g c =
    let src : enumerate_source c.into_iter-number-iterator.result ≡ c.chunks_exact.result =
    ap (λ e. enumerate_source e) c.into_iter-number-iterator.ensures.into_iter_gives ∙ c.enumerate-number-items.ensures.source in
    let n : enumerate_count c.into_iter-number-iterator.result ≡ 0 =
    ap (λ e. enumerate_count e) c.into_iter-number-iterator.ensures.into_iter_gives ∙ c.enumerate-number-items.ensures.count in
    let size : chunks_exact_size (enumerate_source c.into_iter-number-iterator.result) ≡ 32 = ap (λ e. chunks_exact_size e) src ∙ c.chunks_exact.ensures.size in
    let rest : chunks_exact_rest (enumerate_source c.into_iter-number-iterator.result) ≡ c.args.bytes.now = ap (λ e. chunks_exact_rest e) src ∙ c.chunks_exact.ensures.rest in (
      (rw size (omega arith), tt, inl (rw (n, rest, size) (omega arith))),
      tt,
      size,
      rw (n, rest) (record { rest_is = refl; within = omega arith }),
      rw n (taking_start (g.B.Ledger.view c.args.book.now) c.args.bytes.now),
    )

pub loop-number-preserved : goal.loop-number-preserved
loop-number-preserved g c =
    let m = g.B.Ledger in
    let inv = c.loop-number.invariant in
    let it = c.loop-number.number-iterator in
    let n = enumerate_count it in
    let bytes = c.args.bytes.now in
    let rest = chunks_exact_rest (enumerate_source it) in
    let rest' = chunks_exact_rest (enumerate_source c.next.new.self) in
    let part = c.in-Some.part.now in
    let steps = c.in-Some.ensures.steps in
    let goes = c.in-Some.ensures.goes.on inv.1 in
    let long : length part ≡ 32 = steps.0.1.1 ∙ inv.2 in
    let is = part_is bytes rest part rest' n inv.3 steps.0.1.0 long in
    let tried = c.in-Ok.ensures in (
      goes.0,
      goes.1,
      steps.0.0 ∙ inv.2,
      rw steps.2 (reading_more bytes rest part rest' n inv.3 steps.0.1.0 long),
      rw steps.2
          (taking_more (m.view c.args.book.now) (m.view c.loop-number.book) (m.view c.take.new.book) bytes n c.loop-number.before part c.in-Ok.form tried.0 tried.1 is inv.4
          tried.2 tried.3),
    )

pub returns : goal.returns
returns g c =
    let m = g.B.Ledger in
    let inv = c.loop-number.invariant in
    let it = c.loop-number.number-iterator in
    let steps = c.in-None.ensures.steps in
    let n = all_read c.args.bytes.now (chunks_exact_rest (enumerate_source it)) (enumerate_count it) inv.3 (omega (arith, steps.0.1.0, inv.2)) in
    taken_whole (m.view c.args.book.now) (m.view c.loop-number.book) c.args.bytes.now (enumerate_count it) c.loop-number.before inv.4
    (g.met.B.Ledger.standing c.loop-number.book) n

pub returns-in-Err : goal.returns-in-Err
returns-in-Err g c =
    let m = g.B.Ledger in
    let inv = c.loop-number.invariant in
    let it = c.loop-number.number-iterator in
    let n = enumerate_count it in
    let bytes = c.args.bytes.now in
    let rest = chunks_exact_rest (enumerate_source it) in
    let rest' = chunks_exact_rest (enumerate_source c.next.new.self) in
    let part = c.in-Some.part.now in
    let steps = c.in-Some.ensures.steps in
    let long : length part ≡ 32 = steps.0.1.1 ∙ inv.2 in
    let is = part_is bytes rest part rest' n inv.3 steps.0.1.0 long in
    let few = some_left bytes rest part rest' n inv.3 steps.0.1.0 long in
    let tried = c.in-Err.ensures in
    rw steps.1
    (taken_part (m.view c.args.book.now) (m.view c.loop-number.book) (m.view c.take.new.book) bytes part n c.loop-number.before c.in-Err.refusal tried.0 inv.4
    (g.met.B.Ledger.standing c.loop-number.book) few is tried.1)
