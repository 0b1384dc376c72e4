use Rattle.std.proofs.Common.{◌≡◌, ℕ, ◌+◌, ◌-◌, ◌*◌, ◌≤◌, ◌<◌, min, length, refl, sym, ap, ◌∙◌, inl, subst, arith, length-drop}
use borrow.Rule.Slice.PartMut.{put_mid}
use Rattle.std.specs.Slice.Iter.{chunks_rest, chunks_size}
use Rattle.std.specs.Iterator.Adapters.{enumerate_source, enumerate_count}
use Rattle.book.specs.Runs.{parts, piece}
use Rattle.book.proofs.Running.{Running, Reading, running_start, running_more, ran, part_is, reading_more}
use Rattle.book.proofs.runs.run.Goals as goal

pub loop-i-init : goal.loop-i-init
loop-i-init g c =
    let src : enumerate_source c.into_iter-i-iterator.result ≡ c.chunks.result = ap (λ e. enumerate_source e) c.into_iter-i-iterator.ensures.into_iter_gives ∙ c.enumerate-i-items.ensures.source in
    let n : enumerate_count c.into_iter-i-iterator.result ≡ 0 = ap (λ e. enumerate_count e) c.into_iter-i-iterator.ensures.into_iter_gives ∙ c.enumerate-i-items.ensures.count in
    let size : chunks_size (enumerate_source c.into_iter-i-iterator.result) ≡ 32 = ap (λ e. chunks_size e) src ∙ c.chunks.ensures.size in
    let rest : chunks_rest (enumerate_source c.into_iter-i-iterator.result) ≡ c.args.script.now = ap (λ e. chunks_rest e) src ∙ c.chunks.ensures.rest in (
      (rw size (omega arith), tt, inl (rw (n, rest, size) (omega arith))),
      tt,
      size,
      rw (n, rest) (record { rest_is = refl; near = omega arith }),
      rw n (running_start (g.B.Ledger.view c.args.book.now) c.args.script.now c.args.answers.now),
    )

pub loop-i-preserved : goal.loop-i-preserved
loop-i-preserved g c =
    let m = g.B.Ledger in
    let inv = c.loop-i.invariant in
    let it = c.loop-i.i-iterator in
    let n = enumerate_count it in
    let script = c.args.script.now in
    let rest = chunks_rest (enumerate_source it) in
    let rest' = chunks_rest (enumerate_source c.next.new.self) in
    let part = c.in-Some.part.now in
    let steps = c.in-Some.ensures.steps in
    let goes = c.in-Some.ensures.goes.on inv.1 in
    let i = c.in-Some.i in
    let long : length part ≡ min 32 (length rest) = steps.0.1.1 ∙ ap (λ (k : ℕ). min k (length rest)) inv.2 in
    let left = length-drop (32 * n) script in
    let room : 32 * i + 32 ≤ length c.loop-i.answers = omega (arith, c.requires, c.loop-i.auto.answers, steps.1, steps.0.1.2, ap length inv.3.rest_is, left) in
    let is : part ≡ piece script i = part_is script rest part rest' n inv.3 steps.0.1.0 long ∙ ap (piece script) (sym steps.1) in
    let R : ℕ → Type 0 = λ k. Running (m.view c.args.book.now) script c.args.answers.now k c.loop-i.answers (m.view c.loop-i.book) in
    let R' : ℕ → Type 0 = λ k. Running (m.view c.args.book.now) script c.args.answers.now k (put_mid (32 * i) ((32 * i + 32) - 32 * i) c.loop-i.answers c.copy_from_slice.new.self) (m.view c.answer.new.book) in
    let ys : c.copy_from_slice.new.self ≡ c.answer.result = c.copy_from_slice.ensures.after in (
      goes.0,
      goes.1,
      steps.0.0 ∙ inv.2,
      rw steps.2 (reading_more script rest part rest' n inv.3 steps.0.1.0 long steps.0.1.2),
      subst R' (omega (arith, steps.1, steps.2))
          (running_more (m.view c.args.book.now) (m.view c.loop-i.book) (m.view c.answer.new.book) script c.args.answers.now c.loop-i.answers part c.copy_from_slice.new.self i
          ((32 * i + 32) - 32 * i) (subst R (sym steps.1) inv.4) room is (omega arith) (rw ys c.answer.ensures)),
    )

pub returns : goal.returns
returns g c =
    let m = g.B.Ledger in
    let inv = c.loop-i.invariant in
    let it = c.loop-i.i-iterator in
    let script = c.args.script.now in
    let left = length-drop (32 * enumerate_count it) script in
    let count : c.div_ceil.result ≡ parts (length script) = c.div_ceil.ensures ∙ omega arith in
    let n : enumerate_count it ≡ c.div_ceil.result = omega (arith, count, inv.3.near, ap length inv.3.rest_is, left, c.in-None.ensures.steps.0.1.0) in
    let R : ℕ → Type 0 = λ k. Running (m.view c.args.book.now) script c.args.answers.now k c.loop-i.answers (m.view c.loop-i.book) in
    record { count = count; ran = ran (subst R n inv.4) }
