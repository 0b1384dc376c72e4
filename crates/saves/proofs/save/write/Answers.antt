use Rattle.std.proofs.Common.{◌+◌, ◌-◌, ◌*◌, ◌^◌, ◌<◌, ap, ◌∙◌, arith}
use Rattle.std.proofs.ByRecursion.{All-get_or}
use Rattle.entry.specs.declared.Entry.{Entry}
use Rattle.entry.specs.Lists.{blank}
use Rattle.wire.specs.Records.{wire}
use Rattle.saves.proofs.Saving.{writing_start, writing_more, writing_end}
use Rattle.saves.proofs.save.write.Goals as goal

pub form-requires : goal.form-requires
form-requires c = All-get_or (λ (e : Entry). e.key < 2 ^ 60) c.args.entries.now c.loop-i.i blank c.loop-i-test.true c.requires.keys

pub loop-i-init : goal.loop-i-init
loop-i-init c = writing_start c.args.part c.args.entries.now c.args.at c.args.out.now

pub loop-i-preserved : goal.loop-i-preserved
loop-i-preserved c =
    let i = c.loop-i.i in
    let start = c.args.at + 32 * i in
    writing_more c.args.part c.args.entries.now c.args.at c.args.out.now i c.loop-i.out c.copy_from_slice.new.self ((start + 32) - start) c.loop-i-test.true
    (omega (arith, c.requires.room)) (omega arith) (c.copy_from_slice.ensures.after ∙ c.to_bytes-bytes.ensures ∙ ap wire c.form.ensures) c.loop-i.invariant

pub returns : goal.returns
returns c = writing_end c.args.part c.args.entries.now c.args.at c.args.out.now c.loop-i.i c.loop-i.out (omega (arith, c.loop-i-test.false, c.loop-i.auto.i-end)) c.loop-i.invariant
