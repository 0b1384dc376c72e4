-- Reports on modules.
--
--   passes r      a report of a module that is as it is sold: 768 pairs, every frame right, and none left
--   report_of c   the report on a new module of any lawful make with the capacity c
use Rattle.std.specs.Prelude.{ℕ, ◌+◌, ◌-◌, Bool, cond, ◌&&◌, min, ◌==◌, nat_lt}
use Rattle.acceptance.specs.declared.report.Report.{Report}
use Rattle.acceptance.specs.declared.report.Stage.{Stage}

abbrev pub passes : Report → Bool
passes r =
    ((r.put.count == 768 && r.read.count == 768) && (r.renewed.count == 256 && r.reread.count == 256))
    && ((r.refused.count == 2 && r.kept) && ((r.dropped.count == 768 && r.again.count == 0) && (r.left.count == 0 && r.left.held == 0)))

abbrev pub stage : ℕ → ℕ → ℕ → Stage
stage count held tally = record { count = count; held = held; tally = tally }

-- above 768 pairs the new node is put too, and is there to the end
abbrev pub report_of : ℕ → Report
report_of c =
    let m = min 768 c in
    let s = min 256 c in
    let more = cond (nat_lt 768 c) 1 0 in
    record {
      capacity = c;
      put = stage m m 768;
      read = stage m m 1536;
      renewed = stage s m 1792;
      reread = stage s m 2048;
      refused = stage (2 - more) (m + more) 2051;
      kept = nat_lt 0 c;
      dropped = stage m more 2819;
      again = stage 0 more 3587;
      left = stage 0 more 4355;
    }
