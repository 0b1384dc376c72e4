use Rattle.std.proofs.Common.{◌≡◌, ℕ, length, ap, sym, subst, ◌∙◌, arith}
use Rattle.acceptance.specs.Stages.{Filled, Tried}
use Rattle.acceptance.specs.declared.report.Stage.{Stage}
use Rattle.acceptance.specs.Reports.{stage, report_of, passes}
use Rattle.acceptance.proofs.Reported.{counted_so, reported, sold}
use Rattle.acceptance.proofs.accept.accept.Goals as goal

seen : {r : Stage} {n n' h h' t t' : ℕ} → r ≡ stage n h t → n ≡ n' → h ≡ h' → t ≡ t' → r ≡ stage n' h' t'
seen e a b f = e ∙ (λ i. stage (a i) (b i) (f i))

pub returns : goal.returns
returns g c =
    let d = g.D.Dictionary in
    let s0 = c.new-store.result in
    let s1 = c.fill-taken.new.store in
    let s2 = c.read_back-right.new.store in
    let s3 = c.fill-replaced.new.store in
    let s4 = c.read_back-new.new.store in
    let s5 = c.refuse-refusals.new.store in
    let s6 = c.clear-gone.new.store in
    let s7 = c.clear-twice.new.store in
    let s8 = c.read_back-rest.new.store in
    let room = d.room s0 in
    let r2 : d.room s2 ≡ room = c.read_back-right.ensures.room ∙ c.fill-taken.ensures.room in
    let r4 : d.room s4 ≡ room = c.read_back-new.ensures.room ∙ (c.fill-replaced.ensures.room ∙ r2) in
    let n =
    counted_so room (d.pairs s0) (d.pairs s1) (d.pairs s2) (d.pairs s3) (d.pairs s4) (d.pairs s5) (d.pairs s6) (d.pairs s7) (length (d.nodes s0)) (length (d.nodes s1)) (length (d.nodes s2))
    (length (d.nodes s3)) (length (d.nodes s4)) (length (d.nodes s5)) (length (d.nodes s6)) (length (d.nodes s7)) c.fill-taken.result c.read_back-right.result c.fill-replaced.result
    c.read_back-new.result c.refuse-refusals.result.count c.clear-gone.result c.clear-twice.result c.read_back-rest.result c.refuse-refusals.result.kept c.new-store.ensures.pairs
    (ap length c.new-store.ensures.nodes) c.fill-taken.ensures.filled c.read_back-right.ensures.right c.read_back-right.ensures.pairs c.read_back-right.ensures.held
    (subst (λ r. Filled r 9 (d.pairs s2) (length (d.nodes s2)) 256 c.fill-replaced.result (d.pairs s3) (length (d.nodes s3))) r2 c.fill-replaced.ensures.filled)
    c.read_back-new.ensures.right c.read_back-new.ensures.pairs c.read_back-new.ensures.held
    (subst (λ r. Tried r (d.pairs s4) (length (d.nodes s4)) c.refuse-refusals.result.count c.refuse-refusals.result.kept (d.pairs s5) (length (d.nodes s5))) r4 c.refuse-refusals.ensures.tried)
    c.clear-gone.ensures.cleared c.clear-twice.ensures.cleared c.read_back-rest.ensures.right in
    let t1 : d.frames s1 ≡ 768 = omega (arith, c.new-store.ensures.tally, c.fill-taken.ensures.tally) in
    let t2 : d.frames s2 ≡ 1536 = omega (arith, t1, c.read_back-right.ensures.tally) in
    let t3 : d.frames s3 ≡ 1792 = omega (arith, t2, c.fill-replaced.ensures.tally) in
    let t4 : d.frames s4 ≡ 2048 = omega (arith, t3, c.read_back-new.ensures.tally) in
    let t5 : d.frames s5 ≡ 2051 = omega (arith, t4, c.refuse-refusals.ensures.tally) in
    let t6 : d.frames s6 ≡ 2819 = omega (arith, t5, c.clear-gone.ensures.tally) in
    let t7 : d.frames s7 ≡ 3587 = omega (arith, t6, c.clear-twice.ensures.tally) in
    let t8 : d.frames s8 ≡ 4355 = omega (arith, t7, c.read_back-rest.ensures.tally) in
    let h2 = c.read_back-right.ensures.held ∙ n.put.1 in
    let h4 = c.read_back-new.ensures.held ∙ n.renewed.1 in
    let h8 = c.read_back-rest.ensures.held ∙ n.again.1 in
    let written : (record {
      capacity = room;
      put = c.look-put.result;
      read = c.look-read.result;
      renewed = c.look-renewed.result;
      reread = c.look-reread.result;
      refused = c.look-refused.result;
      kept = c.refuse-refusals.result.kept;
      dropped = c.look-dropped.result;
      again = c.look-again.result;
      left = c.look-left.result;
    }) ≡ report_of room =
    reported room c.look-put.result c.look-read.result c.look-renewed.result c.look-reread.result c.look-refused.result c.look-dropped.result c.look-again.result c.look-left.result
    c.refuse-refusals.result.kept (seen c.look-put.ensures n.put.0 n.put.1 t1) (seen c.look-read.ensures n.read h2 t2) (seen c.look-renewed.ensures n.renewed.0 n.renewed.1 t3)
    (seen c.look-reread.ensures n.reread h4 t4) (seen c.look-refused.ensures n.refused.0 n.refused.1 t5) n.kept_is (seen c.look-dropped.ensures n.dropped.0 n.dropped.1 t6)
    (seen c.look-again.ensures n.again.0 n.again.1 t7) (seen c.look-left.ensures n.left h8 t8) in
    let whole = subst (λ x. (record {
      capacity = x;
      put = c.look-put.result;
      read = c.look-read.result;
      renewed = c.look-renewed.result;
      reread = c.look-reread.result;
      refused = c.look-refused.result;
      kept = c.refuse-refusals.result.kept;
      dropped = c.look-dropped.result;
      again = c.look-again.result;
      left = c.look-left.result;
    }) ≡ report_of x) (sym c.capacity-capacity.ensures) written in
    record { report = whole; verdict = ap passes whole ∙ sold c.capacity-capacity.result }
