use Rattle.std.proofs.Common.{◌≡◌, ◌+◌, arith}
use mathlib.Core.Path.{fun_ext}
use Rattle.slots.proofs.Carried.{put_apart, put_held, put_pairs}
use Rattle.robin_hood.specs.Layout.{rests, stays, swaps}
use Rattle.robin_hood.proofs.Carry.{carry_start, carry_pass, carry_swap, at_within, end_spread, carry_never}
use Rattle.robin_hood.proofs.insert.insert.Goals as goal
use Rattle.robin_hood.proofs.insert.insert.Goals.{then-rank, else-rank}

pub loop-step-init : goal.loop-step-init
loop-step-init c =
    let e : c.home-start.result + 0 ≡ c.home-start.result = omega arith in
    (carry_start _ _ _ c.home-start.ensures.value (omega arith) c.args.ring.now.spread c.args.ring.now.apart c.requires.some c.requires.absent, λ ys h. rw e at h)

pub invariant_of-ring : goal.invariant_of-ring
invariant_of-ring c =
    let s = c.loop-step.invariant.0 in
    record { spread = end_spread s c.if-resident-eq0.true; apart = put_apart s.carried _ (at_within s) }

pub returns-then-resident-eq0 : goal.returns-then-resident-eq0
returns-then-resident-eq0 c =
    let s = c.loop-step.invariant.0 in
    let h = at_within s in
    let empty = c.if-resident-eq0.true in
    record {
      held = put_held s.carried _ h empty;
      pairs = fun_ext (put_pairs s.carried _ h empty);
      settles = rw (← c.home-start.ensures.value) (c.loop-step.invariant.1 _ (rests empty));
    }

pub loop-step-preserved : goal.loop-step-preserved
loop-step-preserved c =
    let e : c.home-start.result + (c.loop-step.step + 1) ≡ c.home-start.result + c.loop-step.step + 1 = omega arith in
    elim c.if-rank.branch [
      | then-rank w ↦ rw (w.ring-is, w.carried-is) (carry_swap c.loop-step.invariant.0 (omega arith) (omega arith), λ ys h. c.loop-step.invariant.1 ys (swaps {t = c.home-start.result + c.loop-step.step} (omega arith) (omega arith) (rw e at h)))
      | else-rank w ↦ rw (w.ring-is, w.carried-is) (carry_pass c.loop-step.invariant.0 (omega arith) (omega arith), λ ys h. c.loop-step.invariant.1 ys (stays {t = c.home-start.result + c.loop-step.step} (omega arith) (omega arith) (rw e at h)))
    ]

pub unreachable-requires : goal.unreachable-requires
unreachable-requires c = carry_never c.loop-step.invariant.0 (omega arith) c.requires.room
