use Rattle.std.proofs.Common.{◌≡◌, ◌+◌, ◌<◌, length, set, refl, ◌∙◌, arith}
use mathlib.Core.Path.{fun_ext}
use Rattle.slots.specs.Slots.{blank, held}
use Rattle.slots.proofs.Rows.{out_pairs}
use Rattle.slots.proofs.Counts.{held_less}
use Rattle.robin_hood.proofs.Holes.{hole_start, hole_move, hole_never}
use Rattle.robin_hood.proofs.Shifts.{shift_start, shift_move, shift_end}
use Rattle.robin_hood.proofs.erase.erase.Goals as goal

pub loop-step-init : goal.loop-step-init
loop-step-init c = (hole_start _ _ (omega arith) c.args.ring.now.spread c.args.ring.now.apart c.requires.within c.requires.some, shift_start _ _ (omega arith) (omega arith))

pub returns-then-rank-le-AT_HOME : goal.returns-then-rank-le-AT_HOME
returns-then-rank-le-AT_HOME c =
    let xs = c.args.ring.now.slots in
    let hole = c.loop-step.invariant.0 in
    let within : c.args.from < length xs = omega arith in
    let gone = out_pairs xs c.args.from within c.args.ring.now.apart c.requires.some in
    record {
      closes = shift_end xs c.requires.within (omega arith) c.loop-step.invariant.1 (omega arith);
      held = omega (arith, hole.count, held_less xs c.args.from blank within c.requires.some refl);
      pairs = fun_ext (λ m. hole.pairs m ∙ gone m);
    }

pub loop-step-preserved : goal.loop-step-preserved
loop-step-preserved c =
    let hole = c.loop-step.invariant.0 in
    (hole_move hole (omega arith) (omega arith), shift_move c.loop-step.invariant.1 (omega arith) hole.long (omega arith))

pub unreachable-requires : goal.unreachable-requires
unreachable-requires c =
    let xs = c.args.ring.now.slots in
    let out : held (set xs c.args.from blank) + 1 ≡ held xs = held_less xs c.args.from blank (omega arith) c.requires.some refl in
    hole_never c.loop-step.invariant.0 (omega arith) (omega (arith, c.requires.room))
