use Rattle.std.proofs.Common.{◌≡◌, suc, ◌+◌, ◌-◌, ◌<◌, arith}
use mathlib.Core.Path.{fun_ext}
use Rattle.slots.specs.Slots.{node_at}
use Rattle.slots.proofs.Carried.{put_apart, put_held, put_pairs}
use Rattle.cuckoo.specs.Layout.{rests, pushes, spills}
use Rattle.cuckoo.proofs.Pushes.{at_within, pushed, spill_within, spill_placed, spill_packed, spill_empty}
use Rattle.cuckoo.proofs.insert.insert.Goals as goal

pub returns-then-resident-eq0 : goal.returns-then-resident-eq0
returns-then-resident-eq0 c =
    let s = c.loop-push.invariant.0 in
    let h = at_within s in
    let empty = c.if-resident-eq0.true in
    let k : 32 - c.loop-push._push ≡ suc (31 - c.loop-push._push) = omega arith in
    record {
      settles = rw (← c.first-at.ensures.value) (c.loop-push.invariant.1 _ _ (rw k (rests empty)));
      held = put_held s.carried _ h empty;
      pairs = fun_ext (put_pairs s.carried _ h empty);
    }

pub loop-push-preserved : goal.loop-push-preserved
loop-push-preserved c =
    let k : 32 - c.loop-push._push ≡ suc (32 - (c.loop-push._push + 1)) = omega arith in
    let taken : 0 < node_at c.loop-push.rows.slots c.loop-push.at = omega arith in
    (pushed c.loop-push.invariant.0 (omega arith) c.other-at.result c.other-at.ensures.below c.other-at.ensures.home, λ ys m h. c.loop-push.invariant.1 ys m (rw k (pushes {at = c.loop-push.at} taken (rw c.other-at.ensures.value at h))))

pub bounds-rows-rows : goal.bounds-rows-rows
bounds-rows-rows c = omega (arith, spill_within c.loop-push.invariant.0 c.requires.room)

pub overflow_add-rows : goal.overflow_add-rows
overflow_add-rows c = omega (arith, spill_within c.loop-push.invariant.0 c.requires.room)

pub invariant_of-rows-2 : goal.invariant_of-rows-2
invariant_of-rows-2 c =
    let s = c.loop-push.invariant.0 in
    let room = c.requires.room in
    record { placed = spill_placed s room; packed = spill_packed s room; apart = put_apart s.carried _ (spill_within s room) }

pub returns : goal.returns
returns c =
    let s = c.loop-push.invariant.0 in
    let room = c.requires.room in
    let h = spill_within s room in
    let empty = spill_empty s room in
    let k : 32 - c.loop-push._push ≡ 0 = omega arith in
    record {
      settles = rw (← c.first-at.ensures.value) (c.loop-push.invariant.1 _ _ (rw k spills));
      held = put_held s.carried _ h empty;
      pairs = fun_ext (put_pairs s.carried _ h empty);
    }
