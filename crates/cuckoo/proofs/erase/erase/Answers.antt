use Rattle.std.proofs.Common.{◌<◌, length, refl, arith}
use mathlib.Core.Path.{fun_ext}
use Rattle.slots.proofs.Rows.{taken_within}
use Rattle.cuckoo.proofs.Packing.{packed_within}
use Rattle.cuckoo.proofs.Drops.{emptied, filled_gone, filled_placed, at_below, last_taken, filled_packed}
use Rattle.cuckoo.proofs.erase.erase.Goals as goal

pub returns-then-at-lt-OVERFLOW-clause-held : goal.returns-then-at-lt-OVERFLOW-clause-held
returns-then-at-lt-OVERFLOW-clause-held c = (emptied c.args.rows.now.slots c.args.at (omega arith) c.args.rows.now.apart c.requires.some).count

pub returns-then-at-lt-OVERFLOW-clause-pairs : goal.returns-then-at-lt-OVERFLOW-clause-pairs
returns-then-at-lt-OVERFLOW-clause-pairs c = fun_ext (emptied c.args.rows.now.slots c.args.at (omega arith) c.args.rows.now.apart c.requires.some).pairs

pub bounds-rows-last : goal.bounds-rows-last
bounds-rows-last c = let r = c.args.rows.now in omega (arith, packed_within r.slots r.spilled r.packed)

pub bounds-rows-last-2 : goal.bounds-rows-last-2
bounds-rows-last-2 c = let r = c.args.rows.now in omega (arith, packed_within r.slots r.spilled r.packed)

pub overflow_sub-rows : goal.overflow_sub-rows
overflow_sub-rows c = let r = c.args.rows.now in omega (arith, at_below r.slots r.spilled c.args.at r.packed (omega arith) c.requires.some)

pub invariant_of-rows-2 : goal.invariant_of-rows-2
invariant_of-rows-2 c =
    let r = c.args.rows.now in
    let h : c.args.at < length r.slots = omega arith in
    let high = c.if-at-lt-OVERFLOW.false in
    let last = last_taken r.slots r.spilled c.args.at r.packed high c.requires.some in
    let l = taken_within r.slots _ last in
    record {
      placed = filled_placed r.slots c.args.at h r.apart c.requires.some _ l last high r.placed;
      packed = filled_packed r.slots r.spilled c.args.at r.packed high c.requires.some;
      apart = (filled_gone r.slots c.args.at h r.apart c.requires.some _ l last).apart;
    }

pub returns : goal.returns
returns c =
    let r = c.args.rows.now in
    let h : c.args.at < length r.slots = omega arith in
    let high = c.if-at-lt-OVERFLOW.false in
    let last = last_taken r.slots r.spilled c.args.at r.packed high c.requires.some in
    let gone = filled_gone r.slots c.args.at h r.apart c.requires.some _ (taken_within r.slots _ last) last in
    record {
      erased = record { emptied = λ low. absurd (omega arith); filled = λ _. (refl, omega (arith, at_below r.slots r.spilled c.args.at r.packed high c.requires.some)) };
      held = gone.count;
      pairs = fun_ext gone.pairs;
    }
