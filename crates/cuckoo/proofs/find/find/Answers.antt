use Rattle.std.proofs.Common.{◌≡◌, ◌+◌, ◌-◌, rules, ◌<◌, ◌∙◌, sym, arith}
use Rattle.cuckoo.proofs.Standing.{nowhere}
use Rattle.cuckoo.proofs.Packing.{packed_within, part_long, part_at}
use Rattle.cuckoo.proofs.find.find.Goals as goal

pub slice_bounds-place_in-end : goal.slice_bounds-place_in-end
slice_bounds-place_in-end c = let r = c.args.rows.now in omega (arith, packed_within r.slots r.spilled r.packed)

pub returns-in_err-place : goal.returns-in_err-place
returns-in_err-place c =
    let r = c.args.rows.now in
    let m : 1024 + r.spilled - 1024 ≡ r.spilled = omega arith in
    let none =
    nowhere _ _ _ r.placed r.packed c.requires.some (rw (← c.first-one.ensures.value) c.if-rows-one.false) (rw (← c.second-two.ensures.value) c.if-rows-two.false)
    (λ k pe is.
    let e : 1024 + (k - 1024) ≡ k = omega (arith, pe.0) in
    let low : k - 1024 < r.spilled = omega (arith, pe.0, pe.1) in
    c.in_err-place.ensures (k - 1024) (omega (arith, low, part_long r.slots r.spilled r.packed _ m)) (part_at r.slots r.spilled r.packed _ m (k - 1024) low ∙ rw e is)) in
    search rules

pub returns : goal.returns
returns c =
    let r = c.args.rows.now in
    let m : 1024 + r.spilled - 1024 ≡ r.spilled = omega arith in
    let low : c.in_ok-place.place < r.spilled = omega (arith, c.in_ok-place.ensures.0, part_long r.slots r.spilled r.packed _ m) in
    (omega (arith, low, packed_within r.slots r.spilled r.packed), sym (part_at r.slots r.spilled r.packed _ m c.in_ok-place.place low) ∙ c.in_ok-place.ensures.1)
