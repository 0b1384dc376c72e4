use Rattle.std.proofs.Common.{sym, refl, ap, ◌∙◌, arith}
use mathlib.Core.Path.{fun_ext}
use Rattle.std.proofs.lemmas.Bool.{leb-true}
use Rattle.dictionary.specs.Pairs.{one_more}
use Rattle.slots.specs.declared.Slot.{Slot}
use Rattle.slots.specs.Slots.{pairs_of, held}
use Rattle.slots.proofs.Rows.{taken_within, pairs_found, pairs_none, renew_apart, pairs_renew}
use Rattle.slots.proofs.Counts.{held_same}
use Rattle.slots.proofs.Laws.{accepts_zero, accepts_full, accepts_held}
use Rattle.slots.proofs.module.ModuleDictionary.put.Goals as goal
use Rattle.slots.proofs.module.ModuleDictionary.put.Goals.{then-node-eq0, else-node-eq0}

pub invariant_of-self-in-Some : goal.invariant_of-self-in-Some
invariant_of-self-in-Some g c =
    let xs = g.L.Layout.rows c.args.self.now.layout in
    let pair : Slot = record { node = c.args.node; low = c.args.low; high = c.args.high } in
    let h = taken_within xs c.in-Some.at (omega (arith, c.in-Some.ensures.0, c.in-Some.ensures.1)) in
    record {
      counted = ap held c.renew.ensures ∙ held_same xs c.in-Some.at pair h (omega (arith, c.in-Some.ensures.0, c.in-Some.ensures.1)) c.in-Some.ensures.0 ∙ c.args.self.now.counted;
      few = c.args.self.now.few;
      counts = omega (arith, c.raise.ensures);
    }

pub returns-in-None-clause-value : goal.returns-in-None-clause-value
returns-in-None-clause-value g c =
    let xs = g.L.Layout.rows c.args.self.now.layout in
    let none = pairs_none xs c.args.node c.in-None.ensures in
    elim c.if-node-eq0.branch [
      | then-node-eq0 w ↦ sym (accepts_zero (pairs_of xs) (held xs) 768 c.args.node w.if-node-eq0.true)
      | else-node-eq0 w ↦ (let full = leb-true _ _ (rw w.value-is at c.if-self-ge-CAPACITY.true) in sym (accepts_full (pairs_of xs) (held xs) 768 c.args.node none (omega arith)))
    ]

pub returns-in-Some : goal.returns-in-Some
returns-in-Some g c =
    let l = c.args.self.now.layout in
    let xs = g.L.Layout.rows l in
    let pair : Slot = record { node = c.args.node; low = c.args.low; high = c.args.high } in
    let pos = c.in-Some.ensures.0 in
    let is = c.in-Some.ensures.1 in
    let h = taken_within xs c.in-Some.at (omega (arith, pos, is)) in
    let apart = g.met.L.Layout.apart l in
    let some = pairs_found xs apart c.in-Some.at c.args.node pos is in
    record {
      value = sym (accepts_held (pairs_of xs) (held xs) 768 c.args.node pos some);
      pairs = ap pairs_of c.renew.ensures ∙ fun_ext (pairs_renew xs c.in-Some.at pair h apart (renew_apart xs c.in-Some.at h apart pair is) is pos);
      held = ap held c.renew.ensures ∙ held_same xs c.in-Some.at pair h (omega (arith, pos, is)) pos ∙ sym (ap (λ o. one_more o (held xs)) some);
      room = refl;
      tally = c.raise.ensures;
    }

pub returns-in-None-2-clause-held : goal.returns-in-None-2-clause-held
returns-in-None-2-clause-held g c =
    let xs = g.L.Layout.rows c.args.self.now.layout in
    let none = pairs_none xs c.args.node c.in-None.ensures in
    c.insert.ensures.held ∙ sym (ap (λ o. one_more o (held xs)) none)
