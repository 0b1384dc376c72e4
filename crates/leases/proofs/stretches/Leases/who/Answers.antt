use Rattle.std.proofs.Common.{◌^◌, ◌<◌, arith}
use Rattle.ordered.specs.Answers.{no_of}
use Rattle.leases.specs.Plans.{Planned}
use Rattle.leases.specs.Commands.{who_plan}
use Rattle.ordered.specs.declared.refusal.Refusal.TheVariants.{Absent}
use Rattle.leases.specs.Stretches.{Leased}
use Rattle.leases.proofs.Carrying.{who_small, who_none, who_short, who_found, who_spaced}
use Rattle.leases.proofs.stretches.Leases.who.Goals as goal
use Rattle.leases.proofs.stretches.Leases.who.Goals.{in-Ok+else-finish-station, in_default}

pub finish-requires : goal.finish-requires
finish-requires g c =
    let v = g.L.OrderedIndex.view c.args.self.now.index in
    let u = g.L.OrderedIndex.view c.last-below.new.self in
    let law = g.met.L.OrderedIndex.lawful c.args.self.now.index in
    let ok : Leased v = record { unshut = c.requires.unshut; spaced = c.args.self.now.spaced } in
    let small : c.in-Ok.standing.key < 2 ^ 32 =
    who_small v law ok c.args.station c.requires.fit u c.last-below.result c.last-below.ensures c.in-Ok.standing c.in-Ok.is in
    omega arith

pub returns-then-finish-station : goal.returns-then-finish-station
returns-then-finish-station g c =
    let v = g.L.OrderedIndex.view c.args.self.now.index in
    let u = g.L.OrderedIndex.view c.last-below.new.self in
    let law = g.met.L.OrderedIndex.lawful c.args.self.now.index in
    let ok : Leased v = record { unshut = c.requires.unshut; spaced = c.args.self.now.spaced } in
    let step = c.last-below.ensures in
    who_found v law ok c.args.station c.requires.fit u c.last-below.result step c.in-Ok.standing c.in-Ok.is (omega (arith, c.finish.ensures))

pub returns : goal.returns
returns g c =
    let v = g.L.OrderedIndex.view c.args.self.now.index in
    let u = g.L.OrderedIndex.view c.last-below.new.self in
    let law = g.met.L.OrderedIndex.lawful c.args.self.now.index in
    let ok : Leased v = record { unshut = c.requires.unshut; spaced = c.args.self.now.spaced } in
    let step = c.last-below.ensures in
    let a = c.last-below.result in
    let none : Planned v (who_plan v c.args.station) (no_of Absent a.frames a.visits) u =
    elim c.match-below.branch [
      | in-Ok+else-finish-station w ↦
          who_short v law ok c.args.station c.requires.fit u a step w.in-Ok.standing w.in-Ok.is (omega (arith, w.if-finish-station.false, w.finish.ensures))
      | in_default w ↦ who_none v law ok c.args.station c.requires.fit u a step w.in_default.field-0 w.in_default.is
    ] in
    rw c.refused.ensures none

pub invariant_of-self : goal.invariant_of-self
invariant_of-self g c =
    let v = g.L.OrderedIndex.view c.args.self.now.index in
    let law = g.met.L.OrderedIndex.lawful c.args.self.now.index in
    let ok : Leased v = record { unshut = c.requires.unshut; spaced = c.args.self.now.spaced } in
    record { spaced = who_spaced v law ok c.args.station c.requires.fit _ c.last-below.result c.last-below.ensures }
