use Rattle.std.proofs.Common.{sym, ◌∙◌}
use Rattle.leases.specs.Stretches.{Leased}
use Rattle.leases.proofs.Carrying.{release_spaced, release_absent, release_other, release_done}
use Rattle.leases.proofs.stretches.Leases.release.Goals as goal

pub returns-in_default : goal.returns-in_default
returns-in_default g c =
    let v = g.L.OrderedIndex.view c.args.self.now.index in
    let u = g.L.OrderedIndex.view c.find-found.new.self in
    let law = g.met.L.OrderedIndex.lawful c.args.self.now.index in
    let ok : Leased v = record { unshut = c.requires.unshut; spaced = c.args.self.now.spaced } in
    let step = c.find-found.ensures in
    release_absent v law ok c.args.start c.args.holder.number c.requires.fit u c.find-found.result step c.in_default.field-0 c.in_default.is

pub returns-then-holder-number : goal.returns-then-holder-number
returns-then-holder-number g c =
    let v = g.L.OrderedIndex.view c.args.self.now.index in
    let u = g.L.OrderedIndex.view c.find-found.new.self in
    let law = g.met.L.OrderedIndex.lawful c.args.self.now.index in
    let ok : Leased v = record { unshut = c.requires.unshut; spaced = c.args.self.now.spaced } in
    let step = c.find-found.ensures in
    rw c.refused.ensures
    (release_other v law ok c.args.start c.args.holder.number c.requires.fit u c.find-found.result step c.in-Ok.standing c.in-Ok.is
    (λ e. c.if-holder-number.true (c.holder.ensures ∙ e ∙ sym c.number.ensures)))

pub returns : goal.returns
returns g c =
    let v = g.L.OrderedIndex.view c.args.self.now.index in
    let u = g.L.OrderedIndex.view c.find-found.new.self in
    let v' = g.L.OrderedIndex.view c.remove-removed.new.self in
    let law = g.met.L.OrderedIndex.lawful c.args.self.now.index in
    let ok : Leased v = record { unshut = c.requires.unshut; spaced = c.args.self.now.spaced } in
    let both =
    release_done v law ok c.args.start c.args.holder.number c.requires.fit u c.find-found.result c.find-found.ensures c.in-Ok.standing c.in-Ok.is
    (sym c.holder.ensures ∙ c.if-holder-number.false ∙ c.number.ensures) v' c.remove-removed.result c.remove-removed.ensures in
    rw c.joined.ensures both.0

pub invariant_of-self : goal.invariant_of-self
invariant_of-self g c =
    let v = g.L.OrderedIndex.view c.args.self.now.index in
    let law = g.met.L.OrderedIndex.lawful c.args.self.now.index in
    let ok : Leased v = record { unshut = c.requires.unshut; spaced = c.args.self.now.spaced } in
    record { spaced = release_spaced v law ok c.args.start c.args.holder.number c.requires.fit _ c.find-found.result c.find-found.ensures }

pub invariant_of-self-then-holder-number : goal.invariant_of-self-then-holder-number
invariant_of-self-then-holder-number g c =
    let v = g.L.OrderedIndex.view c.args.self.now.index in
    let law = g.met.L.OrderedIndex.lawful c.args.self.now.index in
    let ok : Leased v = record { unshut = c.requires.unshut; spaced = c.args.self.now.spaced } in
    record { spaced = release_spaced v law ok c.args.start c.args.holder.number c.requires.fit _ c.find-found.result c.find-found.ensures }

pub invariant_of-self-2 : goal.invariant_of-self-2
invariant_of-self-2 g c =
    let v = g.L.OrderedIndex.view c.args.self.now.index in
    let u = g.L.OrderedIndex.view c.find-found.new.self in
    let v' = g.L.OrderedIndex.view c.remove-removed.new.self in
    let law = g.met.L.OrderedIndex.lawful c.args.self.now.index in
    let ok : Leased v = record { unshut = c.requires.unshut; spaced = c.args.self.now.spaced } in
    let both =
    release_done v law ok c.args.start c.args.holder.number c.requires.fit u c.find-found.result c.find-found.ensures c.in-Ok.standing c.in-Ok.is
    (sym c.holder.ensures ∙ c.if-holder-number.false ∙ c.number.ensures) v' c.remove-removed.result c.remove-removed.ensures in
    record { spaced = both.1 }
