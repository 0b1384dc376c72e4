use Rattle.std.proofs.Common.{◌^◌, ◌<◌, ◌≤◌, length, arith}
use Rattle.leases.proofs.Deciding.{Free}
use Rattle.leases.specs.Stretches.{Leased}
use Rattle.leases.proofs.Carrying.{lease_full, lease_spaced, found_small, lease_shared, free_none, free_short, lease_granted}
use Rattle.leases.proofs.stretches.Leases.lease.Goals as goal
use Rattle.leases.proofs.stretches.Leases.lease.Goals.{in-Ok+else-finish-first, in_default}

pub returns-then-len-limit : goal.returns-then-len-limit
returns-then-len-limit g c =
    let v = g.L.OrderedIndex.view c.args.self.now.index in
    let law = g.met.L.OrderedIndex.lawful c.args.self.now.index in
    let ok : Leased v = record { unshut = c.requires.unshut; spaced = c.args.self.now.spaced } in
    let full : v.limit ≤ length v.entries = omega (arith, c.len.ensures, c.limit.ensures) in
    rw c.refused.ensures (lease_full v law ok c.args.first c.args.second c.args.holder.number c.args.holder.bounds c.requires.fit full)

pub finish-requires : goal.finish-requires
finish-requires g c =
    let v = g.L.OrderedIndex.view c.args.self.now.index in
    let u = g.L.OrderedIndex.view c.last-before.new.self in
    let law = g.met.L.OrderedIndex.lawful c.args.self.now.index in
    let ok : Leased v = record { unshut = c.requires.unshut; spaced = c.args.self.now.spaced } in
    let room : length v.entries < v.limit = omega (arith, c.len.ensures, c.limit.ensures) in
    let small : c.in-Ok.standing.key < 2 ^ 32 =
    found_small v law ok c.args.first c.args.second c.args.holder.number c.args.holder.bounds c.requires.fit u c.last-before.result c.last-before.ensures room
    c.in-Ok.standing c.in-Ok.is in
    omega arith

pub returns-then-finish-first : goal.returns-then-finish-first
returns-then-finish-first g c =
    let v = g.L.OrderedIndex.view c.args.self.now.index in
    let u = g.L.OrderedIndex.view c.last-before.new.self in
    let law = g.met.L.OrderedIndex.lawful c.args.self.now.index in
    let ok : Leased v = record { unshut = c.requires.unshut; spaced = c.args.self.now.spaced } in
    let room : length v.entries < v.limit = omega (arith, c.len.ensures, c.limit.ensures) in
    let step = c.last-before.ensures in
    rw c.refused-then-finish-first.ensures
    (lease_shared v law ok c.args.first c.args.second c.args.holder.number c.args.holder.bounds c.requires.fit u c.last-before.result step room
    c.in-Ok.standing c.in-Ok.is (omega (arith, c.finish.ensures)))

pub returns : goal.returns
returns g c =
    let v = g.L.OrderedIndex.view c.args.self.now.index in
    let u = g.L.OrderedIndex.view c.last-before.new.self in
    let v' = g.L.OrderedIndex.view c.add-added.new.self in
    let law = g.met.L.OrderedIndex.lawful c.args.self.now.index in
    let ok : Leased v = record { unshut = c.requires.unshut; spaced = c.args.self.now.spaced } in
    let room : length v.entries < v.limit = omega (arith, c.len.ensures, c.limit.ensures) in
    let step = c.last-before.ensures in
    let free : Free v.entries c.args.first c.args.second =
    elim c.match-before.branch [
      | in-Ok+else-finish-first w ↦
          free_short v law ok c.args.first c.args.second c.args.holder.number c.args.holder.bounds c.requires.fit u c.last-before.result step room
          w.in-Ok.standing w.in-Ok.is (omega (arith, w.if-finish-first.false, w.finish.ensures))
      | in_default w ↦
          free_none v law ok c.args.first c.args.second c.args.holder.number c.args.holder.bounds c.requires.fit u c.last-before.result step room
          w.in_default.field-0 w.in_default.is
    ] in
    let added = rw c.entered-entry.ensures at c.add-added.ensures in
    let both =
    lease_granted v law ok c.args.first c.args.second c.args.holder.number c.args.holder.bounds c.requires.fit u c.last-before.result step room free v' c.add-added.result added in
    rw c.joined.ensures both.0

pub invariant_of-self : goal.invariant_of-self
invariant_of-self g c =
    let v = g.L.OrderedIndex.view c.args.self.now.index in
    let law = g.met.L.OrderedIndex.lawful c.args.self.now.index in
    let ok : Leased v = record { unshut = c.requires.unshut; spaced = c.args.self.now.spaced } in
    let room : length v.entries < v.limit = omega (arith, c.len.ensures, c.limit.ensures) in
    record { spaced = lease_spaced v law ok c.args.first c.args.second c.args.holder.number c.args.holder.bounds c.requires.fit _ c.last-before.result c.last-before.ensures room }

pub invariant_of-self-2 : goal.invariant_of-self-2
invariant_of-self-2 g c =
    let v = g.L.OrderedIndex.view c.args.self.now.index in
    let u = g.L.OrderedIndex.view c.last-before.new.self in
    let v' = g.L.OrderedIndex.view c.add-added.new.self in
    let law = g.met.L.OrderedIndex.lawful c.args.self.now.index in
    let ok : Leased v = record { unshut = c.requires.unshut; spaced = c.args.self.now.spaced } in
    let room : length v.entries < v.limit = omega (arith, c.len.ensures, c.limit.ensures) in
    let step = c.last-before.ensures in
    let free : Free v.entries c.args.first c.args.second =
    elim c.match-before.branch [
      | in-Ok+else-finish-first w ↦
          free_short v law ok c.args.first c.args.second c.args.holder.number c.args.holder.bounds c.requires.fit u c.last-before.result step room
          w.in-Ok.standing w.in-Ok.is (omega (arith, w.if-finish-first.false, w.finish.ensures))
      | in_default w ↦
          free_none v law ok c.args.first c.args.second c.args.holder.number c.args.holder.bounds c.requires.fit u c.last-before.result step room
          w.in_default.field-0 w.in_default.is
    ] in
    let added = rw c.entered-entry.ensures at c.add-added.ensures in
    let both =
    lease_granted v law ok c.args.first c.args.second c.args.holder.number c.args.holder.bounds c.requires.fit u c.last-before.result step room free v' c.add-added.result added in
    record { spaced = both.1 }
