-- Holders with equal numbers are equal, and so are the commands of equal records.
use Rattle.std.proofs.Common.{◌≡◌, ℕ, ◌^◌, ◌<◌, ap, subst, arith}
use mathlib.Core.HLevel.{×_prop}
use native.Mathlib.Bridge.{le_prop}
use Rattle.wire.specs.declared.holder.Holder.{Holder}
use Rattle.wire.specs.declared.record.Record.{Record}
use Rattle.wire.specs.declared.command.Command.{Command}
use Rattle.wire.specs.declared.command.Command.TheVariants.{Lease, Release}
use Rattle.wire.specs.Commands.{fields}

holder : (n : ℕ) → (0 < n) × (n < 2 ^ 32) → Holder
holder n h = record { number = n; bounds = h }

pub holder_same : (a b : Holder) → a.number ≡ b.number → a ≡ b
unfolding holder
holder_same a b e =
    let P : ℕ → Type 0 = λ m. (q : (0 < m) × (m < 2 ^ 32)) → a ≡ holder m q in
    subst P e (λ q. ap (holder a.number) (×_prop le_prop le_prop a.bounds q)) b.bounds

pub fields_same : (c d : Command) → fields c ≡ fields d → c ≡ d
fields_same (Lease f s h) (Lease g t i) e =
    let q : h ≡ i = holder_same h i (ap (λ (x : Record). x.note) e) in
    grind arith
fields_same (Release f h) (Release g i) e =
    let q : h ≡ i = holder_same h i (ap (λ (x : Record). x.note) e) in
    grind arith
fields_same c d e = grind arith
