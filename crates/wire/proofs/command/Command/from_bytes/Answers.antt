use Rattle.std.proofs.Common.{◌≡◌, ◌≢◌, MatchResult, Result, Ok, Err, sym, ap, ◌∙◌}
use Rattle.ordered.specs.declared.refusal.Refusal.{Refusal}
use Rattle.ordered.specs.declared.refusal.Refusal.TheVariants.{Malformed}
use Rattle.wire.specs.declared.command.Command.{Command}
use Rattle.wire.specs.declared.record.Record.{Record}
use Rattle.wire.specs.Commands.{fields}
use Rattle.wire.proofs.Weights.{wire_same}
use Rattle.wire.proofs.Holders.{fields_same}
use Rattle.wire.proofs.command.Command.from_bytes.Goals as goal

read_only : (x : Record) (r : Result Command Refusal) → MatchResult r (λ d. fields d ≡ x) (λ e. (e ≡ Malformed) × ((d : Command) → fields d ≢ x)) → (c : Command) → x ≡ fields c → r ≡ Ok c
read_only x (Ok d) is c same = ap Ok (fields_same d c (is ∙ same))
read_only x (Err e) none c same = absurd (none.1 c (sym same))

pub returns-clause-exact : goal.returns-clause-exact
returns-clause-exact c = λ d s.
    let form = c.in_ok-from_bytes.field-0 in
    let read = c.in_ok-from_bytes.ensures in
    read_only form c.try_from.result c.try_from.ensures d (wire_same form (fields d) read.1 s.within (sym read.0 ∙ s.bytes))
