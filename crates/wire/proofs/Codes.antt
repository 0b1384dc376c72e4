-- The code that an answer repeats is that of the command spelt.
use Rattle.std.proofs.Common.{◌≡◌, ℕ, List, ap, ◌∙◌, arith}
use Rattle.wire.specs.declared.command.Command.{Command}
use Rattle.wire.specs.Records.{wire}
use Rattle.wire.specs.Commands.{fields}
use Rattle.wire.specs.Reading.{Spells, code_of}

code_wired : (c : Command) → code_of (wire (fields c)) ≡ (fields c).code
code_wired c = grind arith

pub code_spelt : (bs : List ℕ) (c : Command) → Spells bs c → code_of bs ≡ (fields c).code
code_spelt bs c s = ap code_of s.bytes ∙ code_wired c
