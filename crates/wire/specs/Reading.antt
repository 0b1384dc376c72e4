-- What is read in some bytes.
--
--   Spells bs c   the bytes are those of the command c, whose numbers have 64 bits
--   Unread bs e   the refusal of bytes that spell no command: they are not 32, or no command has them
--   Read bs r     the command that the bytes spell, or that refusal
--   known         the codes of the ten commands
--   code_of       the code that an answer repeats
use Rattle.std.specs.Prelude.{◌≡◌, ℕ, Bool, cond, ◌&&◌, List, length, Ok, Err, Result, ◌==◌, ◌≢◌, nat_le, slice_index}
use Rattle.ordered.specs.declared.refusal.Refusal.{Refusal}
use Rattle.ordered.specs.declared.refusal.Refusal.TheVariants.{Length, Malformed}
use Rattle.wire.specs.declared.command.Command.{Command}
use Rattle.wire.specs.Records.{wire, Within}
use Rattle.wire.specs.Commands.{fields}

pub record Spells (bs : List ℕ) (c : Command) : Type 0 where
  pub bytes : bs ≡ wire (fields c)
  pub within : Within (fields c)

pub data Unread (bs : List ℕ) (e : Refusal) : Type 0 where
  long : (length bs ≢ 32) → e ≡ Length → Unread bs e
  foreign : length bs ≡ 32 → ((c : Command) → Spells bs c → ⊥) → e ≡ Malformed → Unread bs e

abbrev pub Read : List ℕ → Result Command Refusal → Type 0
Read bs (Ok c) = Spells bs c
Read bs (Err e) = Unread bs e

abbrev pub known : ℕ → Bool
known c = nat_le 1 c && nat_le c 10

abbrev pub code_of : List ℕ → ℕ
code_of bs = cond (length bs == 32 && known (slice_index bs 0)) (slice_index bs 0) 0
