-- What a book does with the bytes of a command.
--
--   Served     a shut book refuses everything; otherwise bytes that spell a command are obeyed, and others
--              refused by their length or as malformed, with nothing altered
--   Answered   the same, with the answer in its 32 bytes
use Rattle.std.specs.Prelude.{◌≡◌, ℕ, true, false, List}
use Rattle.ordered.specs.declared.calls.Answer.{Answer}
use Rattle.ordered.specs.declared.refusal.Refusal.{Refusal}
use Rattle.ordered.specs.declared.refusal.Refusal.TheVariants.{Shut}
use Rattle.wire.specs.declared.command.Command.{Command}
use Rattle.wire.specs.Reading.{Spells, Unread, code_of}
use Rattle.wire.specs.Replies.{reply}
use Rattle.ordered.specs.Answers.{no_of}
use Rattle.book.specs.Books.{BookView, Did, shut}

pub data Served (b : BookView) (bs : List ℕ) (r : Answer) (b' : BookView) : Type 0 where
  turned : shut b ≡ true → r ≡ no_of Shut 0 0 → b' ≡ b → Served b bs r b'
  unread : (e : Refusal) → shut b ≡ false → Unread bs e → r ≡ no_of e 0 0 → b' ≡ b → Served b bs r b'
  obeyed : (c : Command) → shut b ≡ false → Spells bs c → Did b c r b' → Served b bs r b'

pub record Answered (b : BookView) (bs out : List ℕ) (b' : BookView) : Type 0 where
  pub answer : Answer
  pub served : Served b bs answer b'
  pub bytes : out ≡ reply (code_of bs) answer
