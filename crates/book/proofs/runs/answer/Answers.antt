use Rattle.std.proofs.Common.{ℕ, ap, ◌∙◌}
use Rattle.wire.specs.Replies.{reply}
use Rattle.book.proofs.runs.answer.Goals as goal

pub returns : goal.returns
returns g c = record { answer = c.serve-told.result; served = c.serve-told.ensures; bytes = c.reply.ensures ∙ ap (λ (k : ℕ). reply k c.serve-told.result) c.code_of.ensures }
