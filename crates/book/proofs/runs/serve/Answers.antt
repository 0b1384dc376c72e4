use Rattle.std.proofs.Common.{sym, refl, ◌∙◌}
use Rattle.book.specs.Serving.{unread, obeyed}
use Rattle.book.proofs.runs.serve.Goals as goal

pub returns-in-Ok : goal.returns-in-Ok
returns-in-Ok g c = obeyed c.in-Ok.command (sym c.is_shut.ensures ∙ c.if-is_shut.false) c.in-Ok.ensures.read c.obey.ensures

pub returns-in-Err : goal.returns-in-Err
returns-in-Err g c = unread c.in-Err.refusal (sym c.is_shut.ensures ∙ c.if-is_shut.false) c.in-Err.ensures.read c.refused-in-Err.ensures refl
