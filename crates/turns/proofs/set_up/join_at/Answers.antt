use Rattle.std.proofs.Common.{sym, ◌∙◌}
use Rattle.turns.proofs.set_up.join_at.Goals as goal

pub rep-requires : goal.rep-requires
rep-requires g c = (c.requires.links c.in-Some.low c.in-Some.high (sym c.get.ensures.value ∙ c.in-Some.is)).0

pub rep-requires-in-Some : goal.rep-requires-in-Some
rep-requires-in-Some g c = (c.requires.links c.in-Some.low c.in-Some.high (sym c.get.ensures.value ∙ c.in-Some.is)).1
