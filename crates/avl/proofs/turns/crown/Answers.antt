use Rattle.std.proofs.Common.{sym, ap, ◌∙◌, subst}
use Rattle.avl.specs.Turns.{hung, Crowned}
use Rattle.avl.proofs.Hooks.{Hook}
use Rattle.avl.proofs.Crowns.{crown_1, crown_2, crown_3, crown_done}
use Rattle.avl.proofs.turns.crown.Goals as goal

pub hang-requires : goal.hang-requires
hang-requires c = crown_1 c.args.nodes.now c.args.spots.0 c.args.spots.1 c.args.spots.2 c.args.under.0 c.args.under.1 c.args.under.2 c.args.under.3 c.requires

pub hang-requires-2 : goal.hang-requires-2
hang-requires-2 c = subst (λ ms. Hook ms c.args.spots.2 c.args.under.2 c.args.under.3) (sym c.hang.ensures)
    (crown_2 c.args.nodes.now c.args.spots.0 c.args.spots.1 c.args.spots.2 c.args.under.0 c.args.under.1 c.args.under.2 c.args.under.3 c.requires)

pub hang-requires-3 : goal.hang-requires-3
hang-requires-3 c = subst (λ ms. Hook ms c.args.spots.1 c.args.spots.0 c.args.spots.2) (sym (c.hang-2.ensures ∙ ap (λ ms. hung ms c.args.spots.2 c.args.under.2 c.args.under.3) c.hang.ensures))
    (crown_3 c.args.nodes.now c.args.spots.0 c.args.spots.1 c.args.spots.2 c.args.under.0 c.args.under.1 c.args.under.2 c.args.under.3 c.requires)

pub returns : goal.returns
returns c = subst (λ ms. Crowned c.args.nodes.now ms c.args.spots.0 c.args.spots.1 c.args.spots.2 c.args.under.0 c.args.under.1 c.args.under.2 c.args.under.3)
    (sym (c.hang-3.ensures ∙ ap (λ ms. hung ms c.args.spots.1 c.args.spots.0 c.args.spots.2) (c.hang-2.ensures ∙ ap (λ ms. hung ms c.args.spots.2 c.args.under.2 c.args.under.3) c.hang.ensures)))
    (crown_done c.args.nodes.now c.args.spots.0 c.args.spots.1 c.args.spots.2 c.args.under.0 c.args.under.1 c.args.under.2 c.args.under.3 c.requires)
