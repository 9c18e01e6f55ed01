use Rattle.std.proofs.Common.{subst}
use Rattle.iam_layers.specs.Unnamed.{IsSaid}
use Rattle.iam_layers.specs.declared.unnamed.Unnamed.{Unnamed}
use Rattle.iam_open.proofs.SeatLemmas.{bare_gives}
use Rattle.iam_open.proofs.scene.said_part.Goals as goal

pub returns-in-Of : goal.returns-in-Of
returns-in-Of c = λ text resource said.
    bare_gives c.args.world.now c.args.none.now.items c.in-Of.field-0 text resource (c.requires.empty c.in-Of.field-0 c.in-Of.is)
    (subst (λ (u : Unnamed). IsSaid c.args.world.now u text resource) c.in-Of.is said)
