use Rattle.std.proofs.Common.{Option, refl, subst, sym}
use Rattle.iam_open_changes.specs.Sides.{IsSideAt}
use Rattle.iam_open_changes.specs.declared.numbers.Numbers.{Numbers}
use Rattle.iam_open_changes.specs.declared.side.Request.{Request}
use Rattle.iam_open_changes.specs.declared.side.Side.TheVariants.{Has}
use Rattle.iam_open_changes.proofs.SideLemmas.{has_named}
use Rattle.iam_open_changes.proofs.side.Side.of.Goals as goal

pub returns-in-Some : goal.returns-in-Some
returns-in-Some c =
    let request : Request = record { scene = c.named.result; action = c.action_text.result } in
    subst (λ (at : Option Numbers). IsSideAt (Has request) c.args.world.now at) (sym c.in-Some.is)
    (has_named request c.args.world.now c.in-Some.it c.named.ensures.principal c.named.ensures.seat c.action_text.ensures)

pub returns-in-None : goal.returns-in-None
returns-in-None c = (refl, c.in-None.is)
