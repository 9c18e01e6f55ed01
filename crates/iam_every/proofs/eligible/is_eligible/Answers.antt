use Rattle.std.proofs.Common.{◌↔◌, All, IfOk, IsTrue, subst}
use Rattle.std.proofs.lemmas.Result.{IfOk-weaker}
use Rattle.iam_match.specs.Entry.{EntryHolds}
use Rattle.iam_every.proofs.eligible.is_eligible.Goals as goal

pub returns : goal.returns
returns c =
    IfOk-weaker c.conditions_hold.result _ _
    (λ held agrees place. (
      λ t. record { principal = c.principal_matches.ensures.0 c.if-not-principal_matches.false; conditions = agrees.0 t },
      λ about. agrees.1 about.conditions,
    ))
    (subst (λ es. IfOk c.conditions_hold.result (λ held. IsTrue held ↔ All (EntryHolds c.args.access.context.now) es)) c.conditions.ensures
    c.conditions_hold.ensures)
