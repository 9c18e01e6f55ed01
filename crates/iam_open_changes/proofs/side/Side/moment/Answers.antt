use Rattle.std.proofs.Common.{◌≡◌, subst, sym}
use Rattle.iam_open_changes.specs.Sides.{OfSide}
use Rattle.iam_open_changes.specs.declared.side.Side.{Side}
use Rattle.iam_open_changes.proofs.SideLemmas.{moment_has, moment_lacks}
use Rattle.iam_open_changes.proofs.side.Side.moment.Goals as goal

pub returns-in-Has-clause-is : goal.returns-in-Has-clause-is
returns-in-Has-clause-is c =
    subst (λ (side : Side). OfSide side (λ other at. c.moment.result ≡ other.moment)) (sym c.in-Has.is)
    (moment_has c.in-Has.request c.moment.result c.moment.ensures.value)

pub returns-in-Lacks-clause-is : goal.returns-in-Lacks-clause-is
returns-in-Lacks-clause-is c =
    subst (λ (side : Side). OfSide side (λ other at. c.moment-in-Lacks.result ≡ other.moment)) (sym c.in-Lacks.is)
    (moment_lacks c.in-Lacks.world c.moment-in-Lacks.result c.moment-in-Lacks.ensures.value)
