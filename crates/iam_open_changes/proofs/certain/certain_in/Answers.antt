use Rattle.std.proofs.Common.{IfOk, subst, sym}
use Rattle.iam_open.specs.declared.certain.Certain.TheVariants.{Never}
use Rattle.iam_open_changes.specs.Code.Certain.{IsCertainOf}
use Rattle.iam_open_changes.specs.declared.side.Side.{Side}
use Rattle.iam_open_changes.proofs.CertainLemmas.{certain_has, certain_lacks}
use Rattle.iam_open_changes.proofs.certain.certain_in.Goals as goal

pub returns-in-Has : goal.returns-in-Has
returns-in-Has c =
    subst (λ (side : Side). IfOk c.scene_certain.result (IsCertainOf side)) (sym c.in-Has.is)
    (certain_has c.in-Has.request c.scene_certain.result c.scene_certain.ensures.always c.scene_certain.ensures.never)

pub returns-in-Lacks : goal.returns-in-Lacks
returns-in-Lacks c = subst (λ (side : Side). IsCertainOf side Never) (sym c.in-Lacks.is) (certain_lacks c.in-Lacks.field-0)
