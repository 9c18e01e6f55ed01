use Rattle.std.proofs.lemmas.Result.{IfOk-weaker}
use Rattle.iam_open_changes.specs.Code.Same.{Excludes}
use Rattle.iam_open_changes.proofs.LookLemmas.{excludes_nothing}
use Rattle.iam_open_changes.proofs.SideLemmas.{of_both}
use Rattle.iam_open_changes.proofs.same.exclusions.Goals as goal

pub returns-in-Has-Has : goal.returns-in-Has-Has
returns-in-Has-Has c =
    IfOk-weaker c.excluded_of.result _ _
    (λ excluded told.
    of_both (λ one other was now. Excludes one other was now excluded) c.args.sides c.in-Has-Has.before c.in-Has-Has.after c.in-Has-Has.is-0 c.in-Has-Has.is-1 told)
    c.excluded_of.ensures

pub returns-in_default : goal.returns-in_default
returns-in_default c = λ one other was now before after. excludes_nothing one other was now

pub returns-in_default-2 : goal.returns-in_default-2
returns-in_default-2 c = λ one other was now before after. excludes_nothing one other was now
