use Rattle.serde_json.specs.View.{view}
use Rattle.iam_shape.proofs.Found.{unknown_more}
use Rattle.iam_shape.proofs.account_members.keep.Goals as goal

pub returns-in_default : goal.returns-in_default
returns-in_default c = λ all rest before.
    unknown_more c.args.found c.args.name.now (view c.args.value.now) all rest c.in_default.not-id c.in_default.not-management c.in_default.not-org before
