use Rattle.std.proofs.Common.{◌∙◌, sym}
use Rattle.serde_json.specs.View.{view}
use Rattle.iam_condition.proofs.WalkLemmas.{under_name}
use Rattle.iam_condition.proofs.form.member_has.Goals as goal

pub returns-in-Some : goal.returns-in-Some
returns-in-Some c =
    c.keys_have.ensures ∙ under_name c.args.fault c.in-Some.operator (c.args.name.now, view c.args.keys.now) (sym c.in-Some.ensures)
