use Rattle.std.proofs.Common.{◌∙◌, Some, ap, map}
use Rattle.serde_json.specs.View.{view}
use Rattle.iam_json.proofs.Lists.{values_array}
use Rattle.iam_json.proofs.look.values.Goals as goal

pub returns-in-Some : goal.returns-in-Some
returns-in-Some c =
    ap (λ vs. Some (map view vs)) c.as_slice.ensures.value ∙ values_array (view c.args.of.now) (map view c.in-Some.list.now.items) c.in-Some.ensures
