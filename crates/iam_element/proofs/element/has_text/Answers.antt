use Rattle.std.proofs.Common.{sym, ◌∙◌, ap}
use Rattle.std.specs.List.{list_any}
use Rattle.iam_element.proofs.ElementLemmas.{list_any_map}
use Rattle.serde_json.specs.View.{view}
use Rattle.iam_element.specs.Element.{is_text}
use Rattle.iam_element.specs.Grammar.{form_of}
use Rattle.iam_element.proofs.element.has_text.Goals as goal

pub returns : goal.returns
returns c =
    let test = is_text (form_of c.args.form) in
    c.any_text.ensures ∙ sym (list_any_map test view c.listed.result.now) ∙ ap (list_any test) c.listed.ensures
