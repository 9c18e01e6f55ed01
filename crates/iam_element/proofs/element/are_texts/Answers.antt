use Rattle.std.proofs.Common.{sym, ◌∙◌}
use Rattle.serde_json.specs.View.{view}
use Rattle.iam_element.specs.Grammar.{form_of}
use Rattle.iam_element.proofs.ElementLemmas.{are_texts_map}
use Rattle.iam_element.proofs.element.are_texts.Goals as goal

pub returns-then-not-is_empty : goal.returns-then-not-is_empty
returns-then-not-is_empty c =
    are_texts_map (form_of c.args.form) view c.args.values.now c.all_texts.result
    (sym c.is_empty.ensures ∙ c.if-not-is_empty.true) c.all_texts.ensures
