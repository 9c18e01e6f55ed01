use Rattle.std.proofs.Common.{◌∙◌, sym, ap}
use Rattle.std.specs.List.{list_any}
use Rattle.serde_json.specs.View.{view}
use Rattle.iam_condition.specs.Condition.{is_bad_text}
use Rattle.iam_condition.proofs.WalkLemmas.{any_map}
use Rattle.iam_condition.proofs.form.key_has.Goals as goal

pub returns-then-has_texts : goal.returns-then-has_texts
returns-then-has_texts c =
    let texts = sym c.has_texts.ensures ∙ c.if-has_texts.true in
    let values = c.values_under-values in
    rw (c.in-BadText.is, texts)
    (c.is_some_text_bad.ensures ∙ sym (any_map view (is_bad_text c.in-BadText.version) values.result.now) ∙ ap (list_any (is_bad_text c.in-BadText.version)) values.ensures)
