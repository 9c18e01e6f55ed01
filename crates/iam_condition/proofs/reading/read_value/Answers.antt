use Rattle.std.proofs.Common.{◌≡◌, ◌∙◌, Some, option_map, string_bytes, sym, ap}
use Rattle.serde_json.specs.View.{view}
use Rattle.iam_json.specs.Scalar.{scalar_text}
use Rattle.iam_condition.proofs.ReadingLemmas.{other_is_fine}
use Rattle.iam_condition.proofs.reading.read_value.Goals as goal

pub read_text-requires-2 : goal.read_text-requires-2
read_text-requires-2 c =
    let d = view c.args.value.now in
    let text : scalar_text d ≡ Some c.as_str-2.result.now =
    sym c.in_ok-scalar_text.ensures ∙ ap (option_map string_bytes) c.unwrap-text.ensures ∙ ap Some (sym c.as_str-2.ensures.value) in
    other_is_fine c.args.version c.args.base d c.as_str-2.result.now (sym c.in_default.ensures) text c.requires
