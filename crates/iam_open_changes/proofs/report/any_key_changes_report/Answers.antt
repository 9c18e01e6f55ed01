use Rattle.std.proofs.Common.{◌≡◌, ◌∙◌, ◌++◌, List, ap}
use Rattle.std.specs.List.{flat_map}
use Rattle.iam_open_changes.specs.Code.Adds.{joined_kinds, kinds_with, no_kinds}
use Rattle.iam_open_changes.specs.declared.rows.Part.{Part}
use Rattle.iam_open_changes.proofs.AddsLemmas.{with_behind}
use Rattle.iam_open_changes.proofs.PartLemmas.{text_of, whole_is}
use Rattle.iam_open_changes.proofs.report.any_key_changes_report.Goals as goal

pub returns : goal.returns
returns g c =
    let before = c.args.requests.now.before in
    let after = c.args.requests.now.after in
    let firsts : List Part = c.in_ok-firsts.firsts.items in
    let lasts : List Part = c.in_ok-lasts.lasts.items in
    let one = flat_map text_of firsts in
    let other = flat_map text_of lasts in
    let bytes : c.as_bytes.result.now ≡ one ++ other =
    c.as_bytes.ensures.value ∙ c.in_ok-put_parts-2.ensures.text
    ∙ ap (λ it. it ++ flat_map text_of c.as_slice-2.result.now) c.in_ok-put_parts.ensures.text
    ∙ ap (λ it. (it ++ flat_map text_of c.as_slice.result.now) ++ flat_map text_of c.as_slice-2.result.now) c.new-whole.ensures.text
    ∙ ap (λ it. flat_map text_of it ++ flat_map text_of c.as_slice-2.result.now) c.as_slice.ensures.value
    ∙ ap (λ it. one ++ flat_map text_of it) c.as_slice-2.ensures.value in
    let kinds : c.put_parts-2.new.whole.kinds ≡ joined_kinds (kinds_with no_kinds firsts) (kinds_with no_kinds lasts) =
    c.in_ok-put_parts-2.ensures.kinds ∙ ap (λ it. kinds_with it c.as_slice-2.result.now) c.in_ok-put_parts.ensures.kinds
    ∙ ap (λ it. kinds_with (kinds_with it c.as_slice.result.now) c.as_slice-2.result.now) c.new-whole.ensures.kinds
    ∙ ap (λ it. kinds_with (kinds_with no_kinds it) c.as_slice-2.result.now) c.as_slice.ensures.value
    ∙ ap (λ it. kinds_with (kinds_with no_kinds firsts) it) c.as_slice-2.ensures.value ∙ with_behind (kinds_with no_kinds firsts) lasts in
    whole_is c.args.format c.args.brief before after one other (kinds_with no_kinds firsts) (kinds_with no_kinds lasts)
    c.in_ok-report_text.field-0.items c.put_parts-2.new.whole.kinds c.in_ok-firsts.ensures c.in_ok-lasts.ensures
    (λ all same. c.in_ok-report_text.ensures all (bytes ∙ same)) kinds
