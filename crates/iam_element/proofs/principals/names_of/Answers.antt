use Rattle.std.proofs.Common.{◌∙◌, ap, map, get_or}
use Rattle.std.specs.List.{filter_map}
use Rattle.serde_json.specs.Find.{get, as_str}
use Rattle.serde_json.specs.View.{view}
use Rattle.iam_element.specs.declared.principals.PrincipalKind.TheVariants.{Aws}
use Rattle.iam_element.specs.Element.{texts_of}
use Rattle.iam_element.specs.Principal.{principal_kinds}
use Rattle.iam_element.specs.Reading.{names_under, typed}
use Rattle.iam_element.proofs.ReadingLemmas.{flat_map_next}
use Rattle.iam_element.proofs.principals.names_of.Goals as goal

pub loop-kind-preserved : goal.loop-kind-preserved
loop-kind-preserved c =
    let element = view c.args.element.now in
    let i = c.loop-kind.kind-index in
    let kind = get_or principal_kinds i Aws in
    let here = typed kind (filter_map as_str (map view c.listed.result.now)) in
    flat_map_next (names_under element) principal_kinds i Aws _ c.loop-kind.names.items _ here c.loop-kind-test.true c.loop-kind.invariant
    c.in_ok-add_names-2.ensures
    (ap (λ ds. typed kind (filter_map as_str ds)) c.listed.ensures
    ∙ ap (λ o. typed kind (texts_of o)) c.get.ensures ∙ ap (λ word. typed kind (texts_of (get word element))) c.word.ensures)
