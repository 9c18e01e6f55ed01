use Rattle.std.proofs.Common.{◌∙◌, refl, subst, true}
use Rattle.std.specs.List.{AllZip, filter_map}
use Rattle.serde_json.specs.Find.{as_str}
use Rattle.serde_json.specs.View.{view}
use Rattle.iam_text.specs.Draft.{IsDraftIn}
use Rattle.iam_element.proofs.ReadingLemmas.{resource_read, resource_stands}
use Rattle.iam_element.proofs.resources.read_resource.Goals as goal

pub returns-in_ok-templates-in-Some : goal.returns-in_ok-templates-in-Some
returns-in_ok-templates-in-Some c =
    let members = c.statement.inside in
    let s = view members.document.now in
    let element = c.in-Some.element in
    let texts = c.in_ok-templates-in-Some.field-0.items in
    let stands = resource_stands s element.is_negated members.resource members.not_resource c.statement.invariant.resource_is c.statement.invariant.not_resource_is in
    rw (← c.statement.view_is)
    (resource_read c.args.version s (record { negated = element.is_negated; texts = texts }) element.is_negated (view element.value.now) (stands ∙ c.in-Some.ensures) refl
    (subst (λ ds. AllZip (IsDraftIn c.args.version true) (filter_map as_str ds) texts) c.values_in.ensures c.in_ok-templates-in-Some.ensures))
