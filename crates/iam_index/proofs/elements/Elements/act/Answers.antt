use Rattle.std.proofs.Common.{◌≡◌, ◌↔◌, Bool, IsTrue, List, Some, ap, sym, ◌∙◌, subst}
use Rattle.std.proofs.lemmas.Option.{slice_get-get_or}
use Rattle.std.specs.List.{slice_get}
use Rattle.iam_element.specs.Reading.{ActionElement}
use Rattle.iam_match.specs.Statement.{ActionMatches}
use Rattle.iam_index.specs.declared.elements.Element.{Element}
use Rattle.iam_index.proofs.ListLemmas.{some_same}
use Rattle.iam_index.proofs.elements.Elements.act.Goals as goal

pub returns : goal.returns
returns c = λ world action text right has asked.
    let n = c.args.number in
    let a = c.args.a in
    let element = c.in_ok-get.field-0.now in
    let act = c.in_ok-act.field-0.now in
    let (_, first, _, (inside, _), _) = c.in_ok-get.ensures.lookup in
    let (_, second, _, (within, _), _) = c.in_ok-act.ensures.lookup in
    let E : List Element → Type 0 = λ all. slice_get all n ≡ Some element in
    let A : List Bool → Type 0 = λ acts. slice_get acts a ≡ Some act in
    let there = subst E c.deref.ensures.value (slice_get-get_or c.deref.result.now n element inside ∙ ap Some (sym first)) in
    let here = subst A c.deref-2.ensures.value (slice_get-get_or c.deref-2.result.now a act within ∙ ap Some (sym second)) in
    let (kept, at, same) = has in
    let own : element.action.now ≡ action = ap (λ (e : Element). e.action.now) (some_same element kept (sym there ∙ at)) ∙ same in
    let M : ActionElement → Type 0 = λ e. IsTrue act ↔ ActionMatches e text in
    subst M own ((right n element there).acts a act text here asked)
