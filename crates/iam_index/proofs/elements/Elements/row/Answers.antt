use Rattle.std.proofs.Common.{◌≡◌, Bool, List, ap, sym, ◌∙◌, subst}
use Rattle.std.proofs.lemmas.Option.{get_or_from_slice_get}
use Rattle.iam_element.specs.Reading.{ActionElement}
use Rattle.iam_index.specs.Elements.{TellActs}
use Rattle.iam_index.specs.declared.elements.Element.{Element}
use Rattle.iam_index.proofs.elements.Elements.row.Goals as goal

pub returns-in-Some : goal.returns-in-Some
returns-in-Some c = λ world right.
    let elements = c.args.self.now.elements.items in
    let n = c.in-Some.number in
    let (element, at, same) = c.in-Some.ensures in
    let own : element ≡ c.index.result.now = sym (get_or_from_slice_get elements n element c.index.result.now at) ∙ sym c.index.ensures in
    let A : ActionElement → Type 0 = λ e. TellActs world e element.acts.items in
    let L : List Bool → Type 0 = λ acts. TellActs world c.args.action.now acts in
    subst L (ap (λ (e : Element). e.acts.items) own ∙ sym c.as_slice.ensures.value) (subst A same (right n element at).acts)
