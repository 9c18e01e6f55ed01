use Rattle.std.proofs.Common.{◌≡◌, ◌∷◌, [], ◌∙◌, ◌≤◌, List, Bor, ap, arith, length, map, refl}
use Rattle.std.proofs.lemmas.List.{take_all}
use Rattle.iam_element.specs.Reading.{ActionElement}
use Rattle.iam_every.proofs.actions.Elements.groups.Goals as goal

-- behind the references
lent : (elements : List (Bor ActionElement)) → map (λ e. e.now.patterns) elements ≡ map (λ e. e.patterns) (map (λ e. e.now) elements)
lent [] = refl
lent (element ∷ elements) = ap (λ rest. element.now.patterns ∷ rest) (lent elements)

pub returns : goal.returns
returns c =
    let listed = c.args.self.now.listed.items in
    let i = c.loop-element.element-index in
    let value = ap length c.as_slice-element-items.ensures.value in
    let past : length listed ≤ i = omega (arith, value, c.loop-element-test.false) in
    c.loop-element.invariant ∙ ap (map (λ e. e.now.patterns)) (take_all i listed past) ∙ lent listed
