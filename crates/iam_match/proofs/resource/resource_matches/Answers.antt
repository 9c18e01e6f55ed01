use Rattle.std.proofs.Common.{◌↔◌, IfOk, IsTrue, Option, subst, sym, ◌∙◌}
use Rattle.std.proofs.lemmas.Result.{IfOk-weaker}
use Rattle.iam_element.specs.Reading.{ResourceElement}
use Rattle.iam_match.specs.Statement.{ResourceMatches}
use Rattle.iam_match.proofs.StatementLemmas.{negated_element, plain_element}
use Rattle.iam_match.proofs.resource.resource_matches.Goals as goal

pub returns-then-is_negated : goal.returns-then-is_negated
returns-then-is_negated c =
    let P : Option ResourceElement → Type 0 = λ element.
    IfOk c.all_differ.result (λ m. IsTrue m ↔ ResourceMatches element c.args.resource.now c.args.context.now) in
    subst P c.in-Some.ensures
    (IfOk-weaker c.all_differ.result _ _
    (λ differ agrees. negated_element c.in-Some.element.now c.texts.result.now c.args.resource.now c.args.context.now differ
    (sym c.is_negated.ensures ∙ c.if-is_negated.true) c.texts.ensures agrees)
    c.all_differ.ensures)

pub returns-else-is_negated : goal.returns-else-is_negated
returns-else-is_negated c =
    let P : Option ResourceElement → Type 0 = λ element.
    IfOk c.some_matches.result (λ m. IsTrue m ↔ ResourceMatches element c.args.resource.now c.args.context.now) in
    subst P c.in-Some.ensures
    (IfOk-weaker c.some_matches.result _ _
    (λ some agrees. plain_element c.in-Some.element.now c.texts-else-is_negated.result.now c.args.resource.now c.args.context.now some
    (sym c.is_negated.ensures ∙ c.if-is_negated.false) c.texts-else-is_negated.ensures agrees)
    c.some_matches.ensures)
