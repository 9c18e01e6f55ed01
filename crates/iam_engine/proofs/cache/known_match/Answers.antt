use mathlib.Core.Bool.{beq}
use Rattle.std.proofs.Common.{◌↔◌, IsTrue, Option, not, subst}
use Rattle.iam_element.specs.Reading.{ResourceElement}
use Rattle.iam_match.specs.Statement.{ResourceMatches}
use Rattle.iam_engine.proofs.KnownLemmas.{element_told}
use Rattle.iam_engine.proofs.cache.known_match.Goals as goal

pub returns-clause-known : goal.returns-clause-known
returns-clause-known c = λ context.
    let some = c.in_ok-some.some in
    let E : Option ResourceElement → Type 0 = λ element.
    IsTrue (not (beq c.is_negated.result some)) ↔ ResourceMatches element c.args.arn.now context in
    subst E c.in_ok-element.ensures
    (element_told context c.args.arn.now c.in_ok-element.element.now c.is_negated.result some c.texts.result.now c.is_negated.ensures
    c.texts.ensures (c.in_ok-some.ensures.told context))
