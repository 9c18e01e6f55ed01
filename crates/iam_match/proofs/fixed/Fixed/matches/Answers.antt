use mathlib.Core.Bool.{beq}
use Rattle.std.proofs.Common.{◌↔◌, IsTrue, List, Some, not, subst}
use Rattle.iam_glob.specs.declared.sign.Sign.{Sign}
use Rattle.iam_element.specs.Reading.{ResourceElement}
use Rattle.iam_match.specs.Statement.{ResourceMatches}
use Rattle.iam_match.proofs.FixedLemmas.{SomeMatches, fixed_answer}
use Rattle.iam_match.proofs.fixed.Fixed.matches.Goals as goal

pub returns : goal.returns
returns c = λ context.
    let resource = c.args.resource.now in
    let negated = c.self.inside.is_negated in
    let matched = c.any_matches.result in
    let agrees : IsTrue matched ↔ SomeMatches c.self.inside.patterns.items resource =
    subst (λ (patterns : List (List Sign)). IsTrue matched ↔ SomeMatches patterns resource) c.as_slice.ensures.value c.any_matches.ensures in
    subst (λ (element : ResourceElement). IsTrue (not (beq negated matched)) ↔ ResourceMatches (Some element) resource context) c.self.view_is
    (fixed_answer context resource negated matched c.self.inside.patterns.items agrees)
