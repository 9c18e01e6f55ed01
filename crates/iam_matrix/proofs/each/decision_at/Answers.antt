use Rattle.std.proofs.Common.{subst}
use Rattle.std.proofs.lemmas.Option.{slice_get_within}
use Rattle.iam_layers.specs.Cell.{IsDecisionAt}
use Rattle.iam_world.specs.World.{WorldValue}
use Rattle.iam_matrix.proofs.each.decision_at.Goals as goal

pub verdict-requires : goal.verdict-requires
verdict-requires c =
    let (verdict, there, is) = c.in_ok-number.ensures.number in
    slice_get_within c.find.new.self.rulings c.in_ok-number.number verdict there

pub returns-clause-decision : goal.returns-clause-decision
returns-clause-decision c =
    let at = c.args.at in
    let W : WorldValue → Type 0 = λ w. IsDecisionAt w at.principal at.action at.resource c.verdict.result.now.decision in
    let (applicable, request, asked, holds) = c.verdict.ensures at.principal at.action at.resource c.in_ok-number.ensures.number in
    (at.principal, at.action, at.resource, c.requires, subst W c.in_ok-number.ensures.same.0 (applicable, request, asked, holds.decided))
