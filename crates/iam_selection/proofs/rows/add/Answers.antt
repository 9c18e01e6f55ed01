use Rattle.std.proofs.Common.{Bool, inl, inr, refl, sym, subst}
use Rattle.std.proofs.lemmas.Result.{on_ok_weaker}
use Rattle.iam_layers.specs.Cell.{IsDecisionOf, IsVerdictAt, IsVerdictOf}
use Rattle.iam_world.specs.World.{WorldValue}
use Rattle.iam_row.specs.Piece.{bare}
use Rattle.iam_selection.specs.Code.Listing.{IsEntryOf}
use Rattle.iam_selection.proofs.rows.add.Goals as goal

pub returns-then-not-wants-clause-added : goal.returns-then-not-wants-clause-added
returns-then-not-wants-clause-added c =
    let at = c.args.at in
    let verdict = c.verdict-verdict.result.now in
    let V : WorldValue → Type 0 = λ w. IsVerdictAt w at.principal at.action at.resource verdict in
    let told = subst V c.in_ok-number.ensures.same.0 (c.verdict-verdict.ensures at.principal at.action at.resource c.in_ok-number.ensures.number) in
    let (applicable, request, asked, holds) = told in
    let off = c.if-not-wants.true in (
      verdict.decision,
      (at.principal, at.action, at.resource, c.requires.cell, (applicable, request, asked, holds.decided)),
      inr ((λ wanted. let on = c.wants.ensures.1 wanted in let wrong : ⊥ = cc in wrong), refl, refl),
    )

pub returns-then-brief-clause-added : goal.returns-then-brief-clause-added
returns-then-brief-clause-added c =
    let at = c.args.at in
    let world = c.args.engine.now.world in
    let verdict = c.verdict-verdict.result.now in
    let V : WorldValue → Type 0 = λ w. IsVerdictAt w at.principal at.action at.resource verdict in
    let told = subst V c.in_ok-number.ensures.same.0 (c.verdict-verdict.ensures at.principal at.action at.resource c.in_ok-number.ensures.number) in
    let (applicable, request, asked, holds) = told in
    let decided : IsDecisionOf world at.cell verdict.decision = (at.principal, at.action, at.resource, c.requires.cell, (applicable, request, asked, holds.decided)) in
    let E : Bool → Type 0 = λ brief. IsEntryOf brief world at.cell (bare verdict.decision) in
    on_ok_weaker c.push-then-brief.result
    (λ pushed. (
      verdict.decision,
      decided,
      inl (c.wants.ensures.0 c.if-not-wants.false, c.in_ok-push.ensures.items, (bare verdict.decision, subst E (sym c.if-brief.true) (verdict.decision, decided, refl), pushed)),
    ))
    c.push-then-brief.ensures.ok

pub returns-else-brief-clause-added : goal.returns-else-brief-clause-added
returns-else-brief-clause-added c =
    let at = c.args.at in
    let world = c.args.engine.now.world in
    let verdict = c.verdict-verdict.result.now in
    let V : WorldValue → Type 0 = λ w. IsVerdictAt w at.principal at.action at.resource verdict in
    let told = subst V c.in_ok-number.ensures.same.0 (c.verdict-verdict.ensures at.principal at.action at.resource c.in_ok-number.ensures.number) in
    let (applicable, request, asked, holds) = told in
    let decided : IsDecisionOf world at.cell verdict.decision = (at.principal, at.action, at.resource, c.requires.cell, (applicable, request, asked, holds.decided)) in
    let is : IsVerdictOf world at.cell verdict = (at.principal, at.action, at.resource, c.requires.cell, told) in
    let E : Bool → Type 0 = λ brief. IsEntryOf brief world at.cell verdict in
    on_ok_weaker c.push-else-brief.result
    (λ pushed. (
      verdict.decision,
      decided,
      inl (c.wants.ensures.0 c.if-not-wants.false, c.in_ok-push.ensures.items, (verdict, subst E (sym c.if-brief.false) is, pushed)),
    ))
    c.push-else-brief.ensures.ok
