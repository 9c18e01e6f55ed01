use Rattle.std.proofs.Common.{◌∙◌, Some, ap, subst, sym}
use Rattle.iam_context.specs.Requester.{IsRequesterOf, RequesterValue}
use Rattle.iam_context.specs.Code.ArnParts.{requester_of}
use Rattle.iam_context.proofs.RequesterLemmas.{on_error, session_from_parts}
use Rattle.iam_context.proofs.requester.Requester.role.Goals as goal

pub returns-in_err-from_str-in-Some-clause-memory : goal.returns-in_err-from_str-in-Some-clause-memory
returns-in_err-from_str-in-Some-clause-memory c =
    on_error c.from_residual.result (
      requester_of c.in-Some.parts (Some c.args.session.now),
      session_from_parts c.args.arn.now c.args.session.now c.in-Some.parts c.in-Some.ensures.value (sym c.if-not-is_segment.ensures),
    )

pub returns-in_err-session_arn-in-Some-clause-memory : goal.returns-in_err-session_arn-in-Some-clause-memory
returns-in_err-session_arn-in-Some-clause-memory c =
    on_error c.from_residual-in_err-session_arn-in-Some.result (
      requester_of c.in-Some.parts (Some c.args.session.now),
      session_from_parts c.args.arn.now c.args.session.now c.in-Some.parts c.in-Some.ensures.value (sym c.if-not-is_segment.ensures),
    )

pub returns-in_err-of-in-Some-clause-memory : goal.returns-in_err-of-in-Some-clause-memory
returns-in_err-of-in-Some-clause-memory c =
    on_error c.from_residual-in_err-of-in-Some.result (
      requester_of c.in-Some.parts (Some c.args.session.now),
      session_from_parts c.args.arn.now c.args.session.now c.in-Some.parts c.in-Some.ensures.value (sym c.if-not-is_segment.ensures),
    )

pub returns-in_ok-of-in-Some-clause-value : goal.returns-in_ok-of-in-Some-clause-value
returns-in_ok-of-in-Some-clause-value c =
    let P : RequesterValue → Type 0 = λ r. IsRequesterOf c.args.arn.now (Some c.args.session.now) r in
    subst P
    (sym (c.in_ok-of-in-Some.ensures ∙ ap (λ name. requester_of c.in-Some.parts (Some name)) c.in_ok-from_str-in-Some.ensures.ok))
    (session_from_parts c.args.arn.now c.args.session.now c.in-Some.parts c.in-Some.ensures.value (sym c.if-not-is_segment.ensures))
