-- The verdict in a context in question.
use Rattle.std.proofs.Common.{◌≡◌, ℕ, List, refl, subst, sym}
use Rattle.iam_context.specs.Context.{ContextValue}
use Rattle.iam_decision.specs.Applicable.{ApplicableValue}
use Rattle.iam_decision.specs.Decision.{IsVerdict}
use Rattle.iam_decision.specs.declared.verdict.Verdict.{Verdict}
use Rattle.iam_layers.specs.Cell.{IsAction, IsApplicableAt, IsDerivedAt, IsPrincipal, IsResource}
use Rattle.iam_layers.specs.Own.{IsOwnContext, IsOwnVerdict}
use Rattle.iam_layers.proofs.OwnLemmas.{own_accessed}
use Rattle.iam_match.specs.Requester.{RequesterValue}
use Rattle.iam_match.specs.Statement.{AccessValue, request_for}
use Rattle.iam_open.specs.InQuestion.{at_moment}
use Rattle.iam_world.specs.World.{WorldValue}

pub decided_in : (world : WorldValue) (p a r moment : ℕ) (requester : RequesterValue) (arn action : List ℕ) (own context derived : ContextValue)
    (applicable : ApplicableValue) (verdict : Verdict) → IsPrincipal world p (λ principal. requester ≡ principal.requester)
    → IsResource world r (λ resource. arn ≡ resource.arn) → IsDerivedAt (at_moment world moment) p r derived
    → IsOwnContext world p r own derived context → IsApplicableAt world p r applicable → IsAction world a action
    → IsVerdict applicable (request_for (record { requester = requester; resource = arn; context = context }) action) verdict
    → IsOwnVerdict (at_moment world moment) p a r own verdict
decided_in world p a r moment requester arn action own context derived applicable verdict who what keys is applies does decided =
    let access : AccessValue = record { requester = requester; resource = arn; context = context } in
    let (other, (x, there, other_is), is_access) =
    own_accessed (at_moment world moment) p r requester arn own context derived applicable who what keys is applies in
    let acts : IsAction other a action = subst (λ (w : WorldValue). IsAction w a action) (sym other_is) does in (
      other,
      (x, there, other_is),
      (applicable, request_for access action, (access, action, is_access, acts, refl), decided),
    )
