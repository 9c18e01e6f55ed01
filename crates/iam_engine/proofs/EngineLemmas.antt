-- Requests of a world, and their resources.
use Rattle.std.proofs.Common.{◌≡◌, ◌<◌, ◌++◌, ℕ, List, Some, length, set, refl, sym, ap, ◌∙◌, subst}
use Rattle.std.proofs.lemmas.List.{get_or-set_same, length-set}
use Rattle.std.proofs.lemmas.Option.{slice_get-get_or, slice_get_within}
use Rattle.std.specs.List.{slice_get}
use Rattle.iam_context.specs.Context.{ContextValue}
use Rattle.iam_match.specs.Statement.{AccessValue, request_for}
use Rattle.iam_decision.specs.Applicable.{ApplicableValue}
use Rattle.iam_decision.specs.Decision.{IsDecision, IsVerdict}
use Rattle.iam_decision.specs.declared.verdict.Decision.{Decision}
use Rattle.iam_decision.specs.declared.verdict.Verdict.{Verdict}
use Rattle.iam_layers.specs.Cell.{IsAccessAt, IsAction, IsDecisionAt, IsVerdictAt}
use Rattle.iam_layers.specs.Own.{IsOwnAccess, IsOwnDecision, IsOwnVerdict}
use Rattle.iam_world.specs.World.{ResourceValue, WorldValue}
use Rattle.iam_engine.specs.Cache.{HasArn}

-- the resource that a request is for has the ARN that it names
pub access_arn : (world : WorldValue) (p r : ℕ) (a : ApplicableValue) (access : AccessValue) → IsAccessAt world p r a access → HasArn world r access.resource
access_arn world p r a access at = (at.resource, at.resource_is, ap (λ (x : AccessValue). x.resource) at.access_is)

-- what is put at a place stands there
put_there : {A : Type 0} (xs : List A) (i : ℕ) (x y : A) → slice_get xs i ≡ Some x → slice_get (set xs i y) i ≡ Some y
put_there xs i x y at =
    let within = slice_get_within xs i x at in
    let long : i < length (set xs i y) = subst (λ n. i < n) (sym (length-set xs i y)) within in
    slice_get-get_or (set xs i y) i y long ∙ ap Some (get_or-set_same xs i y y within)

same_some : {X : Type 0} (x y : X) → Some x ≡ Some y → x ≡ y
same_some x y e = cc

-- so does that of a request that gives keys of its own
pub own_arn : (world : WorldValue) (p r : ℕ) (own : ContextValue) (a : ApplicableValue) (access : AccessValue) → IsOwnAccess world p r own a access
    → HasArn world r access.resource
own_arn world p r own a access (other, (x, at, is), accessed) =
    let more : ResourceValue = record x { context = x.context ++ own } in
    let there : slice_get other.resources r ≡ Some more =
    ap (λ (w : WorldValue). slice_get w.resources r) is ∙ put_there world.resources r x more at in
    let same : accessed.resource ≡ more = same_some accessed.resource more (sym accessed.resource_is ∙ there) in
    (x, at, ap (λ (q : AccessValue). q.resource) accessed.access_is ∙ ap (λ (y : ResourceValue). y.arn) same)

module _ (world : WorldValue) (p a r : ℕ) (applicable : ApplicableValue) (access : AccessValue) (action : List ℕ) (named : IsAction world a action) where
  pub verdict_at : (verdict : Verdict) → IsAccessAt world p r applicable access → IsVerdict applicable (request_for access action) verdict
      → IsVerdictAt world p a r verdict
  verdict_at verdict at is = (applicable, request_for access action, (access, action, at, named, refl), is)

  pub decision_at : (decision : Decision) → IsAccessAt world p r applicable access → IsDecision applicable (request_for access action) decision
      → IsDecisionAt world p a r decision
  decision_at decision at is = (applicable, request_for access action, (access, action, at, named, refl), is)

-- the verdict on a request that gives keys of its own, and the decision
module _ (world : WorldValue) (p a r : ℕ) (own : ContextValue) (applicable : ApplicableValue) (access : AccessValue) (action : List ℕ) (named : IsAction world a action) where
  pub own_verdict : (verdict : Verdict) → IsOwnAccess world p r own applicable access → IsVerdict applicable (request_for access action) verdict
      → IsOwnVerdict world p a r own verdict
  own_verdict verdict (other, with, at) is =
      let there = subst (λ w. IsAction w a action) (sym with.2) named in
      (other, with, verdict_at other p a r applicable access action there verdict at is)

  pub own_decision : (decision : Decision) → IsOwnAccess world p r own applicable access → IsDecision applicable (request_for access action) decision
      → IsOwnDecision world p a r own decision
  own_decision decision (other, with, at) is =
      let there = subst (λ w. IsAction w a action) (sym with.2) named in
      (other, with, decision_at other p a r applicable access action there decision at is)
