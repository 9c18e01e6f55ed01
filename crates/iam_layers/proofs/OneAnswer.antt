-- A request of a world is determined, and so are its verdict and its decision.
use Rattle.std.proofs.Common.{◌≡◌, ℕ, List, sym, ap, ◌∙◌, subst}
use Rattle.std.specs.Prelude.{ℤ, pos}
use Rattle.std.specs.List.{slice_get}
use Rattle.iam_context.specs.Context.{ContextValue}
use Rattle.iam_value.specs.Moment.{IsStamp}
use Rattle.iam_match.specs.Statement.{AccessValue, RequestValue, request_for}
use Rattle.iam_decision.specs.Applicable.{ApplicableValue}
use Rattle.iam_decision.specs.Decision.{IsDecision, IsVerdict}
use Rattle.iam_decision.specs.Laws as decision
use Rattle.iam_world.specs.World.{PrincipalValue, ResourceValue, WorldValue}
use Rattle.iam_layers.specs.Applicable.{applicable_of}
use Rattle.iam_layers.specs.Cell.{IsAccessAt, IsCell, IsDecisionAt, IsRequestAt, IsVerdictAt}
use Rattle.iam_layers.specs.Derived.{IsDerived, context_of, derived_of}
use Rattle.iam_layers.specs.Laws
use Rattle.iam_layers.proofs.VerdictLemmas.{one_some}

-- an instant has one text
abbrev OneStamp : Type 0
OneStamp = (seconds : ℤ) (text other : List ℕ) → IsStamp seconds text → IsStamp seconds other → text ≡ other

one_derived : OneStamp → (world : WorldValue) (principal : PrincipalValue) (resource : ResourceValue) (derived other : ContextValue)
    → IsDerived world principal resource derived → IsDerived world principal resource other → derived ≡ other
one_derived stamps world principal resource derived other (stamp, written, is) (text, same, there) =
    is ∙ ap (derived_of principal.requester resource.account world.moment) (stamps (pos world.moment) stamp text written same) ∙ sym there

-- who asks for what in which context
abbrev asked : WorldValue → PrincipalValue → ResourceValue → ContextValue → AccessValue
asked world principal resource derived =
    record { requester = principal.requester; resource = resource.arn; context = context_of world principal resource derived }

one_access : OneStamp → (world : WorldValue) (p r : ℕ) (applicable other : ApplicableValue) (access access' : AccessValue)
    → IsAccessAt world p r applicable access → IsAccessAt world p r other access' → (applicable ≡ other) × (access ≡ access')
one_access stamps world p r applicable other access access' h k =
    let principal : h.principal ≡ k.principal = one_some (slice_get world.principals p) h.principal k.principal h.principal_is k.principal_is in
    let resource : h.resource ≡ k.resource = one_some (slice_get world.resources r) h.resource k.resource h.resource_is k.resource_is in
    let was : IsDerived world k.principal k.resource h.derived =
    subst (λ y. IsDerived world k.principal y h.derived) resource (subst (λ x. IsDerived world x h.resource h.derived) principal h.derived_is) in
    let derived : h.derived ≡ k.derived = one_derived stamps world k.principal k.resource h.derived k.derived was k.derived_is in (
      h.applicable_is ∙ ap (λ x. applicable_of world x h.resource) principal ∙ ap (applicable_of world k.principal) resource ∙ sym k.applicable_is,
      h.access_is ∙ ap (λ x. asked world x h.resource h.derived) principal ∙ ap (λ y. asked world k.principal y h.derived) resource
          ∙ ap (asked world k.principal k.resource) derived ∙ sym k.access_is,
    )

pub one_request : OneStamp → Laws.OneRequest
one_request stamps world p a r applicable applicable' request request' (access, action, at, text, is) (access', action', at', text', is') =
    let same = one_access stamps world p r applicable applicable' access access' at at' in
    let named : action ≡ action' = one_some (slice_get world.actions a) action action' text text' in
    (same.0, is ∙ ap (λ x. request_for x action) same.1 ∙ ap (request_for access') named ∙ sym is')

-- what holds of the request and its policies, and of one answer alone, has one answer
one_at : {A : Type 0} (Is : ApplicableValue → RequestValue → A → Type 0)
    → ((b : ApplicableValue) (q : RequestValue) (x y : A) → Is b q x → Is b q y → x ≡ y) → Laws.OneRequest
    → (world : WorldValue) (p a r : ℕ) (x y : A)
    → ((b : ApplicableValue) × (q : RequestValue) × IsRequestAt world p a r b q × Is b q x)
    → ((b : ApplicableValue) × (q : RequestValue) × IsRequestAt world p a r b q × Is b q y) → x ≡ y
one_at Is one requests world p a r x y (b, q, at, h) (c, s, there, k) =
    let same = requests world p a r b c q s at there in
    one c s x y (subst (λ z. Is c z x) same.1 (subst (λ z. Is z q x) same.0 h)) k

pub one_verdict_at : decision.OneVerdict → Laws.OneRequest → Laws.OneVerdictAt
one_verdict_at verdicts requests = one_at IsVerdict verdicts requests

pub one_decision_at : decision.OneDecision → Laws.OneRequest → Laws.OneDecisionAt
one_decision_at decisions requests = one_at IsDecision decisions requests

-- what a triple has one of, its cell has one of
one_of : {A : Type 0} (Is : WorldValue → ℕ → ℕ → ℕ → A → Type 0)
    → ((world : WorldValue) (p a r : ℕ) (x y : A) → Is world p a r x → Is world p a r y → x ≡ y) → Laws.OneTriple
    → (world : WorldValue) (cell : ℕ) (x y : A)
    → ((p : ℕ) × (a : ℕ) × (r : ℕ) × IsCell world cell p a r × Is world p a r x)
    → ((p : ℕ) × (a : ℕ) × (r : ℕ) × IsCell world cell p a r × Is world p a r y) → x ≡ y
one_of Is one triples world cell x y (p, a, r, here, h) (q, b, s, there, k) =
    let same = triples world cell p a r q b s here there in
    one world q b s x y
    (subst (λ n. Is world q b n x) same.2 (subst (λ n. Is world q n r x) same.1 (subst (λ n. Is world n a r x) same.0 h))) k

pub one_verdict_of : Laws.OneVerdictAt → Laws.OneTriple → Laws.OneVerdictOf
one_verdict_of verdicts triples = one_of IsVerdictAt verdicts triples

pub one_decision_of : Laws.OneDecisionAt → Laws.OneTriple → Laws.OneDecisionOf
one_decision_of decisions triples = one_of IsDecisionAt decisions triples
