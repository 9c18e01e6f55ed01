-- Who asks for what where a principal asks for a resource, in a context that is given.
use Rattle.std.proofs.Common.{◌≡◌, ◌∙◌, ℕ, List, ap, sym, subst}
use Rattle.iam_context.specs.Context.{ContextValue}
use Rattle.iam_match.specs.Requester.{RequesterValue}
use Rattle.iam_match.specs.Statement.{AccessValue}
use Rattle.iam_decision.specs.Applicable.{ApplicableValue}
use Rattle.iam_layers.specs.Applicable.{applicable_of}
use Rattle.iam_layers.specs.Cell.{IsAccessAt, IsApplicableAt, IsContextAt, IsDerivedAt, IsPrincipal, IsResource}
use Rattle.iam_layers.specs.Derived.{context_of}
use Rattle.iam_world.specs.World.{PrincipalValue, ResourceValue, WorldValue}
use Rattle.iam_index.proofs.ListLemmas.{some_same}

pub access_at : (world : WorldValue) (p r : ℕ) (derived context : ContextValue) (a : ApplicableValue) (requester : RequesterValue) (arn : List ℕ)
    → IsPrincipal world p (λ principal. requester ≡ principal.requester) → IsResource world r (λ resource. arn ≡ resource.arn)
    → IsDerivedAt world p r derived → IsContextAt world p r derived context → IsApplicableAt world p r a
    → IsAccessAt world p r a (record { requester = requester; resource = arn; context = context })
access_at world p r derived context a requester arn (p1, p1_at, asks) (r1, r1_at, named) (q, q_at, (s, s_at, derived_is))
    (p2, p2_at, (r2, r2_at, context_is)) (p3, p3_at, (r3, r3_at, applies)) =
    let A : PrincipalValue → Type 0 = λ x. requester ≡ x.requester in
    let N : ResourceValue → Type 0 = λ x. arn ≡ x.arn in
    let C : PrincipalValue → Type 0 = λ x. context ≡ context_of world x r2 derived in
    let D : ResourceValue → Type 0 = λ x. context ≡ context_of world q x derived in
    let E : PrincipalValue → Type 0 = λ x. a ≡ applicable_of world x r3 in
    let F : ResourceValue → Type 0 = λ x. a ≡ applicable_of world q x in
    let asks_here : requester ≡ q.requester = subst A (some_same p1 q (sym p1_at ∙ q_at)) asks in
    let named_here : arn ≡ s.arn = subst N (some_same r1 s (sym r1_at ∙ s_at)) named in
    let in_context : context ≡ context_of world q s derived =
    subst D (some_same r2 s (sym r2_at ∙ s_at)) (subst C (some_same p2 q (sym p2_at ∙ q_at)) context_is) in
    let one : RequesterValue → AccessValue = λ x. record { requester = x; resource = arn; context = context } in
    let two : List ℕ → AccessValue = λ x. record { requester = q.requester; resource = x; context = context } in
    let three : ContextValue → AccessValue = λ x. record { requester = q.requester; resource = s.arn; context = x } in
    record {
      principal = q;
      resource = s;
      derived = derived;
      principal_is = q_at;
      resource_is = s_at;
      derived_is = derived_is;
      applicable_is = subst F (some_same r3 s (sym r3_at ∙ s_at)) (subst E (some_same p3 q (sym p3_at ∙ q_at)) applies);
      access_is = ap one asks_here ∙ (ap two named_here ∙ ap three in_context);
    }

-- the same where world and parts are those of an index
pub given_at : (index world parts : WorldValue) (p r : ℕ) (derived context : ContextValue) (a : ApplicableValue) (access : AccessValue)
    → world ≡ index → parts ≡ index → IsDerivedAt index p r derived → IsContextAt parts p r derived context → IsApplicableAt index p r a
    → ((d : ContextValue) (b : ApplicableValue) → IsDerivedAt world p r d → IsContextAt world p r d context → IsApplicableAt world p r b
    → IsAccessAt world p r b access) → IsAccessAt index p r a access
given_at index world parts p r derived context a access same other derived_at context_at applies at =
    let M : WorldValue → Type 0 =
    λ w. (d : ContextValue) (b : ApplicableValue) → IsDerivedAt w p r d → IsContextAt w p r d context → IsApplicableAt w p r b
    → IsAccessAt w p r b access in
    let C : WorldValue → Type 0 = λ w. IsContextAt w p r derived context in
    subst M same at derived a derived_at (subst C other context_at) applies

-- the context is that of a listing of this index
pub context_of_listing : (index parts listing : WorldValue) (p r : ℕ) (derived context given : ContextValue) → parts ≡ index → listing ≡ index
    → given ≡ context → IsContextAt parts p r derived context → IsContextAt listing p r derived given
context_of_listing index parts listing p r derived context given other of same at =
    let C : WorldValue → Type 0 = λ w. IsContextAt w p r derived context in
    let G : ContextValue → Type 0 = λ x. IsContextAt listing p r derived x in
    subst G (sym same) (subst C (other ∙ sym of) at)
