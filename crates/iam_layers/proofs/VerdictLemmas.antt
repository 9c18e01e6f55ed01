-- What the requests of a principal for a resource share, put together of what the calls of a world give.
use Rattle.std.proofs.Common.{◌≡◌, ℕ, List, Option, Some, length, refl, sym, ap, ◌∙◌}
use Rattle.std.specs.List.{slice_get}
use Rattle.std.specs.Option.{is_some}
use Rattle.std.specs.Str.{bytes_eq}
use Rattle.iam_context.specs.Context.{ContextValue}
use Rattle.iam_decision.specs.Applicable.{ApplicableValue, frame_of, has_policies}
use Rattle.iam_decision.specs.Code.Scan.{org_placed, requester_placed, resource_placed}
use Rattle.iam_decision.specs.declared.frame.Frame.{Frame}
use Rattle.iam_match.specs.Requester.{RequesterValue}
use Rattle.iam_match.specs.Statement.{AccessValue}
use Rattle.iam_world.specs.World.{PrincipalValue, ResourceValue, WorldValue, account_with}
use Rattle.iam_layers.specs.Applicable.{applicable_of, levels_unless, manages, org_of}
use Rattle.iam_layers.specs.Code.Statements.{HasLevels, HaveSameOrg}
use Rattle.iam_layers.specs.Cell.{IsAccessAt, IsApplicableAt, IsContextAt, IsDerivedAt, IsPrincipal, IsResource}
use Rattle.iam_layers.specs.Derived.{context_of}

pub one_some : {A : Type 0} (o : Option A) (x y : A) → o ≡ Some x → o ≡ Some y → x ≡ y
one_some o x y one two = let same : Some x ≡ Some y = sym one ∙ two in cc

abbrev asked : RequesterValue → List ℕ → ContextValue → AccessValue
asked requester arn context = record { requester = requester; resource = arn; context = context }

pub accessed : (world : WorldValue) (p r : ℕ) (requester : RequesterValue) (arn : List ℕ) (context derived : ContextValue) (applicable : ApplicableValue)
    → IsPrincipal world p (λ principal. requester ≡ principal.requester) → IsResource world r (λ resource. arn ≡ resource.arn)
    → IsDerivedAt world p r derived → IsContextAt world p r derived context → IsApplicableAt world p r applicable
    → IsAccessAt world p r applicable (asked requester arn context)
accessed world p r requester arn context derived applicable (p1, a1, e1) (r1, b1, e2) (p2, a2, (r2, b2, is)) (p3, a3, (r3, b3, e3)) (p4, a4, (r4, b4, e4)) =
    let p12 : p1 ≡ p2 = one_some (slice_get world.principals p) p1 p2 a1 a2 in
    let p32 : p3 ≡ p2 = one_some (slice_get world.principals p) p3 p2 a3 a2 in
    let p42 : p4 ≡ p2 = one_some (slice_get world.principals p) p4 p2 a4 a2 in
    let r12 : r1 ≡ r2 = one_some (slice_get world.resources r) r1 r2 b1 b2 in
    let r32 : r3 ≡ r2 = one_some (slice_get world.resources r) r3 r2 b3 b2 in
    let r42 : r4 ≡ r2 = one_some (slice_get world.resources r) r4 r2 b4 b2 in
    let who : requester ≡ p2.requester = e1 ∙ ap (λ (x : PrincipalValue). x.requester) p12 in
    let what : arn ≡ r2.arn = e2 ∙ ap (λ (x : ResourceValue). x.arn) r12 in
    let where_ : context ≡ context_of world p2 r2 derived = e3 ∙ ap (λ x. context_of world x r3 derived) p32 ∙ ap (λ y. context_of world p2 y derived) r32 in
    record {
      principal = p2;
      resource = r2;
      derived = derived;
      principal_is = a2;
      resource_is = b2;
      derived_is = is;
      applicable_is = e4 ∙ ap (λ x. applicable_of world x r4) p42 ∙ ap (λ y. applicable_of world p2 y) r42;
      access_is =
          ap (λ x. asked x arn context) who ∙ ap (λ x. asked p2.requester x context) what ∙ ap (λ x. asked p2.requester r2.arn x) where_;
    }

-- what applies to two requests of one principal, or for one resource
pub same_principal : (world : WorldValue) (p r s : ℕ) (one other : ApplicableValue) → IsApplicableAt world p r one → IsApplicableAt world p s other
    → (org_placed one ≡ org_placed other) × (requester_placed one ≡ requester_placed other)
same_principal world p r s one other (p1, a1, (r1, b1, is)) (p2, a2, (r2, b2, is')) =
    let same : p1 ≡ p2 = one_some (slice_get world.principals p) p1 p2 a1 a2 in (
      ap org_placed is ∙ ap (λ x. org_placed (applicable_of world x r1)) same ∙ sym (ap org_placed is'),
      ap requester_placed is ∙ ap (λ x. requester_placed (applicable_of world x r1)) same ∙ sym (ap requester_placed is'),
    )

pub same_resource : (world : WorldValue) (p q r : ℕ) (one other : ApplicableValue) → IsApplicableAt world p r one → IsApplicableAt world q r other
    → resource_placed one ≡ resource_placed other
same_resource world p q r one other (p1, a1, (r1, b1, is)) (p2, a2, (r2, b2, is')) =
    let same : r1 ≡ r2 = one_some (slice_get world.resources r) r1 r2 b1 b2 in
    ap resource_placed is ∙ ap (λ x. resource_placed (applicable_of world p1 x)) same ∙ sym (ap resource_placed is')

-- principals of one account have the same organisation
pub same_org : (world : WorldValue) (p q : ℕ) (one other : RequesterValue) → IsPrincipal world p (λ principal. one ≡ principal.requester)
    → IsPrincipal world q (λ principal. other ≡ principal.requester) → one.account ≡ other.account → HaveSameOrg world p q
same_org world p q one other (p1, a1, e1) (q1, c1, f1) account r s a b (p2, a2, (r2, b2, is)) (q2, c2, (s2, d2, is')) =
    let p12 : p1 ≡ p2 = one_some (slice_get world.principals p) p1 p2 a1 a2 in
    let q12 : q1 ≡ q2 = one_some (slice_get world.principals q) q1 q2 c1 c2 in
    let accounts : p2.requester.account ≡ q2.requester.account =
    sym (ap (λ (x : PrincipalValue). x.requester.account) p12) ∙ sym (ap (λ (x : RequesterValue). x.account) e1) ∙ account
    ∙ ap (λ (x : RequesterValue). x.account) f1 ∙ ap (λ (x : PrincipalValue). x.requester.account) q12 in
    ap (λ (x : ApplicableValue). x.org) is
    ∙ ap (λ id. levels_unless (manages (account_with id world)) (org_of (account_with id world))) accounts
    ∙ sym (ap (λ (x : ApplicableValue). x.org) is')

-- what a decision asks beside the statements, where the levels of the organisation are found apart
abbrev pub frame_from : WorldValue → PrincipalValue → ResourceValue → ℕ → Frame
frame_from world principal resource levels = record {
  org = levels;
  control = length (levels_unless (manages (account_with resource.account world)) resource.control);
  boundary = is_some principal.boundary;
  session = has_policies principal.session;
  same_account = bytes_eq principal.requester.account resource.account;
  sealed = resource.sealed;
}

pub framed : (world : WorldValue) (p r levels : ℕ) (principal : PrincipalValue) (resource : ResourceValue) (applicable : ApplicableValue)
    → slice_get world.principals p ≡ Some principal → slice_get world.resources r ≡ Some resource → HasLevels world p levels
    → IsApplicableAt world p r applicable → frame_from world principal resource levels ≡ frame_of applicable
framed world p r levels principal resource applicable a1 b1 has (p2, a2, (r2, b2, is)) =
    let p12 : principal ≡ p2 = one_some (slice_get world.principals p) principal p2 a1 a2 in
    let r12 : resource ≡ r2 = one_some (slice_get world.resources r) resource r2 b1 b2 in
    let own : applicable ≡ applicable_of world principal resource =
    is ∙ ap (λ x. applicable_of world x r2) (sym p12) ∙ ap (λ y. applicable_of world principal y) (sym r12) in
    ap (frame_from world principal resource) (has r (applicable_of world principal resource) (principal, a1, (resource, b1, refl)))
    ∙ sym (ap frame_of own)
