-- What is allowed at most and at least: statement by statement, and what follows for the decision.
use Rattle.std.proofs.Common.{◌≡◌, ◌+◌, ◌<◌, ◌≤◌, inl, inr, ℕ, List, [], ◌∷◌, ◌++◌, Bool, true, false, if◌then◌else◌, get_or, length, take, refl, sym, ap, ◌∙◌, subst, arith}
use Rattle.std.proofs.lemmas.List.Elements.{Contains-append_cases, Contains-append_left, Contains-append_right, Contains-push_cases}
use Rattle.std.specs.List.{Contains}
use Rattle.iam_context.specs.Context.{ContextValue}
use Rattle.iam_decision.specs.Applicable.{ApplicableValue, frame_of}
use Rattle.iam_decision.specs.Code.Found.{AllowsIn, DeniesIn, GrantsIn}
use Rattle.iam_decision.specs.Decision.{Allowing, Allows, AllowsAt, BoundaryHolds, Denies, Granting, Grants, GrantsAtLeast, IsAllowed, IsDecided, IsDecision, Says, SessionHolds}
use Rattle.iam_decision.specs.Living.{item_of}
use Rattle.iam_decision.specs.Matched.{IsMatched, Placed, placed}
use Rattle.iam_decision.specs.declared.frame.Frame.{Frame}
use Rattle.iam_decision.specs.declared.living.Matched.{Matched}
use Rattle.iam_decision.specs.declared.place.Layer.{Layer}
use Rattle.iam_decision.specs.declared.place.Layer.TheVariants.{Org, Control, Resource, Identity, Boundary, Session}
use Rattle.iam_decision.specs.declared.verdict.Decision.TheVariants.{Allowed}
use Rattle.iam_match.specs.Principal.{rank}
use Rattle.iam_match.specs.Statement.{AccessValue}
use Rattle.iam_match.specs.declared.principal.Grant.{Grant}
use Rattle.iam_match.specs.declared.principal.Grant.TheVariants.{Account, Role, Direct}
use Rattle.iam_open.specs.Code.Bounds.{AreLeast, AreMost, HasAllOf, HasNoneBut, counts_at_least, counts_at_most}
use Rattle.iam_open.specs.Code.Certain.{Contexts, Tells}
use Rattle.iam_open.specs.Code.Known.{request_in}
use Rattle.iam_open.specs.declared.certain.Certain.{Certain}
use Rattle.iam_open.specs.declared.certain.Certain.TheVariants.{Always, Never, Open}
use Rattle.iam_open.proofs.ListLemmas.{in_some, none_of_none, push_some, some_in, taken_more}
use Rattle.iam_policy.specs.declared.effect.Effect.{Effect}
use Rattle.iam_policy.specs.declared.effect.Effect.TheVariants.{Allow, Deny}

-- ---- one more statement

-- it is put behind the others where it counts
abbrev picked : Bool → Matched → List Matched
picked b m = if b then m ∷ [] else []

all_more : (effect : Effect) (access : AccessValue) (action : List ℕ) (Are : Contexts) (statements : List Placed) (found : List Matched) (x : Placed) (b : Bool)
    → HasAllOf effect access action Are statements found
    → ((context : ContextValue) → Are context → Says (request_in access action context) effect x → b ≡ true)
    → HasAllOf effect access action Are (statements ++ x ∷ []) (found ++ picked b (item_of access.requester x))
all_more effect access action Are statements found x b has counts context is s among says =
    let item = item_of access.requester s in
    elim (Contains-push_cases statements x s among) [
      | inl before ↦ Contains-append_left found (picked b (item_of access.requester x)) item (has context is s before says)
      | inr same ↦
          let own : Says (request_in access action context) effect x = subst (λ (y : Placed). Says (request_in access action context) effect y) (sym same) says in
          let counted = counts context is own in
          let whole : Contains (picked true (item_of access.requester x)) item = (0, omega arith, ap (item_of access.requester) same) in
          Contains-append_right found (picked b (item_of access.requester x)) item
          (subst (λ (c : Bool). Contains (picked c (item_of access.requester x)) item) (sym counted) whole)
    ]

none_more : (effect : Effect) (access : AccessValue) (action : List ℕ) (Are : Contexts) (statements : List Placed) (found : List Matched) (x : Placed) (b : Bool)
    → HasNoneBut effect access action Are statements found
    → (b ≡ true → x.statement.effect ≡ effect → (context : ContextValue) → Are context → IsMatched (request_in access action context) x)
    → HasNoneBut effect access action Are (statements ++ x ∷ []) (found ++ picked b (item_of access.requester x))
none_more effect access action Are statements found x b has matches context is m among has_effect =
    let P : Placed → Type 0 = λ s. Says (request_in access action context) effect s × (item_of access.requester s ≡ m) in
    elim (Contains-append_cases found (picked b (item_of access.requester x)) m among) [
      | inl before ↦ push_some P statements x (inl (has context is m before has_effect))
      | inr own ↦ push_some P statements x (inr (of_own b refl own))
    ]
  where
    of_own : (c : Bool) → b ≡ c → Contains (picked c (item_of access.requester x)) m
        → Says (request_in access action context) effect x × (item_of access.requester x ≡ m)
    of_own false idle inside = absurd (none_of_none (λ (y : Matched). y ≡ m) (in_some (λ (y : Matched). y ≡ m) [] m inside refl))
    of_own true counted inside = elim (Contains-push_cases [] (item_of access.requester x) m inside) [
      | inl none ↦ absurd (none_of_none (λ (y : Matched). y ≡ m) (in_some (λ (y : Matched). y ≡ m) [] m none refl))
      | inr same ↦
          let effect_is : x.statement.effect ≡ effect = ap (λ (y : Matched). y.effect) same ∙ has_effect in
          ((matches counted effect_is context is, effect_is), same)
    ]

-- a statement of which this is known counts at most where it may match and allow, or matches and denies
at_most_allow : (certain : Certain) (Are P : Contexts) → Tells certain Are P → (context : ContextValue) → Are context → P context
    → counts_at_most certain Allow ≡ true
at_most_allow Always Are P tells context is p = refl
at_most_allow Never Are P tells context is p = absurd (tells context is p)
at_most_allow Open Are P tells context is p = refl

at_most_deny : (certain : Certain) (Are P : Contexts) → Tells certain Are P → counts_at_most certain Deny ≡ true
    → (context : ContextValue) → Are context → P context
at_most_deny Always Are P tells counted = tells
at_most_deny Never Are P tells counted = absurd (let wrong : ⊥ = cc in wrong)
at_most_deny Open Are P tells counted = absurd (let wrong : ⊥ = cc in wrong)

at_least_deny : (certain : Certain) (Are P : Contexts) → Tells certain Are P → (context : ContextValue) → Are context → P context
    → counts_at_least certain Deny ≡ true
at_least_deny Always Are P tells context is p = refl
at_least_deny Never Are P tells context is p = absurd (tells context is p)
at_least_deny Open Are P tells context is p = refl

at_least_allow : (certain : Certain) (Are P : Contexts) → Tells certain Are P → counts_at_least certain Allow ≡ true
    → (context : ContextValue) → Are context → P context
at_least_allow Always Are P tells counted = tells
at_least_allow Never Are P tells counted = absurd (let wrong : ⊥ = cc in wrong)
at_least_allow Open Are P tells counted = absurd (let wrong : ⊥ = cc in wrong)

pub most_more : (access : AccessValue) (action : List ℕ) (Are : Contexts) (statements : List Placed) (i : ℕ) (x : Placed) (certain : Certain)
    (found : List Matched) → i < length statements → x ≡ get_or statements i x
    → Tells certain Are (λ context. IsMatched (request_in access action context) x) → AreMost access action Are (take i statements) found
    → AreMost access action Are (take (i + 1) statements)
    (found ++ (if counts_at_most certain x.statement.effect then item_of access.requester x ∷ [] else []))
most_more access action Are statements i x certain found below at tells are =
    let P : Contexts = λ context. IsMatched (request_in access action context) x in
    let b = counts_at_most certain x.statement.effect in
    let now = found ++ picked b (item_of access.requester x) in
    let Q : List Placed → Type 0 = λ xs. AreMost access action Are xs now in
    subst Q (sym (taken_more statements i x below at)) (record {
      allows = all_more Allow access action Are (take i statements) found x b are.allows
          (λ context is says. ap (counts_at_most certain) says.1 ∙ at_most_allow certain Are P tells context is says.0);
      denies = none_more Deny access action Are (take i statements) found x b are.denies
          (λ counted denies. at_most_deny certain Are P tells (sym (ap (counts_at_most certain) denies) ∙ counted));
    })

pub least_more : (access : AccessValue) (action : List ℕ) (Are : Contexts) (statements : List Placed) (i : ℕ) (x : Placed) (certain : Certain)
    (found : List Matched) → i < length statements → x ≡ get_or statements i x
    → Tells certain Are (λ context. IsMatched (request_in access action context) x) → AreLeast access action Are (take i statements) found
    → AreLeast access action Are (take (i + 1) statements)
    (found ++ (if counts_at_least certain x.statement.effect then item_of access.requester x ∷ [] else []))
least_more access action Are statements i x certain found below at tells are =
    let P : Contexts = λ context. IsMatched (request_in access action context) x in
    let b = counts_at_least certain x.statement.effect in
    let now = found ++ picked b (item_of access.requester x) in
    let Q : List Placed → Type 0 = λ xs. AreLeast access action Are xs now in
    subst Q (sym (taken_more statements i x below at)) (record {
      allows = none_more Allow access action Are (take i statements) found x b are.allows
          (λ counted allows. at_least_allow certain Are P tells (sym (ap (counts_at_least certain) allows) ∙ counted));
      denies = all_more Deny access action Are (take i statements) found x b are.denies
          (λ context is says. ap (counts_at_least certain) says.1 ∙ at_least_deny certain Are P tells context is says.0);
    })

no_member : {X : Type 0} (x : X) → ¬ Contains [] x
no_member x among = none_of_none (λ y. y ≡ x) (in_some (λ y. y ≡ x) [] x among refl)

pub most_none : (access : AccessValue) (action : List ℕ) (Are : Contexts) → AreMost access action Are [] []
most_none access action Are = record {
  allows = λ context is s among says. absurd (no_member s among);
  denies = λ context is m among denies. absurd (no_member m among);
}

pub least_none : (access : AccessValue) (action : List ℕ) (Are : Contexts) → AreLeast access action Are [] []
least_none access action Are = record {
  allows = λ context is m among allows. absurd (no_member m among);
  denies = λ context is s among says. absurd (no_member s among);
}

-- ---- what follows for the decision

boundary_more : (allows more : Allowing) (frame : Frame) → ((layer : Layer) (level : ℕ) → allows layer level → more layer level)
    → BoundaryHolds allows frame → BoundaryHolds more frame
boundary_more allows more frame on (inl none) = inl none
boundary_more allows more frame on (inr allowed) = inr (on Boundary 0 allowed)

session_more : (allows more : Allowing) (frame : Frame) → ((layer : Layer) (level : ℕ) → allows layer level → more layer level)
    → SessionHolds allows frame → SessionHolds more frame
session_more allows more frame on (inl none) = inl none
session_more allows more frame on (inr allowed) = inr (on Session 0 allowed)

-- where more is allowed and granted, what was allowed still is
pub more_allowed : (allows more : Allowing) (grants further : Granting) (frame : Frame) → ((layer : Layer) (level : ℕ) → allows layer level → more layer level)
    → ((grant : Grant) → grants grant → further grant) → IsAllowed allows grants frame → IsAllowed more further frame
more_allowed allows more grants further frame on grant (org, control, suffices) = (
  λ level below. on Org level (org level below),
  λ level below. on Control level (control level below),
  elim suffices [
    | inl (same, granted) ↦
        inl (
          same,
          elim granted [
            | inl direct ↦ inl (grant Direct direct)
            | inr (role, boundary, session) ↦
                inr (grant Role role, boundary_more allows more frame on boundary, session_more allows more frame on session)
          ],
        )
    | inr (identity, boundary, session, granted) ↦
        inr (
          on Identity 0 identity,
          boundary_more allows more frame on boundary,
          session_more allows more frame on session,
          λ must. grant Account (granted must),
        )
  ],
)

-- what is allowed in one of the contexts is allowed with the most
allows_most : (access : AccessValue) (action : List ℕ) (Are : Contexts) (a : ApplicableValue) (most : List Matched)
    → AreMost access action Are (placed a) most → (context : ContextValue) → Are context → (layer : Layer) (level : ℕ)
    → Allows a (request_in access action context) layer level → AllowsIn most layer level
allows_most access action Are a most are context is layer level some =
    let (s, among, (says, where_is, at_level)) = some_in (AllowsAt (request_in access action context) layer level) (placed a) some in
    in_some (λ m. (m.effect ≡ Allow) × (m.place.layer ≡ layer) × (m.place.level ≡ level)) most (item_of access.requester s)
    (are.allows context is s among says) (says.1, where_is, at_level)

grants_most : (access : AccessValue) (action : List ℕ) (Are : Contexts) (a : ApplicableValue) (most : List Matched)
    → AreMost access action Are (placed a) most → (context : ContextValue) → Are context → (least : Grant)
    → Grants a (request_in access action context) least → GrantsIn most least
grants_most access action Are a most are context is least some =
    let (s, among, (says, where_is, enough)) = some_in (GrantsAtLeast (request_in access action context) least) (placed a) some in
    in_some (λ m. (m.effect ≡ Allow) × (m.place.layer ≡ Resource) × (rank least ≤ rank m.grant)) most (item_of access.requester s)
    (are.allows context is s among says) (says.1, where_is, enough)

denies_most : (access : AccessValue) (action : List ℕ) (Are : Contexts) (a : ApplicableValue) (most : List Matched)
    → AreMost access action Are (placed a) most → (context : ContextValue) → Are context → DeniesIn most
    → Denies a (request_in access action context)
denies_most access action Are a most are context is some =
    let (m, among, denies) = some_in (λ m. m.effect ≡ Deny) most some in
    let (s, there, (says, item_is)) =
    some_in (λ s. Says (request_in access action context) Deny s × (item_of access.requester s ≡ m)) (placed a) (are.denies context is m among denies) in
    in_some (Says (request_in access action context) Deny) (placed a) s there says

pub never_allowed : (access : AccessValue) (action : List ℕ) (Are : Contexts) (a : ApplicableValue) (most : List Matched)
    → AreMost access action Are (placed a) most → ¬ IsDecided (DeniesIn most) (AllowsIn most) (GrantsIn most) (frame_of a) Allowed
    → (context : ContextValue) → Are context → ¬ IsDecision a (request_in access action context) Allowed
never_allowed access action Are a most are other context is (free, allowed) =
    other (
      λ denies. free (denies_most access action Are a most are context is denies),
      more_allowed (Allows a (request_in access action context)) (AllowsIn most) (Grants a (request_in access action context)) (GrantsIn most) (frame_of a)
          (allows_most access action Are a most are context is) (grants_most access action Are a most are context is) allowed,
    )

-- what is allowed with the least is allowed in each of the contexts
allows_least : (access : AccessValue) (action : List ℕ) (Are : Contexts) (a : ApplicableValue) (least : List Matched)
    → AreLeast access action Are (placed a) least → (context : ContextValue) → Are context → (layer : Layer) (level : ℕ)
    → AllowsIn least layer level → Allows a (request_in access action context) layer level
allows_least access action Are a least are context is layer level some =
    let (m, among, (allow, where_is, at_level)) =
    some_in (λ m. (m.effect ≡ Allow) × (m.place.layer ≡ layer) × (m.place.level ≡ level)) least some in
    let (s, there, (says, item_is)) =
    some_in (λ s. Says (request_in access action context) Allow s × (item_of access.requester s ≡ m)) (placed a) (are.allows context is m among allow) in
    in_some (AllowsAt (request_in access action context) layer level) (placed a) s there
    (says, ap (λ (x : Matched). x.place.layer) item_is ∙ where_is, ap (λ (x : Matched). x.place.level) item_is ∙ at_level)

grants_least : (access : AccessValue) (action : List ℕ) (Are : Contexts) (a : ApplicableValue) (found : List Matched)
    → AreLeast access action Are (placed a) found → (context : ContextValue) → Are context → (least : Grant)
    → GrantsIn found least → Grants a (request_in access action context) least
grants_least access action Are a found are context is least some =
    let (m, among, (allow, where_is, enough)) =
    some_in (λ m. (m.effect ≡ Allow) × (m.place.layer ≡ Resource) × (rank least ≤ rank m.grant)) found some in
    let (s, there, (says, item_is)) =
    some_in (λ s. Says (request_in access action context) Allow s × (item_of access.requester s ≡ m)) (placed a) (are.allows context is m among allow) in
    in_some (GrantsAtLeast (request_in access action context) least) (placed a) s there (
      says,
      ap (λ (x : Matched). x.place.layer) item_is ∙ where_is,
      subst (λ (x : Matched). rank least ≤ rank x.grant) (sym item_is) enough,
    )

denies_least : (access : AccessValue) (action : List ℕ) (Are : Contexts) (a : ApplicableValue) (least : List Matched)
    → AreLeast access action Are (placed a) least → (context : ContextValue) → Are context → Denies a (request_in access action context)
    → DeniesIn least
denies_least access action Are a least are context is some =
    let (s, among, says) = some_in (Says (request_in access action context) Deny) (placed a) some in
    in_some (λ m. m.effect ≡ Deny) least (item_of access.requester s) (are.denies context is s among says) says.1

pub always_allowed : (access : AccessValue) (action : List ℕ) (Are : Contexts) (a : ApplicableValue) (least : List Matched)
    → AreLeast access action Are (placed a) least → IsDecided (DeniesIn least) (AllowsIn least) (GrantsIn least) (frame_of a) Allowed
    → (context : ContextValue) → Are context → IsDecision a (request_in access action context) Allowed
always_allowed access action Are a least are (free, allowed) context is = (
  λ denies. free (denies_least access action Are a least are context is denies),
  more_allowed (AllowsIn least) (Allows a (request_in access action context)) (GrantsIn least) (Grants a (request_in access action context)) (frame_of a)
      (allows_least access action Are a least are context is) (grants_least access action Are a least are context is) allowed,
)
