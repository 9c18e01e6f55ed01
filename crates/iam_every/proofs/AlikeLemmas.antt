-- On resources of texts that are alike the same statements decide, or others of their groups.
use Rattle.std.proofs.Common.{◌≡◌, inl, inr, ◌↔◌, ◌<◌, ◌≤◌, ℕ, All, Any, Bool, true, false, List, MatchBool, Option, None, Some, IsSome, length, get_or, refl, sym, subst, ◌∙◌}
use Rattle.iam_context.specs.Context.{ContextValue}
use Rattle.iam_context.specs.Resolve.{resolved}
use Rattle.iam_element.specs.Reading.{ResourceElement}
use Rattle.iam_policy.specs.declared.effect.Effect.TheVariants.{Allow}
use Rattle.iam_match.specs.Principal.{grant_of, rank}
use Rattle.iam_match.specs.Statement.{AccessValue, ActionMatches, RequestValue, ResourceMatches, TextMatches}
use Rattle.iam_match.specs.declared.principal.Grant.{Grant}
use Rattle.iam_match.specs.declared.principal.Grant.TheVariants.{Account, Role, Direct}
use Rattle.iam_decision.specs.Applicable.{ApplicableValue, frame_of}
use Rattle.iam_decision.specs.Decision.{Allowing, Allows, AllowsAt, BoundaryHolds, Denies, Granting, Grants, GrantsAtLeast, IsAllowed, IsDecision, SessionHolds}
use Rattle.iam_decision.specs.Matched.{IsMatched, Placed, placed}
use Rattle.iam_decision.specs.declared.frame.Frame.{Frame}
use Rattle.iam_decision.specs.declared.place.Layer.{Layer}
use Rattle.iam_decision.specs.declared.place.Layer.TheVariants.{Org, Control, Resource, Identity, Boundary, Session}
use Rattle.iam_decision.specs.declared.verdict.Decision.{Decision}
use Rattle.iam_decision.specs.declared.verdict.Decision.TheVariants.{Allowed, ExplicitDeny, ImplicitDeny}
use Rattle.iam_every.specs.Alike.{AreAlike, AreAlikeActions, Concerns, GroupMeets, IsAllowAt, IsDeny, IsGrant, Meets, request_on}

-- ---- decisions on two requests of which the same is denied, allowed and granted

boundary_more : (allows more : Allowing) (frame : Frame) → ((layer : Layer) (level : ℕ) → allows layer level → more layer level)
    → BoundaryHolds allows frame → BoundaryHolds more frame
boundary_more allows more frame on (inl none) = inl none
boundary_more allows more frame on (inr allowed) = inr (on Boundary 0 allowed)

session_more : (allows more : Allowing) (frame : Frame) → ((layer : Layer) (level : ℕ) → allows layer level → more layer level)
    → SessionHolds allows frame → SessionHolds more frame
session_more allows more frame on (inl none) = inl none
session_more allows more frame on (inr allowed) = inr (on Session 0 allowed)

-- where more is allowed and granted, what was allowed still is
more_allowed : (allows more : Allowing) (grants further : Granting) (frame : Frame) → ((layer : Layer) (level : ℕ) → allows layer level → more layer level)
    → ((grant : Grant) → grants grant → further grant) → IsAllowed allows grants frame → IsAllowed more further frame
more_allowed allows more grants further frame on grant (org, control, either) = (
  λ level below. on Org level (org level below),
  λ level below. on Control level (control level below),
  elim either [
    | inl (same, suffices) ↦
        inl (
          same,
          elim suffices [
            | inl direct ↦ inl (grant Direct direct)
            | inr (role, boundary, session) ↦
                inr (grant Role role, boundary_more allows more frame on boundary, session_more allows more frame on session)
          ],
        )
    | inr (identity, boundary, session, granted) ↦
        inr (
          on Identity 0 identity,
          boundary_more allows more frame on boundary,
          session_more allows more frame on session,
          λ must. grant Account (granted must),
        )
  ],
)

same_decision : (a : ApplicableValue) (q r : RequestValue) → Denies a q ↔ Denies a r
    → ((layer : Layer) (level : ℕ) → Allows a q layer level ↔ Allows a r layer level) → ((least : Grant) → Grants a q least ↔ Grants a r least)
    → (decision : Decision) → IsDecision a q decision → IsDecision a r decision
same_decision a q r denies allows grants ExplicitDeny denied = denies.0 denied
same_decision a q r denies allows grants Allowed (free, allowed) = (
  λ denied. free (denies.1 denied),
  more_allowed (Allows a q) (Allows a r) (Grants a q) (Grants a r) (frame_of a) (λ layer level. (allows layer level).0) (λ least. (grants least).0) allowed,
)
same_decision a q r denies allows grants ImplicitDeny (free, lacks) = (
  λ denied. free (denies.1 denied),
  λ allowed. lacks
      (more_allowed (Allows a r) (Allows a q) (Grants a r) (Grants a q) (frame_of a) (λ layer level. (allows layer level).1) (λ least. (grants least).1) allowed),
)

-- ---- texts that are alike

matches_plainly : (context : ContextValue) (text : List ℕ) (element : ResourceElement) → element.negated ≡ false
    → Any (TextMatches context text) element.texts → ResourceMatches (Some element) text context
matches_plainly context text element plain some =
    let some_matches = Any (TextMatches context text) element.texts in
    subst (λ n. MatchBool n (All (λ it. IsSome (resolved context it)) element.texts × ¬ some_matches) some_matches) (sym plain) some

meets_plainly : (context : ContextValue) (text : List ℕ) (element : ResourceElement) → element.negated ≡ false
    → ResourceMatches (Some element) text context → Any (TextMatches context text) element.texts
meets_plainly context text element plain matches =
    let some_matches = Any (TextMatches context text) element.texts in
    subst (λ n. MatchBool n (All (λ it. IsSome (resolved context it)) element.texts × ¬ some_matches) some_matches) plain matches

abbrev Excludes : ContextValue → List ℕ → ResourceElement → Type 0
Excludes context text element =
    All (λ it. IsSome (resolved context it)) element.texts × ¬ Any (TextMatches context text) element.texts

excludes : (context : ContextValue) (text : List ℕ) (element : ResourceElement) → element.negated ≡ true
    → ResourceMatches (Some element) text context → Excludes context text element
excludes context text element negated matches =
    let some_matches = Any (TextMatches context text) element.texts in
    subst (λ n. MatchBool n (All (λ it. IsSome (resolved context it)) element.texts × ¬ some_matches) some_matches) negated matches

matches_excluding : (context : ContextValue) (text : List ℕ) (element : ResourceElement) → element.negated ≡ true
    → Excludes context text element → ResourceMatches (Some element) text context
matches_excluding context text element negated without =
    let some_matches = Any (TextMatches context text) element.texts in
    subst (λ n. MatchBool n (All (λ it. IsSome (resolved context it)) element.texts × ¬ some_matches) some_matches) (sym negated) without

-- a statement that matches on the one text matches on the other too, or another one of its group does
moved : (a : ApplicableValue) (access : AccessValue) (action one other : List ℕ) (P : Placed → Type 0)
    → (GroupMeets a access action P one → GroupMeets a access action P other)
    → All (λ s. Concerns access action s → Meets access.context true other s → Meets access.context true one s) (placed a)
    → (k : ℕ) (s : Placed) → k < length (placed a) → get_or (placed a) k s ≡ s → IsMatched (request_on access action one) s → P s
    → Any (λ s. IsMatched (request_on access action other) s × P s) (placed a)
moved a access action one other P group back k s below at matched p = by_element s.statement.resource refl
  where
    context : ContextValue
    context = access.context

    concerns : Concerns access action s
    concerns = record { principal = matched.rest.principal; action = matched.action; conditions = matched.rest.conditions }

    stays : ResourceMatches s.statement.resource other context → Any (λ s. IsMatched (request_on access action other) s × P s) (placed a)
    stays resource = (
      k,
      s,
      below,
      at,
      (
        record {
          action = matched.action;
          rest = record { principal = matched.rest.principal; resource = resource; conditions = matched.rest.conditions };
        },
        p,
      ),
    )

    none_meets : (element : ResourceElement) → s.statement.resource ≡ Some element → element.negated ≡ true
        → ¬ Any (TextMatches context one) element.texts → ¬ Any (TextMatches context other) element.texts
    none_meets element is negated none some =
        let backwards = subst (λ (x : Placed). Concerns access action x → Meets context true other x → Meets context true one x) at (back k s below) in
        let (found, found_is, found_negated, meets) = backwards concerns (element, is, negated, some) in
        let whole : Some found ≡ Some element = sym found_is ∙ is in
        let same : found ≡ element = cc in
        none (subst (λ (x : ResourceElement). Any (TextMatches context one) x.texts) same meets)

    by_negation : (element : ResourceElement) → s.statement.resource ≡ Some element → (negated : Bool) → element.negated ≡ negated
        → Any (λ s. IsMatched (request_on access action other) s × P s) (placed a)
    by_negation element is false plain =
        let some = meets_plainly context one element plain (subst (λ r. ResourceMatches r one context) is matched.rest.resource) in
        let (j, t, inside, there, (about, belongs, (found, found_is, found_plain, meets))) = group (k, s, below, at, (concerns, p, (element, is, plain, some))) in (
          j,
          t,
          inside,
          there,
          (
            record {
              action = about.action;
              rest = record {
                principal = about.principal;
                resource = subst (λ r. ResourceMatches r other context) (sym found_is) (matches_plainly context other found found_plain meets);
                conditions = about.conditions;
              };
            },
            belongs,
          ),
        )
    by_negation element is true negated =
        let (known, none) = excludes context one element negated (subst (λ r. ResourceMatches r one context) is matched.rest.resource) in
        stays (subst (λ r. ResourceMatches r other context) (sym is)
        (matches_excluding context other element negated (known, none_meets element is negated none)))

    by_element : (resource : Option ResourceElement) → s.statement.resource ≡ resource
        → Any (λ s. IsMatched (request_on access action other) s × P s) (placed a)
    by_element None is = stays (subst (λ r. ResourceMatches r other context) (sym is) tt)
    by_element (Some element) is = by_negation element is element.negated refl

any_map : {X : Type 0} (P Q : X → Type 0) → ((x : X) → P x → Q x) → (xs : List X) → Any P xs → Any Q xs
any_map P Q on xs (k, x, below, at, p) = (k, x, below, at, on x p)

-- the same of the texts the other way round
pub turned : (a : ApplicableValue) (access : AccessValue) (action one other : List ℕ) → AreAlike a access action one other → AreAlike a access action other one
turned a access action one other alike = record {
  denies = (alike.denies.1, alike.denies.0);
  allows = λ layer level. ((alike.allows layer level).1, (alike.allows layer level).0);
  grants = λ grant. ((alike.grants grant).1, (alike.grants grant).0);
  negated = λ k s below concerns. let both = alike.negated k s below concerns in (both.1, both.0);
}

backwards : (a : ApplicableValue) (access : AccessValue) (action one other : List ℕ) → AreAlike a access action one other
    → All (λ s. Concerns access action s → Meets access.context true other s → Meets access.context true one s) (placed a)
backwards a access action one other alike = λ k s below concerns. (alike.negated k s below concerns).1

denied : (a : ApplicableValue) (access : AccessValue) (action one other : List ℕ) → AreAlike a access action one other
    → Denies a (request_on access action one) → Denies a (request_on access action other)
denied a access action one other alike (k, s, below, at, (matched, effect)) =
    moved a access action one other IsDeny alike.denies.0 (backwards a access action one other alike) k s below at matched effect

allowed : (a : ApplicableValue) (access : AccessValue) (action one other : List ℕ) → AreAlike a access action one other
    → (layer : Layer) (level : ℕ) → Allows a (request_on access action one) layer level → Allows a (request_on access action other) layer level
allowed a access action one other alike layer level (k, s, below, at, ((matched, effect), layer_is, level_is)) =
    any_map (λ s. IsMatched (request_on access action other) s × IsAllowAt layer level s) (AllowsAt (request_on access action other) layer level)
    (λ s (matched, (effect, layer_is, level_is)). ((matched, effect), layer_is, level_is)) (placed a)
    (moved a access action one other (IsAllowAt layer level) (alike.allows layer level).0 (backwards a access action one other alike) k s below at matched
    (effect, layer_is, level_is))

granted : (a : ApplicableValue) (access : AccessValue) (action one other : List ℕ) → AreAlike a access action one other
    → (least : Grant) → Grants a (request_on access action one) least → Grants a (request_on access action other) least
granted a access action one other alike least (k, s, below, at, ((matched, effect), layer_is, enough)) =
    let kind = grant_of s.statement.principal access.requester in
    any_map (λ s. IsMatched (request_on access action other) s × IsGrant access.requester kind s) (GrantsAtLeast (request_on access action other) least)
    (λ s (matched, (effect, at_layer, grant)). ((matched, effect), at_layer, subst (λ (g : Grant). rank least ≤ rank g) (sym grant) enough)) (placed a)
    (moved a access action one other (IsGrant access.requester kind) (alike.grants kind).0 (backwards a access action one other alike) k s below at matched
    (effect, layer_is, refl))

pub alike_texts : (a : ApplicableValue) (access : AccessValue) (action one other : List ℕ) (decision : Decision) → AreAlike a access action one other
    → IsDecision a (request_on access action one) decision → IsDecision a (request_on access action other) decision
alike_texts a access action one other decision alike =
    let back = turned a access action one other alike in
    same_decision a (request_on access action one) (request_on access action other)
    (denied a access action one other alike, denied a access action other one back)
    (λ layer level. (allowed a access action one other alike layer level, allowed a access action other one back layer level))
    (λ least. (granted a access action one other alike least, granted a access action other one back least)) decision

-- ---- actions that are alike

acted : (a : ApplicableValue) (access : AccessValue) (one other text : List ℕ) (P : Placed → Type 0)
    → All (λ s. ActionMatches s.statement.action one → ActionMatches s.statement.action other) (placed a)
    → Any (λ s. IsMatched (request_on access one text) s × P s) (placed a) → Any (λ s. IsMatched (request_on access other text) s × P s) (placed a)
acted a access one other text P on (k, s, below, at, (matched, p)) =
    let acts = subst (λ (x : Placed). ActionMatches x.statement.action one → ActionMatches x.statement.action other) at (on k s below) in
    (k, s, below, at, (record { action = acts matched.action; rest = matched.rest }, p))

both_act : (a : ApplicableValue) (access : AccessValue) (one other text : List ℕ) (P : Placed → Type 0) → AreAlikeActions a one other
    → Any (λ s. IsMatched (request_on access one text) s × P s) (placed a) ↔ Any (λ s. IsMatched (request_on access other text) s × P s) (placed a)
both_act a access one other text P alike = (
  acted a access one other text P (λ k s below. (alike k s below).0),
  acted a access other one text P (λ k s below. (alike k s below).1),
)

pub alike_actions : (a : ApplicableValue) (access : AccessValue) (one other text : List ℕ) (decision : Decision) → AreAlikeActions a one other
    → IsDecision a (request_on access one text) decision → IsDecision a (request_on access other text) decision
alike_actions a access one other text decision alike =
    let q = request_on access one text in
    let r = request_on access other text in
    let apart : (x : RequestValue) (layer : Layer) (level : ℕ) (s : Placed) → AllowsAt x layer level s → IsMatched x s × IsAllowAt layer level s =
    λ x layer level s ((matched, effect), layer_is, level_is). (matched, (effect, layer_is, level_is)) in
    let joined : (x : RequestValue) (layer : Layer) (level : ℕ) (s : Placed) → IsMatched x s × IsAllowAt layer level s → AllowsAt x layer level s =
    λ x layer level s (matched, (effect, layer_is, level_is)). ((matched, effect), layer_is, level_is) in
    let kind : Grant → Placed → Type 0 =
    λ least s. (s.statement.effect ≡ Allow) × (s.place.layer ≡ Resource) × (rank least ≤ rank (grant_of s.statement.principal access.requester)) in
    let moves : (P : Placed → Type 0)
    → Any (λ s. IsMatched q s × P s) (placed a) ↔ Any (λ s. IsMatched r s × P s) (placed a) = λ P. both_act a access one other text P alike in
    same_decision a q r (moves IsDeny)
    (λ layer level. (
      λ h. any_map (λ s. IsMatched r s × IsAllowAt layer level s) (AllowsAt r layer level) (joined r layer level) (placed a)
          ((moves (IsAllowAt layer level)).0
          (any_map (AllowsAt q layer level) (λ s. IsMatched q s × IsAllowAt layer level s) (apart q layer level) (placed a) h)),
      λ h. any_map (λ s. IsMatched q s × IsAllowAt layer level s) (AllowsAt q layer level) (joined q layer level) (placed a)
          ((moves (IsAllowAt layer level)).1
          (any_map (AllowsAt r layer level) (λ s. IsMatched r s × IsAllowAt layer level s) (apart r layer level) (placed a) h)),
    ))
    (λ least. (
      λ h. any_map (λ s. IsMatched r s × kind least s) (GrantsAtLeast r least) (λ s (matched, (effect, at_layer, enough)). ((matched, effect), at_layer, enough)) (placed a)
          ((moves (kind least)).0
          (any_map (GrantsAtLeast q least) (λ s. IsMatched q s × kind least s) (λ s ((matched, effect), at_layer, enough). (matched, (effect, at_layer, enough))) (placed a) h)),
      λ h. any_map (λ s. IsMatched q s × kind least s) (GrantsAtLeast q least) (λ s (matched, (effect, at_layer, enough)). ((matched, effect), at_layer, enough)) (placed a)
          ((moves (kind least)).1
          (any_map (GrantsAtLeast r least) (λ s. IsMatched r s × kind least s) (λ s ((matched, effect), at_layer, enough). (matched, (effect, at_layer, enough))) (placed a) h)),
    ))
    decision
