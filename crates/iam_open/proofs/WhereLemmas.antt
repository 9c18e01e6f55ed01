-- What is certain of a request in the contexts in which some keys are tried.
use Rattle.std.proofs.Common.{◌≡◌, ◌∙◌, ◌≤◌, ◌++◌, ℕ, List, Option, IfSome, ap, subst, sym}
use Rattle.std.specs.List.{slice_get}
use Rattle.iam_context.specs.Context.{ContextValue, keys_of}
use Rattle.iam_decision.specs.Applicable.{ApplicableValue}
use Rattle.iam_decision.specs.Decision.{IsDecision}
use Rattle.iam_decision.specs.Laws.{OneDecision}
use Rattle.iam_decision.specs.declared.verdict.Decision.TheVariants.{Allowed}
use Rattle.iam_layers.specs.Cell.{IsAccessAt, IsAction, IsApplicableAt, IsDerivedAt, IsPrincipal, IsResource}
use Rattle.iam_layers.specs.Own.{IsCleanAt, IsOwnContext, IsWorldWith}
use Rattle.iam_layers.proofs.VerdictLemmas.{one_some}
use Rattle.iam_match.specs.Requester.{RequesterValue}
use Rattle.iam_match.specs.Statement.{AccessValue, RequestValue, request_for}
use Rattle.iam_open.specs.InQuestion.{at_moment}
use Rattle.iam_open.specs.Code.Certain.{Tells}
use Rattle.iam_open.specs.Code.Known.{AgreeOn, Follows}
use Rattle.iam_open.specs.Code.Time.{IsNoEarlier}
use Rattle.iam_open.specs.Code.Tried.{AreKnownAt, IsAlwaysWhere, IsNeverWhere, IsTried, derived_known}
use Rattle.iam_open.specs.declared.certain.Certain.{Certain}
use Rattle.iam_open.specs.declared.certain.Certain.TheVariants.{Always, Never}
use Rattle.iam_open.proofs.TurnLemmas.{OneStamp, turn_agrees}
use Rattle.iam_world.specs.World.{PrincipalValue, ResourceValue, WorldValue}

abbrev pub asked : RequesterValue → List ℕ → List ℕ → ContextValue → RequestValue
asked requester arn action context = record { requester = requester; action = action; resource = arn; context = context }

-- this is known of the requests whose contexts agree with the one that is looked at
abbrev pub TellsHere : Certain → WorldValue → ℕ → ℕ → RequesterValue → List ℕ → List ℕ → List (List ℕ) → ContextValue → Type 0
TellsHere certain world p r requester arn action known base =
    (a : ApplicableValue) → IsApplicableAt world p r a
    → Tells certain (Follows known base) (λ other. IsDecision a (asked requester arn action other) Allowed)

-- what is looked at
pub record IsLookedAt (world : WorldValue) (p a r : ℕ) (tried base derived : ContextValue) (at : Option ℕ) (now : ℕ) (known : List (List ℕ))
    (requester : RequesterValue) (arn action : List ℕ) : Type 0 where
  pub from : IfSome at (λ then. now ≡ then)
  pub clean : IsCleanAt world p r tried
  pub keys : IsDerivedAt (at_moment world now) p r derived
  pub context : IsOwnContext world p r tried derived base
  pub known_are : AreKnownAt world p r tried at known
  pub who : IsPrincipal world p (λ principal. requester ≡ principal.requester)
  pub what : IsResource world r (λ resource. arn ≡ resource.arn)
  pub does : IsAction world a action

same_who : (world : WorldValue) (p : ℕ) (one other : RequesterValue) → IsPrincipal world p (λ principal. one ≡ principal.requester)
    → IsPrincipal world p (λ principal. other ≡ principal.requester) → one ≡ other
same_who world p one other (q, a, is) (s, b, is') =
    is ∙ ap (λ (x : PrincipalValue). x.requester) (one_some (slice_get world.principals p) q s a b) ∙ sym is'

same_what : (world : WorldValue) (r : ℕ) (one other : List ℕ) → IsResource world r (λ resource. one ≡ resource.arn)
    → IsResource world r (λ resource. other ≡ resource.arn) → one ≡ other
same_what world r one other (q, a, is) (s, b, is') =
    is ∙ ap (λ (x : ResourceValue). x.arn) (one_some (slice_get world.resources r) q s a b) ∙ sym is'

same_does : (world other : WorldValue) (r moment : ℕ) (own : ContextValue) (a : ℕ) (one text : List ℕ) → IsWorldWith (at_moment world moment) r own other
    → IsAction other a one → IsAction world a text → one ≡ text
same_does world other r moment own a one text (x, there, is) does acts =
    one_some (slice_get world.actions a) one text (subst (λ (w : WorldValue). IsAction w a one) is does) acts

-- what is looked at is not later than any moment that is tried
abbrev pub IsFirst : WorldValue → Option ℕ → ℕ → Type 0
IsFirst world at now = (moment : ℕ) → IfSome at (λ then. moment ≡ then) → world.moment ≤ moment → now ≤ moment

-- the request in a context in question is the one that is looked at but for its context, which agrees with that, and is at no earlier moment
pub in_turn : OneStamp → (world : WorldValue) (p a r : ℕ) (tried base derived : ContextValue) (at : Option ℕ) (now : ℕ) (known : List (List ℕ))
    (requester : RequesterValue) (arn action : List ℕ) → IsLookedAt world p a r tried base derived at now known requester arn action
    → (own : ContextValue) (moment : ℕ) → IsCleanAt world p r own → IsTried tried at own moment
    → (other : WorldValue) → IsWorldWith (at_moment world moment) r own other
    → (applicable : ApplicableValue) (request : RequestValue) (access : AccessValue) (text : List ℕ) → IsAccessAt other p r applicable access
    → IsAction other a text → request ≡ request_for access text
    → AgreeOn known base access.context × (now ≤ moment → IsNoEarlier base access.context) × IsApplicableAt world p r applicable
    × (request ≡ asked requester arn action access.context)
in_turn one world p a r tried base derived at now known requester arn action looked own moment own_clean was_tried other is_other applicable request access
    text is_access is_action request_is =
    let (agree, later, applies, who, what) =
    turn_agrees one world p r tried base derived at now known looked.from looked.clean looked.keys looked.context looked.known_are own moment own_clean
    was_tried other is_other applicable access is_access in (
      agree,
      later,
      applies,
      request_is ∙ ap (λ x. asked x access.resource text access.context) (same_who world p access.requester requester who looked.who)
          ∙ ap (λ x. asked requester x text access.context) (same_what world r access.resource arn what looked.what)
          ∙ ap (λ x. asked requester arn x access.context) (same_does world other r moment own a text action is_other is_action looked.does),
    )

pub never_where : OneStamp → (world : WorldValue) (p a r : ℕ) (tried base derived : ContextValue) (at : Option ℕ) (now : ℕ) (known : List (List ℕ))
    (requester : RequesterValue) (arn action : List ℕ) → IsLookedAt world p a r tried base derived at now known requester arn action
    → IsFirst world at now → TellsHere Never world p r requester arn action known base → IsNeverWhere world p a r tried at
never_where one world p a r tried base derived at now known requester arn action looked first told own moment own_clean was_tried since
    (other, is_other, (applicable, request, (access, text, is_access, is_action, request_is), decided)) =
    let (agree, later, applies, is) =
    in_turn one world p a r tried base derived at now known requester arn action looked own moment own_clean was_tried other is_other applicable request
    access text is_access is_action request_is in
    told applicable applies access.context (record { agree = agree; later = later (first moment was_tried.tried since) })
    (subst (λ (q : RequestValue). IsDecision applicable q Allowed) is decided)

pub always_where : OneStamp → OneDecision → (world : WorldValue) (p a r : ℕ) (tried base derived : ContextValue) (at : Option ℕ) (now : ℕ)
    (known : List (List ℕ)) (requester : RequesterValue) (arn action : List ℕ)
    → IsLookedAt world p a r tried base derived at now known requester arn action
    → IsFirst world at now → TellsHere Always world p r requester arn action known base → IsAlwaysWhere world p a r tried at
always_where one unique world p a r tried base derived at now known requester arn action looked first told own moment decision own_clean was_tried since
    (other, is_other, (applicable, request, (access, text, is_access, is_action, request_is), decided)) =
    let (agree, later, applies, is) =
    in_turn one world p a r tried base derived at now known requester arn action looked own moment own_clean was_tried other is_other applicable request
    access text is_access is_action request_is in
    unique applicable (asked requester arn action access.context) decision Allowed
    (subst (λ (q : RequestValue). IsDecision applicable q decision) is decided)
    (told applicable applies access.context (record { agree = agree; later = later (first moment was_tried.tried since) }))

-- the keys that are known, as they are lent
pub known_are : (world : WorldValue) (p r : ℕ) (own w v u : ContextValue) (at : Option ℕ) (d : List (List ℕ)) → w ≡ world.context
    → IsPrincipal world p (λ principal. v ≡ principal.context) → IsResource world r (λ resource. u ≡ resource.context) → d ≡ derived_known at
    → AreKnownAt world p r own at (keys_of w ++ (keys_of v ++ (keys_of u ++ (keys_of own ++ d))))
known_are world p r own w v u at d w_is (q, at_q, v_is) (s, at_s, u_is) d_is = (
  q,
  at_q,
  (
    s,
    at_s,
    ap (λ (x : ContextValue). keys_of x ++ (keys_of v ++ (keys_of u ++ (keys_of own ++ d)))) w_is
        ∙ ap (λ (x : ContextValue). keys_of world.context ++ (keys_of x ++ (keys_of u ++ (keys_of own ++ d)))) v_is
        ∙ ap (λ (x : ContextValue). keys_of world.context ++ (keys_of q.context ++ (keys_of x ++ (keys_of own ++ d)))) u_is
        ∙ ap (λ x. keys_of world.context ++ (keys_of q.context ++ (keys_of s.context ++ (keys_of own ++ x)))) d_is,
  ),
)
