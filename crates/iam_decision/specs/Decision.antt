-- Decision: AWS IAM User Guide, "Policy evaluation logic". What each grant of a resource policy passes by in the same
-- account, the deciding statements and the lacks are our choices. LOGIC 1.1, 11.1, 11.2, 11.3 and 11.4.
use Rattle.std.specs.Prelude.{◌≡◌, ◌⊎◌, ◌<◌, ◌≤◌, ℕ, List, [], ◌∷◌, true, false, map}
use Rattle.std.specs.List.{Any}
use Rattle.iam_policy.specs.declared.effect.Effect.{Effect}
use Rattle.iam_policy.specs.declared.effect.Effect.TheVariants.{Allow, Deny}
use Rattle.iam_match.specs.Principal.{grant_of, rank}
use Rattle.iam_match.specs.declared.principal.Grant.{Grant}
use Rattle.iam_match.specs.declared.principal.Grant.TheVariants.{Account, Role, Direct}
use Rattle.iam_match.specs.Statement.{RequestValue}
use Rattle.iam_decision.specs.Applicable.{ApplicableValue, frame_of}
use Rattle.iam_decision.specs.Matched.{Placed, placed, IsMatched, Selects}
use Rattle.iam_decision.specs.declared.frame.Frame.{Frame}
use Rattle.iam_decision.specs.declared.place.Layer.{Layer}
use Rattle.iam_decision.specs.declared.place.Layer.TheVariants.{Org, Control, Resource, Identity, Boundary, Session}
use Rattle.iam_decision.specs.declared.place.Place.{Place}
use Rattle.iam_decision.specs.declared.verdict.Decision.{Decision}
use Rattle.iam_decision.specs.declared.verdict.Verdict.{Verdict}
use Rattle.iam_decision.specs.declared.verdict.Decision.TheVariants.{Allowed, ExplicitDeny, ImplicitDeny}

-- the statement matches the request and has the effect
abbrev pub Says : RequestValue → Effect → Placed → Type 0
Says q effect s = IsMatched q s × (s.statement.effect ≡ effect)

-- some matched statement denies
abbrev pub Denies : ApplicableValue → RequestValue → Type 0
Denies a q = Any (Says q Deny) (placed a)

-- the statement matches, allows, and stands at this level of the layer
abbrev pub AllowsAt : RequestValue → Layer → ℕ → Placed → Type 0
AllowsAt q layer level s = Says q Allow s × (s.place.layer ≡ layer) × (s.place.level ≡ level)

-- some matched statement of this level of the layer allows
abbrev pub Allows : ApplicableValue → RequestValue → Layer → ℕ → Type 0
Allows a q layer level = Any (AllowsAt q layer level) (placed a)

-- the statement of the resource's policy matches, allows, and grants at least this
abbrev pub GrantsAtLeast : RequestValue → Grant → Placed → Type 0
GrantsAtLeast q least s =
    Says q Allow s × (s.place.layer ≡ Resource) × (rank least ≤ rank (grant_of s.statement.principal q.requester))

-- some matched allow of the resource's policy grants at least this
abbrev pub Grants : ApplicableValue → RequestValue → Grant → Type 0
Grants a q least = Any (GrantsAtLeast q least) (placed a)

-- whether a layer allows at a level
abbrev pub Allowing : Type 1
Allowing = Layer → ℕ → Type 0

-- whether a grant of the resource's policy is at least this
abbrev pub Granting : Type 1
Granting = Grant → Type 0

-- a layer of so many levels: every level has a matched allow
abbrev pub LevelsHold : Allowing → Layer → ℕ → Type 0
LevelsHold allows layer levels = (level : ℕ) → level < levels → allows layer level

-- boundary: there is none, or it has a matched allow
abbrev pub BoundaryHolds : Allowing → Frame → Type 0
BoundaryHolds allows frame = (frame.boundary ≡ false) ⊎ allows Boundary 0

-- session policies: there are none, or one of them has a matched allow
abbrev pub SessionHolds : Allowing → Frame → Type 0
SessionHolds allows frame = (frame.session ≡ false) ⊎ allows Session 0

-- the resource's policy has to grant where the accounts differ, and where the resource is sealed
abbrev pub MustGrant : Frame → Type 0
MustGrant frame = (frame.same_account ≡ false) ⊎ (frame.sealed ≡ true)

-- identity, boundary and session policies hold, and the resource's policy grants something where it has to
abbrev pub AllHold : Allowing → Granting → Frame → Type 0
AllHold allows grants frame =
    allows Identity 0 × BoundaryHolds allows frame × SessionHolds allows frame × (MustGrant frame → grants Account)

-- in the same account a direct grant suffices, and a grant to the role with boundary and session policies
abbrev pub GrantSuffices : Allowing → Granting → Frame → Type 0
GrantSuffices allows grants frame =
    (frame.same_account ≡ true) × (grants Direct ⊎ (grants Role × BoundaryHolds allows frame × SessionHolds allows frame))

-- what has to allow does: the levels of the organisation and those of the resource, however the rest is allowed
abbrev pub IsAllowed : Allowing → Granting → Frame → Type 0
IsAllowed allows grants frame =
    LevelsHold allows Org frame.org × LevelsHold allows Control frame.control
    × (GrantSuffices allows grants frame ⊎ AllHold allows grants frame)

-- the decision, from what denies, allows and grants
abbrev pub IsDecided : Type 0 → Allowing → Granting → Frame → Decision → Type 0
IsDecided denies allows grants frame ExplicitDeny = denies
IsDecided denies allows grants frame Allowed = ¬ denies × IsAllowed allows grants frame
IsDecided denies allows grants frame ImplicitDeny = ¬ denies × ¬ IsAllowed allows grants frame

-- the decision on a request
abbrev pub IsDecision : ApplicableValue → RequestValue → Decision → Type 0
IsDecision a q decision = IsDecided (Denies a q) (Allows a q) (Grants a q) (frame_of a) decision

-- the check of the layer fails
abbrev pub Fails : Allowing → Granting → Frame → Layer → Type 0
Fails allows grants frame Org = ¬ LevelsHold allows Org frame.org
Fails allows grants frame Control = ¬ LevelsHold allows Control frame.control
Fails allows grants frame Resource = MustGrant frame × ¬ grants Account
Fails allows grants frame Identity = ¬ allows Identity 0
Fails allows grants frame Boundary = ¬ BoundaryHolds allows frame
Fails allows grants frame Session = ¬ SessionHolds allows frame

-- the layers in the order of places
abbrev pub layers_in_order : List Layer
layers_in_order = Org ∷ (Control ∷ (Resource ∷ (Identity ∷ (Boundary ∷ (Session ∷ [])))))

-- an implicit deny lacks the layers whose checks fail, in this order; the others lack nothing
abbrev pub AreLacking : Allowing → Granting → Frame → Decision → List Layer → Type 0
AreLacking allows grants frame Allowed lacks = lacks ≡ []
AreLacking allows grants frame ExplicitDeny lacks = lacks ≡ []
AreLacking allows grants frame ImplicitDeny lacks =
    Selects (Fails allows grants frame) layers_in_order lacks

-- an explicit deny is decided by the denies, the others by the allows
abbrev pub deciding_effect : Decision → Effect
deciding_effect ExplicitDeny = Deny
deciding_effect Allowed = Allow
deciding_effect ImplicitDeny = Allow

-- the places of all matched statements with that effect, in place order
abbrev pub AreDeciding : ApplicableValue → RequestValue → Decision → List Place → Type 0
AreDeciding a q decision places =
    (chosen : List Placed) × Selects (Says q (deciding_effect decision)) (placed a) chosen × (places ≡ map (λ s. s.place) chosen)

-- the verdict on a request: decision, deciding statements and lacks
pub record IsVerdict (a : ApplicableValue) (q : RequestValue) (verdict : Verdict) : Type 0 where
  pub decided : IsDecision a q verdict.decision
  pub deciding : AreDeciding a q verdict.decision verdict.statements
  pub lacking : AreLacking (Allows a q) (Grants a q) (frame_of a) verdict.decision verdict.lacks
