-- What a walk over the statements has to find where it leaves some of them untested: for a verdict all matched denies, and all
-- matched allows where nothing denies; for a decision where nothing denies, allows for whatever some matched allow speaks for.
-- LOGIC 11.2 and 11.3.
use Rattle.std.specs.Prelude.{◌≡◌, ◌↔◌, ◌+◌, ◌<◌, ℕ, List, [], ◌∷◌, ◌++◌, Contains, get_or, length, map, take}
use Rattle.std.specs.List.{Any}
use Rattle.iam_policy.specs.declared.effect.Effect.{Effect}
use Rattle.iam_policy.specs.declared.effect.Effect.TheVariants.{Allow, Deny}
use Rattle.iam_match.specs.Principal.{grant_of}
use Rattle.iam_match.specs.Statement.{RequestValue}
use Rattle.iam_match.specs.declared.principal.Grant.{Grant}
use Rattle.iam_decision.specs.Applicable.{ApplicableValue}
use Rattle.iam_decision.specs.Code.Found.{AllowsIn, DeniesIn, GrantsIn}
use Rattle.iam_decision.specs.Decision.{AllowsAt, GrantsAtLeast, IsDecision, Says}
use Rattle.iam_decision.specs.Living.{AreCandidates, item_of}
use Rattle.iam_decision.specs.Matched.{IsMatched, Placed, Selects, placed}
use Rattle.iam_decision.specs.declared.living.Matched.{Matched}
use Rattle.iam_decision.specs.declared.place.Layer.{Layer}
use Rattle.iam_decision.specs.declared.place.Layer.TheVariants.{Resource}
use Rattle.iam_decision.specs.declared.place.Place.{Place}
use Rattle.iam_decision.specs.declared.verdict.Decision.TheVariants.{ExplicitDeny}

-- the found ones with the effect are all statements that match the request and have it, in their order
abbrev pub HasAll : RequestValue → List Placed → List Matched → Effect → Type 0
HasAll q statements found effect =
    (chosen : List Placed) × Selects (Says q effect) statements chosen
    × Selects (λ m. m.effect ≡ effect) found (map (item_of q.requester) chosen)

-- enough for the whole verdict: all matched denies, and where nothing denies all matched allows
pub record Suffices (q : RequestValue) (statements : List Placed) (found : List Matched) : Type 0 where
  pub denies : HasAll q statements found Deny
  pub allows : ¬ DeniesIn found → HasAll q statements found Allow

-- enough for the decision: nothing denies, and the found ones allow and grant just what the matched statements do
pub record Tells (q : RequestValue) (statements : List Placed) (found : List Matched) : Type 0 where
  pub denies : ¬ Any (Says q Deny) statements
  pub allows : (layer : Layer) (level : ℕ) → Any (AllowsAt q layer level) statements ↔ AllowsIn found layer level
  pub grants : (least : Grant) → Any (GrantsAtLeast q least) statements ↔ GrantsIn found least

-- an allow that stands here and grants this adds nothing to what the found ones allow and grant
abbrev pub IsSettled : List Matched → Place → Grant → Type 0
IsSettled found place grant = AllowsIn found place.layer place.level × (place.layer ≡ Resource → GrantsIn found grant)

-- one more of the statements is looked at: where it matches it is put behind what was found; where it does not, or where it
-- allows and something denies, what was found stays
abbrev pub SufficesOneByOne : Type 0
SufficesOneByOne =
    (q : RequestValue) (statements : List Placed) (i : ℕ) (s : Placed) (found : List Matched)
    → i < length statements → s ≡ get_or statements i s → Suffices q (take i statements) found
    → (IsMatched q s → Suffices q (take (i + 1) statements) (found ++ item_of q.requester s ∷ []))
    × (¬ IsMatched q s → Suffices q (take (i + 1) statements) found)
    × (s.statement.effect ≡ Allow → DeniesIn found → Suffices q (take (i + 1) statements) found)

-- one more of the statements is looked at: where it matches and allows it is put behind what was found; where it does not
-- match, or where it allows what is settled, what was found stays
abbrev pub TellsOneByOne : Type 0
TellsOneByOne =
    (q : RequestValue) (statements : List Placed) (i : ℕ) (s : Placed) (found : List Matched)
    → i < length statements → s ≡ get_or statements i s → Tells q (take i statements) found
    → (Says q Allow s → Tells q (take (i + 1) statements) (found ++ item_of q.requester s ∷ []))
    × (¬ IsMatched q s → Tells q (take (i + 1) statements) found)
    × (s.statement.effect ≡ Allow → IsSettled found s.place (grant_of s.statement.principal q.requester)
    → Tells q (take (i + 1) statements) found)

-- a matched deny among candidates decides
abbrev pub DenyDecides : Type 0
DenyDecides =
    (actions : List (List ℕ)) (a : ApplicableValue) (q : RequestValue) (candidates : List Placed)
    → AreCandidates actions (placed a) candidates → Any (Says q Deny) candidates → IsDecision a q ExplicitDeny

-- what suffices of the candidates for a request's action suffices of all statements
abbrev pub CandidatesSuffice : Type 0
CandidatesSuffice =
    (actions : List (List ℕ)) (q : RequestValue) (statements candidates : List Placed) (found : List Matched) → Contains actions q.action
    → AreCandidates actions statements candidates → Suffices q candidates found → Suffices q statements found

-- and what tells of them tells of all
abbrev pub CandidatesTell : Type 0
CandidatesTell =
    (actions : List (List ℕ)) (q : RequestValue) (statements candidates : List Placed) (found : List Matched) → Contains actions q.action
    → AreCandidates actions statements candidates → Tells q candidates found → Tells q statements found
