-- The statements of the applicable policies that match a request once their action elements do, and those that match: what
-- a decision needs of them. Requests for several actions share the former; a statement may be left out of them whose action
-- element matches none of these actions. LOGIC 11.1.
use Rattle.std.specs.Prelude.{◌≡◌, ◌⊎◌, ◌+◌, ◌<◌, ℕ, List, [], ◌∷◌, ◌++◌, All, Contains, get_or, length, map, take}
use Rattle.iam_element.specs.Reading.{ActionElement}
use Rattle.iam_match.specs.Principal.{grant_of}
use Rattle.iam_match.specs.Requester.{RequesterValue}
use Rattle.iam_match.specs.Statement.{AccessValue, ActionMatches, RequestValue, RestMatches, request_for}
use Rattle.iam_decision.specs.Applicable.{ApplicableValue, frame_of}
use Rattle.iam_decision.specs.Code.Found.{AllowsIn, DeniesIn, GrantsIn}
use Rattle.iam_decision.specs.Decision.{IsDecided, IsDecision}
use Rattle.iam_decision.specs.Matched.{IsMatched, Placed, Selects, placed}
use Rattle.iam_decision.specs.declared.frame.Frame.{Frame}
use Rattle.iam_decision.specs.declared.living.Living.{Living}
use Rattle.iam_decision.specs.declared.living.Matched.{Matched}
use Rattle.iam_decision.specs.declared.verdict.Decision.{Decision}

-- what is kept of a statement that matches
abbrev pub item_of : RequesterValue → Placed → Matched
item_of requester s = record {
  place = s.place;
  effect = s.statement.effect;
  grant = grant_of s.statement.principal requester;
}

-- what is kept of a statement that lives, with its action element
pub record LivingValue : Type 0 where
  pub matched : Matched
  pub action : ActionElement

abbrev pub living_of : RequesterValue → Placed → LivingValue
living_of requester s = record { matched = item_of requester s; action = s.statement.action }

-- without where it lies in memory
abbrev pub living_value : Living → LivingValue
living_value living = record { matched = living.matched; action = living.action.now }

-- all elements of the statement but its action element match
abbrev pub Lives : AccessValue → Placed → Type 0
Lives access s = RestMatches s.statement access

-- these are the living ones of the statements, in order
abbrev pub AreLiving : AccessValue → List Placed → List LivingValue → Type 0
AreLiving access statements living =
    (chosen : List Placed) × Selects (Lives access) statements chosen × (living ≡ map (living_of access.requester) chosen)

-- these are the statements that match the request, in order
abbrev pub AreFound : RequestValue → List Placed → List Matched → Type 0
AreFound q statements found =
    (chosen : List Placed) × Selects (IsMatched q) statements chosen × (found ≡ map (item_of q.requester) chosen)

-- the action element of the statement matches none of the actions
abbrev pub IsIdle : List (List ℕ) → Placed → Type 0
IsIdle actions s = All (λ action. ¬ ActionMatches s.statement.action action) actions

-- some of the statements, in their order, and among them each that is not idle
abbrev pub AreCandidates : List (List ℕ) → List Placed → List Placed → Type 0
AreCandidates actions [] candidates = candidates ≡ []
AreCandidates actions (s ∷ statements) candidates =
    ((rest : List Placed) × (candidates ≡ s ∷ rest) × AreCandidates actions statements rest)
    ⊎ (IsIdle actions s × AreCandidates actions statements candidates)

-- what requests share: what the decision asks beside the statements, and living statements
pub record SharedValue : Type 0 where
  pub frame : Frame
  pub living : List LivingValue

-- these are shared by the requests for this access, for one of the actions, to which these policies apply: the living ones of
-- their candidates
pub record IsShared (actions : List (List ℕ)) (a : ApplicableValue) (access : AccessValue) (shared : SharedValue) : Type 0 where
  pub candidates : List Placed
  pub frame : shared.frame ≡ frame_of a
  pub are : AreCandidates actions (placed a) candidates
  pub living : AreLiving access candidates shared.living

-- the action element of the statement matches the action
abbrev pub Acts : List ℕ → LivingValue → Type 0
Acts action living = ActionMatches living.action action

-- those of these statements that match a request for the action, in order
abbrev pub AreActing : List ℕ → List LivingValue → List Matched → Type 0
AreActing action living found =
    (kept : List LivingValue) × Selects (Acts action) living kept × (found ≡ map (λ l. l.matched) kept)

-- one more of the statements is looked at: where it acts it is put behind what was found, else what was found stays
abbrev pub ActingOneByOne : Type 0
ActingOneByOne =
    (action : List ℕ) (living : List LivingValue) (i : ℕ) (x : LivingValue) (found : List Matched) → i < length living → x ≡ get_or living i x
    → AreActing action (take i living) found
    → (Acts action x → AreActing action (take (i + 1) living) (found ++ x.matched ∷ []))
    × (¬ Acts action x → AreActing action (take (i + 1) living) found)

-- of the statements that requests share, those that act on one of their actions are those that match the request for it
abbrev pub ActingAreFound : Type 0
ActingAreFound =
    (actions : List (List ℕ)) (a : ApplicableValue) (access : AccessValue) (action : List ℕ) (shared : SharedValue) (found : List Matched)
    → Contains actions action → IsShared actions a access shared → AreActing action shared.living found
    → AreFound (request_for access action) (placed a) found

-- what the statements that match a request decide is the decision on it
abbrev pub FoundDecide : Type 0
FoundDecide =
    (a : ApplicableValue) (q : RequestValue) (found : List Matched) (decision : Decision) → AreFound q (placed a) found
    → IsDecided (DeniesIn found) (AllowsIn found) (GrantsIn found) (frame_of a) decision → IsDecision a q decision
