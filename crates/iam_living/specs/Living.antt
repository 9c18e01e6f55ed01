-- The living ones of the statements that an index lists. LOGIC 11.1.
use Rattle.std.specs.Prelude.{◌≡◌, ◌++◌, ℕ, List, [], map}
use Rattle.iam_match.specs.Requester.{RequesterValue}
use Rattle.iam_match.specs.Statement.{AccessValue}
use Rattle.iam_decision.specs.Applicable.{ApplicableValue}
use Rattle.iam_decision.specs.Code.Scan.{placed_value}
use Rattle.iam_decision.specs.Living.{AreCandidates, AreLiving, LivingValue}
use Rattle.iam_decision.specs.Matched.{Placed, placed}
use Rattle.iam_decision.specs.declared.scan.Standing.{Standing}
use Rattle.iam_layers.specs.Cell.{IsPrincipal}
use Rattle.iam_world.specs.World.{WorldValue}
use Rattle.iam_index.specs.Index.{ListsResource}

-- these are the living ones of the candidates of requests for this access, for actions of the world
abbrev pub AreLivingAt : WorldValue → ApplicableValue → AccessValue → List LivingValue → Type 0
AreLivingAt world a access living =
    (candidates : List Placed) × AreCandidates world.actions (placed a) candidates × AreLiving access candidates living

-- behind the living ones of any statements stand now those of these statements too
abbrev pub AddsLiving : AccessValue → List Placed → List LivingValue → List LivingValue → Type 0
AddsLiving access statements old new = (before : List Placed) → AreLiving access before old → AreLiving access (before ++ statements) new

-- of the statements that are listed with resource r none lives in requests for this access
abbrev pub NoneLives : WorldValue → ℕ → AccessValue → Type 0
NoneLives world r access =
    (listed : List Standing) × ListsResource world r listed × AreLiving access (map placed_value listed) []

-- in no request of this requester, in whatever context, one of these lives
abbrev pub ConcernNone : RequesterValue → List Placed → Type 0
ConcernNone requester statements = (access : AccessValue) → access.requester ≡ requester → AreLiving access statements []

-- in no request of principal p, in whatever context, one of those lives that are listed with resource r
abbrev pub NoneConcerns : WorldValue → ℕ → ℕ → Type 0
NoneConcerns world p r =
    (access : AccessValue) → IsPrincipal world p (λ principal. access.requester ≡ principal.requester) → NoneLives world r access
