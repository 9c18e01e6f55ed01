-- What statements allow at most and at least in several contexts: the statements of which it is certain that they match, and those of
-- which it is not. LOGIC 11.2.
use Rattle.std.specs.Prelude.{◌≡◌, ℕ, Bool, true, false, List}
use Rattle.std.specs.List.{Any, Contains}
use Rattle.iam_context.specs.Context.{ContextValue}
use Rattle.iam_decision.specs.Code.Found.{AllowsIn, DeniesIn, GrantsIn}
use Rattle.iam_decision.specs.Decision.{IsDecided, Says}
use Rattle.iam_decision.specs.Living.{item_of}
use Rattle.iam_decision.specs.Matched.{Placed}
use Rattle.iam_decision.specs.declared.frame.Frame.{Frame}
use Rattle.iam_decision.specs.declared.living.Matched.{Matched}
use Rattle.iam_decision.specs.declared.verdict.Decision.TheVariants.{Allowed}
use Rattle.iam_match.specs.Statement.{AccessValue}
use Rattle.iam_open.specs.Code.Certain.{Contexts}
use Rattle.iam_open.specs.Code.Known.{request_in}
use Rattle.iam_open.specs.declared.bounds.Bounds.{Bounds}
use Rattle.iam_open.specs.declared.certain.Certain.{Certain}
use Rattle.iam_open.specs.declared.certain.Certain.TheVariants.{Always, Never, Open}
use Rattle.iam_policy.specs.declared.effect.Effect.{Effect}
use Rattle.iam_policy.specs.declared.effect.Effect.TheVariants.{Allow, Deny}

-- whatever of the statements matches with this effect in one of the contexts is among the found ones
abbrev pub HasAllOf : Effect → AccessValue → List ℕ → Contexts → List Placed → List Matched → Type 0
HasAllOf effect access action Are statements found =
    (context : ContextValue) → Are context → (s : Placed) → Contains statements s → Says (request_in access action context) effect s
    → Contains found (item_of access.requester s)

-- whatever of the found ones has this effect matches in each of the contexts
abbrev pub HasNoneBut : Effect → AccessValue → List ℕ → Contexts → List Placed → List Matched → Type 0
HasNoneBut effect access action Are statements found =
    (context : ContextValue) → Are context → (m : Matched) → Contains found m → m.effect ≡ effect
    → Any (λ s. Says (request_in access action context) effect s × (item_of access.requester s ≡ m)) statements

-- with these statements at least as much is allowed as in each of the contexts
pub record AreMost (access : AccessValue) (action : List ℕ) (Are : Contexts) (statements : List Placed) (found : List Matched) : Type 0 where
  pub allows : HasAllOf Allow access action Are statements found
  pub denies : HasNoneBut Deny access action Are statements found

-- with these at most as much
pub record AreLeast (access : AccessValue) (action : List ℕ) (Are : Contexts) (statements : List Placed) (found : List Matched) : Type 0 where
  pub allows : HasNoneBut Allow access action Are statements found
  pub denies : HasAllOf Deny access action Are statements found

pub record AreBounds (access : AccessValue) (action : List ℕ) (Are : Contexts) (statements : List Placed) (bounds : Bounds) : Type 0 where
  pub most : AreMost access action Are statements bounds.most.items
  pub least : AreLeast access action Are statements bounds.least.items

-- with these statements, and what is asked beside them, the decision is that it is allowed
abbrev pub Decides : List Matched → Frame → Type 0
Decides found frame = IsDecided (DeniesIn found) (AllowsIn found) (GrantsIn found) frame Allowed

-- a statement of which this is known counts where as much is allowed as may be
abbrev pub counts_at_most : Certain → Effect → Bool
counts_at_most Always effect = true
counts_at_most Never effect = false
counts_at_most Open Allow = true
counts_at_most Open Deny = false

-- where as little is
abbrev pub counts_at_least : Certain → Effect → Bool
counts_at_least Always effect = true
counts_at_least Never effect = false
counts_at_least Open Allow = false
counts_at_least Open Deny = true
