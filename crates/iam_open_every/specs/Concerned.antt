-- Statements that may concern requests, whatever the action and the resource, in contexts that agree on what is known: AWS IAM User
-- Guide, "Policy evaluation logic". LOGIC 9.1 and 11.12.
use Rattle.std.specs.Prelude.{◌≡◌, ℕ, List, All, Bool, Contains, true, false}
use Rattle.iam_context.specs.Context.{ContextValue}
use Rattle.iam_decision.specs.Matched.{Placed}
use Rattle.iam_match.specs.Entry.{EntryHolds}
use Rattle.iam_match.specs.Principal.{PrincipalMatches}
use Rattle.iam_match.specs.Statement.{AccessValue}
use Rattle.iam_open.specs.Asks.{entry_keys, is_beyond}
use Rattle.iam_open.specs.Code.Known.{Follows}

-- all its elements match in this context but those about actions and resources
pub record ConcernsIn (access : AccessValue) (context : ContextValue) (s : Placed) : Type 0 where
  pub principal : PrincipalMatches s.statement.principal access.requester
  pub conditions : All (EntryHolds context) s.statement.conditions

-- its principal element matches, and those of its conditions hold that ask for known keys alone
pub record MayConcern (access : AccessValue) (known : List (List ℕ)) (s : Placed) : Type 0 where
  pub principal : PrincipalMatches s.statement.principal access.requester
  pub conditions : All (λ entry. is_beyond known (entry_keys entry) ≡ false → EntryHolds access.context entry) s.statement.conditions

-- the statement may concern requests, or concerns none in any of the contexts
pub record IsTellingConcern (access : AccessValue) (known : List (List ℕ)) (s : Placed) (may : Bool) : Type 0 where
  pub some : may ≡ true → MayConcern access known s
  pub none : may ≡ false → (context : ContextValue) → Follows known access.context context → ¬ ConcernsIn access context s

-- they are those of the statements that may: each that concerns requests in one of the contexts is there
pub record AreConcerned (access : AccessValue) (known : List (List ℕ)) (statements found : List Placed) : Type 0 where
  pub each : All (MayConcern access known) found
  pub among : All (λ s. Contains statements s) found
  pub all : (context : ContextValue) → Follows known access.context context → (s : Placed) → Contains statements s
      → ConcernsIn access context s → Contains found s
