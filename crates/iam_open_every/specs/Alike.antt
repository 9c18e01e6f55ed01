-- Texts of resources that statements read alike: AWS IAM User Guide, "IAM JSON policy elements: Resource" and "NotResource". LOGIC 11.2 and 11.12.
use Rattle.std.specs.Prelude.{◌↔◌, ℕ, List, Bool, All}
use Rattle.iam_context.specs.Context.{ContextValue}
use Rattle.iam_match.specs.Statement.{AccessValue}
use Rattle.iam_decision.specs.Applicable.{ApplicableValue}
use Rattle.iam_decision.specs.Decision.{IsDecision}
use Rattle.iam_decision.specs.Matched.{Placed, placed}
use Rattle.iam_decision.specs.declared.verdict.Decision.{Decision}
use Rattle.iam_every.specs.Alike.{Concerns, Meets, request_on}

-- the statement reads both texts alike in this context: its element `Resource` or `NotResource` meets both or neither
abbrev pub ReadsAlike : ContextValue → List ℕ → List ℕ → Placed → Type 0
ReadsAlike context one other s = (negated : Bool) → Meets context negated one s ↔ Meets context negated other s

-- each of these does
abbrev pub AreReadAlike : ContextValue → List Placed → List ℕ → List ℕ → Type 0
AreReadAlike context statements one other = All (ReadsAlike context one other) statements

-- each does that applies and concerns requests for the action, in their context
abbrev pub AreReadAlikeBy : ApplicableValue → AccessValue → List ℕ → List ℕ → List ℕ → Type 0
AreReadAlikeBy a access action one other = All (λ s. Concerns access action s → ReadsAlike access.context one other s) (placed a)

-- then the decisions on resources of both texts are the same
abbrev pub ReadAlikeDecideAlike : Type 0
ReadAlikeDecideAlike =
    (a : ApplicableValue) (access : AccessValue) (action one other : List ℕ) (decision : Decision)
    → AreReadAlikeBy a access action one other
    → IsDecision a (request_on access action one) decision → IsDecision a (request_on access action other) decision
