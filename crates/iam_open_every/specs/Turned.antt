-- Requests for resources that a world does not name, whatever values the keys have that nothing gives: texts on which the same is decided
-- in each of the contexts in question. AWS IAM User Guide, "Policy evaluation logic" and "AWS global condition context keys". LOGIC 11.6 and 11.12.
use Rattle.std.specs.Prelude.{ℕ, List, [], ◌∷◌, ⊤}
use Rattle.iam_context.specs.Context.{ContextValue}
use Rattle.iam_match.specs.Statement.{AccessValue}
use Rattle.iam_decision.specs.Applicable.{ApplicableValue}
use Rattle.iam_decision.specs.declared.verdict.Decision.{Decision}
use Rattle.iam_decision.specs.declared.verdict.Decision.TheVariants.{Allowed}
use Rattle.iam_world.specs.World.{WorldValue}
use Rattle.iam_layers.specs.Own.{IsOwnAccess}
use Rattle.iam_layers.specs.Unnamed.{InWorldAnd}
use Rattle.iam_layers.specs.declared.unnamed.Unnamed.{Unnamed}
use Rattle.iam_open.specs.InQuestion.{IsDecisionIn, IsInQuestion, at_moment}
use Rattle.iam_open.specs.Turned.{IsTurned}
use Rattle.iam_open.specs.declared.answer.Turned.{Turned}
use Rattle.iam_open.specs.declared.answer.Turned.TheVariants as turned
use Rattle.iam_open_every.specs.Alike.{AreReadAlikeBy}

-- the decision on the request of principal p for this action on the resource of this text, which gives these keys at this moment, in a
-- context in question
abbrev pub IsUnnamedDecisionIn : WorldValue → ℕ → Unnamed → List ℕ → List ℕ → ContextValue → ℕ → Decision → Type 0
IsUnnamedDecisionIn world p unnamed action text own moment decision =
    InWorldAnd world unnamed action text (λ other a r.
    IsInQuestion (other ∷ []) other p r own moment × IsDecisionIn other p a r own moment decision)

-- who asks for what in which context, and what applies, where principal p asks for the resource of this text in a context in question
abbrev pub IsUnnamedAskedIn : WorldValue → ℕ → Unnamed → List ℕ → List ℕ → ContextValue → ℕ → ApplicableValue → AccessValue → Type 0
IsUnnamedAskedIn world p unnamed action text own moment applicable access =
    InWorldAnd world unnamed action text (λ other a r.
    IsInQuestion (other ∷ []) other p r own moment × IsOwnAccess (at_moment other moment) p r own applicable access)

-- what is said of the request for the resource of this text, whatever values the keys have that nothing gives
abbrev pub IsUnnamedTurned : WorldValue → ℕ → Unnamed → List ℕ → List ℕ → Turned → Type 0
IsUnnamedTurned world p unnamed action text turned =
    InWorldAnd world unnamed action text (λ other a r. IsTurned (other ∷ []) other p a r turned)

-- in each context in question what is decided on the one text is decided on the other
abbrev pub AreTurnedAlike : WorldValue → ℕ → Unnamed → List ℕ → List ℕ → List ℕ → Type 0
AreTurnedAlike world p unnamed action one other =
    (own : ContextValue) (moment : ℕ) (decision : Decision) → IsUnnamedDecisionIn world p unnamed action one own moment decision
    → IsUnnamedDecisionIn world p unnamed action other own moment decision

-- so it is where in each such context each statement that concerns requests for the one text reads both alike
abbrev pub ReadAlikeAreTurnedAlike : Type 0
ReadAlikeAreTurnedAlike =
    (world : WorldValue) (p : ℕ) (unnamed : Unnamed) (action one other : List ℕ)
    → ((own : ContextValue) (moment : ℕ) (applicable : ApplicableValue) (access : AccessValue)
    → IsUnnamedAskedIn world p unnamed action one own moment applicable access → AreReadAlikeBy applicable access action one other)
    → AreTurnedAlike world p unnamed action one other

-- what is told holds of this text: an example tells a context in which it is allowed
abbrev pub IsToldOf : WorldValue → ℕ → Unnamed → List ℕ → List ℕ → Turned → Type 0
IsToldOf world p unnamed action text turned.Always = IsUnnamedTurned world p unnamed action text turned.Always
IsToldOf world p unnamed action text turned.Never = IsUnnamedTurned world p unnamed action text turned.Never
IsToldOf world p unnamed action text (turned.Possible example) =
    IsUnnamedDecisionIn world p unnamed action text example.own.items example.moment Allowed
IsToldOf world p unnamed action text turned.Open = ⊤

-- what is said of the one text holds of the other, where the same is decided on both
abbrev pub AlikeTextsAreToldAlike : Type 0
AlikeTextsAreToldAlike =
    (world : WorldValue) (p : ℕ) (unnamed : Unnamed) (action one other : List ℕ) (turned : Turned)
    → AreTurnedAlike world p unnamed action one other → AreTurnedAlike world p unnamed action other one
    → IsUnnamedTurned world p unnamed action one turned → IsToldOf world p unnamed action other turned
