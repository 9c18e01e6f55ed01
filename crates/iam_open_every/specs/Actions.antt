-- Actions that policies do not tell apart, whatever values the keys have that nothing gives: AWS IAM User Guide, "IAM JSON policy elements:
-- Action" and "NotAction". LOGIC 11.6 and 11.12.
use Rattle.std.specs.Prelude.{ℕ, List, All, Contains}
use Rattle.iam_context.specs.Context.{ContextValue}
use Rattle.iam_decision.specs.Applicable.{ApplicableValue}
use Rattle.iam_decision.specs.declared.verdict.Decision.{Decision}
use Rattle.iam_every.specs.Alike.{AreAlikeActions}
use Rattle.iam_every.specs.Every.{EveryValue, IsMeantAction, Says}
use Rattle.iam_every.specs.Made.{AreAsked}
use Rattle.iam_layers.specs.Unnamed.{AreUnnamedPolicies}
use Rattle.iam_layers.specs.declared.unnamed.Unnamed.{Unnamed}
use Rattle.iam_open_every.specs.Turned.{IsUnnamedDecisionIn}
use Rattle.iam_world.specs.World.{WorldValue}

-- in each context in question what is decided on the one action is decided on the other
abbrev pub AreActionsTurnedAlike : WorldValue → ℕ → Unnamed → List ℕ → List ℕ → List ℕ → Type 0
AreActionsTurnedAlike world p unnamed text one other =
    (own : ContextValue) (moment : ℕ) (decision : Decision) → IsUnnamedDecisionIn world p unnamed one text own moment decision
    → IsUnnamedDecisionIn world p unnamed other text own moment decision

-- so it is where the action elements of all statements that apply match both or neither
abbrev pub AlikeActionsAreTurnedAlike : Type 0
AlikeActionsAreTurnedAlike =
    (world : WorldValue) (p : ℕ) (unnamed : Unnamed) (text one other : List ℕ) (a : ApplicableValue) → AreUnnamedPolicies world p unnamed a
    → AreAlikeActions a one other → AreActionsTurnedAlike world p unnamed text one other

-- the policies that apply to such a resource do not tell the two actions apart
abbrev pub AreAlikeFor : WorldValue → ℕ → Unnamed → List ℕ → List ℕ → Type 0
AreAlikeFor world p unnamed one other = (a : ApplicableValue) → AreUnnamedPolicies world p unnamed a → AreAlikeActions a one other

-- actions that are meant; each one that is meant is like one of them, whatever is said of the resource; they are those of the world, or one
-- of each kind
pub record AreAllActions (every : EveryValue) (p : ℕ) (actions : List (List ℕ)) : Type 0 where
  pub meant : All (IsMeantAction every) actions
  pub whole : (action : List ℕ) → IsMeantAction every action → (shown : List ℕ) × Contains actions shown
      × ((text : List ℕ) (unnamed : Unnamed) → Says every text unnamed → AreAlikeFor every.world p unnamed shown action)
  pub asked : AreAsked every p actions
