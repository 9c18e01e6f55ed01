-- Contexts in question of a request of two worlds: it gives the same keys of its own at the same moment in both. And what may become of it
-- there: AWS IAM User Guide, "AWS global condition context keys". LOGIC 11.10.
use Rattle.std.specs.Prelude.{◌≡◌, ◌≢◌, ◌<◌, ℕ, [], ◌∷◌, IfSome, MatchOption, Option, Some, None, length}
use Rattle.iam_context.specs.Context.{ContextValue}
use Rattle.iam_decision.specs.declared.verdict.Decision.{Decision}
use Rattle.iam_decision.specs.declared.verdict.Decision.TheVariants.{Allowed}
use Rattle.iam_decision.specs.declared.verdict.Verdict.{Verdict}
use Rattle.iam_layers.specs.Own.{IsCleanAt, IsOwnVerdict}
use Rattle.iam_open.specs.InQuestion.{IsDecisionIn, MayBeGiven, at_moment}
use Rattle.iam_open_changes.specs.declared.numbers.Numbers.{Numbers}
use Rattle.iam_open_changes.specs.declared.turn.Turn.{Turn}
use Rattle.iam_open_changes.specs.declared.turn.Turn.TheVariants.{Gained, Lost}
use Rattle.iam_world.specs.World.{WorldValue}

-- ---- a request by its numbers in a world, which are there where the world has it

-- each number is below that of its kind
pub record AreBelow (world : WorldValue) (at : Numbers) : Type 0 where
  pub principal : at.principal < length world.principals
  pub action : at.action < length world.actions
  pub resource : at.resource < length world.resources

abbrev pub IsThere : WorldValue → Option Numbers → Type 0
IsThere world at = IfSome at (AreBelow world)

-- the request may give these keys of its own there: each of them is open in that world
abbrev pub IsCleanIn : WorldValue → Option Numbers → ContextValue → Type 0
IsCleanIn world at own = IfSome at (λ it. IsCleanAt world it.principal it.resource own)

-- keys and a moment in question: requests may have them where both worlds are asked about, and the keys are open in each world that has
-- the request; so a key that one of the worlds gives is none of them
pub record IsInBoth (before after : WorldValue) (was now : Option Numbers) (own : ContextValue) (moment : ℕ) : Type 0 where
  pub given : MayBeGiven (before ∷ (after ∷ [])) own moment
  pub clean_before : IsCleanIn before was own
  pub clean_after : IsCleanIn after now own

-- ---- what a world says of it in such a context

-- it is allowed; a world that does not have the request allows nothing
abbrev pub IsAllowedIn : WorldValue → Option Numbers → ContextValue → ℕ → Type 0
IsAllowedIn world at own moment = MatchOption at ⊥ (λ it. IsDecisionIn world it.principal it.action it.resource own moment Allowed)

-- it is decided otherwise, or the world does not have it
abbrev pub IsRefusedIn : WorldValue → Option Numbers → ContextValue → ℕ → Type 0
IsRefusedIn world at own moment =
    IfSome at (λ it.
    (decision : Decision) × IsDecisionIn world it.principal it.action it.resource own moment decision × (decision ≢ Allowed))

-- this is the verdict; there is none where the world does not have it
abbrev pub IsVerdictIn : WorldValue → Option Numbers → ContextValue → ℕ → Option Verdict → Type 0
IsVerdictIn world at own moment said =
    MatchOption at (said ≡ None) (λ it.
    (verdict : Verdict) × (said ≡ Some verdict) × IsOwnVerdict (at_moment world moment) it.principal it.action it.resource own verdict)

-- ---- gains and losses

-- it is gained there: allowed after, and not before; or lost, the other way round
abbrev pub IsTurnedIn : Turn → WorldValue → WorldValue → Option Numbers → Option Numbers → ContextValue → ℕ → Type 0
IsTurnedIn Gained before after was now own moment = IsRefusedIn before was own moment × IsAllowedIn after now own moment
IsTurnedIn Lost before after was now own moment = IsAllowedIn before was own moment × IsRefusedIn after now own moment

-- in none of the contexts in question is it
abbrev pub IsNeverTurned : Turn → WorldValue → WorldValue → Option Numbers → Option Numbers → Type 0
IsNeverTurned turn before after was now =
    (own : ContextValue) (moment : ℕ) → IsInBoth before after was now own moment → ¬ IsTurnedIn turn before after was now own moment
