-- What follows from what is told. LOGIC 11.10.
use Rattle.std.specs.Prelude.{◌≡◌, ℕ, Option, Some}
use Rattle.iam_context.specs.Context.{ContextValue}
use Rattle.iam_decision.specs.declared.verdict.Decision.{Decision}
use Rattle.iam_decision.specs.declared.verdict.Decision.TheVariants.{Allowed}
use Rattle.iam_layers.specs.Own.{IsCleanAt}
use Rattle.iam_open.specs.InQuestion.{IsDecisionIn}
use Rattle.iam_open_changes.specs.InBoth.{IsNeverTurned, IsTurnedIn}
use Rattle.iam_open_changes.specs.Same.{AllowsNoMore, HaveSame}
use Rattle.iam_open_changes.specs.Told.{IsShown}
use Rattle.iam_open_changes.specs.declared.example.Example.{Example}
use Rattle.iam_open_changes.specs.declared.numbers.Numbers.{Numbers}
use Rattle.iam_open_changes.specs.declared.turn.Turn.{Turn}
use Rattle.iam_open_changes.specs.declared.turn.Turn.TheVariants.{Gained, Lost}
use Rattle.iam_world.specs.World.{WorldValue}

-- an example is one: in its context the request is gained, or lost
abbrev pub ShownIsTurned : Type 0
ShownIsTurned =
    (turn : Turn) (before after : WorldValue) (was now : Option Numbers) (example : Example) → IsShown turn before after was now example
    → IsTurnedIn turn before after was now example.own.items example.moment

-- of what is told not to be gained, or lost, there is no example
abbrev pub NeverIsNotShown : Type 0
NeverIsNotShown =
    (turn : Turn) (before after : WorldValue) (was now : Option Numbers) (example : Example) → IsNeverTurned turn before after was now
    → ¬ IsShown turn before after was now example

-- a request with the same access is decided alike in each context in question
abbrev pub SameAccess : Type 0
SameAccess =
    (before after : WorldValue) (was now : Numbers) (own : ContextValue) (moment : ℕ) (decision other : Decision)
    → HaveSame before after was now → IsCleanAt before was.principal was.resource own → IsCleanAt after now.principal now.resource own
    → IsDecisionIn before was.principal was.action was.resource own moment decision
    → IsDecisionIn after now.principal now.action now.resource own moment other → decision ≡ other

-- where the first world allows no more than the second, what it allows in a context in question the second allows too
abbrev pub NoMoreIsAllowed : Type 0
NoMoreIsAllowed =
    (one other : WorldValue) (at to : Numbers) (own : ContextValue) (moment : ℕ) (decision : Decision)
    → AllowsNoMore one other at to → IsCleanAt one at.principal at.resource own → IsCleanAt other to.principal to.resource own
    → IsDecisionIn one at.principal at.action at.resource own moment Allowed
    → IsDecisionIn other to.principal to.action to.resource own moment decision → decision ≡ Allowed

-- so a request is not lost where the world before allows no more, nor gained where the world after does not
abbrev pub NoMoreIsNotTurned : Type 0
NoMoreIsNotTurned =
    (before after : WorldValue) (was now : Numbers)
    → (AllowsNoMore after before now was → IsNeverTurned Gained before after (Some was) (Some now))
    × (AllowsNoMore before after was now → IsNeverTurned Lost before after (Some was) (Some now))
