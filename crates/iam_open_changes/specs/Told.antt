-- What is told of a request of two worlds, whatever values the keys have that nothing gives. LOGIC 11.10.
use Rattle.std.specs.Prelude.{◌≡◌, ⊤, Option, true, false}
use Rattle.iam_decision.specs.declared.verdict.Verdict.{Verdict}
use Rattle.iam_open_changes.specs.InBoth.{IsInBoth, IsNeverTurned, IsVerdictIn}
use Rattle.iam_open_changes.specs.declared.change.Change.{Change}
use Rattle.iam_open_changes.specs.declared.change.Told.{Told}
use Rattle.iam_open_changes.specs.declared.change.Told.TheVariants as told
use Rattle.iam_open_changes.specs.declared.example.Example.{Example}
use Rattle.iam_open_changes.specs.declared.numbers.Numbers.{Numbers}
use Rattle.iam_open_changes.specs.declared.turn.Turn.{Turn}
use Rattle.iam_open_changes.specs.declared.turn.Turn.TheVariants.{Gained, Lost}
use Rattle.iam_row.specs.Changes.{is_allowed}
use Rattle.iam_world.specs.World.{WorldValue}

-- by these verdicts it is gained, or lost
abbrev pub AreTurned : Turn → Option Verdict → Option Verdict → Type 0
AreTurned Gained before after = (is_allowed before ≡ false) × (is_allowed after ≡ true)
AreTurned Lost before after = (is_allowed before ≡ true) × (is_allowed after ≡ false)

-- the context is in question, these are the verdicts of both worlds in it, and the request is gained or lost by them
pub record IsShown (turn : Turn) (before after : WorldValue) (was now : Option Numbers) (example : Example) : Type 0 where
  pub question : IsInBoth before after was now example.own.items example.moment
  pub said : IsVerdictIn before was example.own.items example.moment example.before
  pub says : IsVerdictIn after now example.own.items example.moment example.after
  pub turned : AreTurned turn example.before example.after

-- in none of the contexts in question is it; or there is an example; or nothing is said
abbrev pub IsTold : Turn → WorldValue → WorldValue → Option Numbers → Option Numbers → Told → Type 0
IsTold turn before after was now told.Never = IsNeverTurned turn before after was now
IsTold turn before after was now (told.Shown example) = IsShown turn before after was now example
IsTold turn before after was now told.Open = ⊤

-- so it is of gains and of losses
pub record IsChange (before after : WorldValue) (was now : Option Numbers) (change : Change) : Type 0 where
  pub gained : IsTold Gained before after was now change.gained
  pub lost : IsTold Lost before after was now change.lost
