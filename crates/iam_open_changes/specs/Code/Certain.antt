-- What is certain of a request in each of two worlds, and what follows from it.
use Rattle.std.specs.Prelude.{◌≡◌, ◌⊎◌, List, Contains, MatchOption, IfSome, Option}
use Rattle.iam_open.specs.InQuestion.{IsAlways, IsNever}
use Rattle.iam_open.specs.declared.certain.Certain.{Certain}
use Rattle.iam_open.specs.declared.certain.Certain.TheVariants.{Always, Never}
use Rattle.iam_open_changes.specs.Sides.{OfSide}
use Rattle.iam_open_changes.specs.declared.numbers.Numbers.{Numbers}
use Rattle.iam_open_changes.specs.declared.side.Side.{Side}
use Rattle.iam_open_changes.specs.declared.turn.Turn.{Turn}
use Rattle.iam_open_changes.specs.declared.turn.Turn.TheVariants.{Gained, Lost}
use Rattle.iam_world.specs.World.{WorldValue}

-- what is certain holds: of a world without the request it is that nothing is allowed
pub record IsCertainIn (world : WorldValue) (at : Option Numbers) (certain : Certain) : Type 0 where
  pub always : certain ≡ Always
      → MatchOption at ⊥ (λ it. (worlds : List WorldValue) → Contains worlds world → IsAlways worlds world it.principal it.action it.resource)
  pub never : certain ≡ Never → IfSome at (λ it. (worlds : List WorldValue) → Contains worlds world → IsNever worlds world it.principal it.action it.resource)

-- of what a world has of it, in each world that has what is asked for
abbrev pub IsCertainOf : Side → Certain → Type 0
IsCertainOf side certain = OfSide side (λ other at. IsCertainIn other at certain)

-- what is allowed in any case before, or in none after, is not gained; and what is so the other way round is not lost
abbrev pub CannotTurn : Turn → Certain → Certain → Type 0
CannotTurn Gained before after = (before ≡ Always) ⊎ (after ≡ Never)
CannotTurn Lost before after = (before ≡ Never) ⊎ (after ≡ Always)
