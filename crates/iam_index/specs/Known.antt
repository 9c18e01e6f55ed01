-- Statements that an index lists, with what is known of their resource elements. LOGIC 2.4.
use Rattle.std.specs.Prelude.{ℕ, ⊤, List, [], ◌∷◌, Option}
use Rattle.iam_decision.specs.Matched.{Placed}
use Rattle.iam_decision.specs.declared.scan.Standing.{Standing}
use Rattle.iam_layers.specs.Code.Statements.{AreSameButPolicy}
use Rattle.iam_world.specs.World.{WorldValue}
use Rattle.iam_columns.specs.Slots.{Keeps}
use Rattle.iam_columns.specs.Columns.{MatchesBoth}

-- statements of a world
pub record KnownValue : Type 0 where
  pub world : WorldValue
  pub statements : List Standing

-- the resource element of each of these statements matches both resources or neither, in whatever context
abbrev pub TellNoneApart : WorldValue → List Placed → ℕ → ℕ → Type 0
TellNoneApart world [] r other = ⊤
TellNoneApart world (s ∷ statements) r other = MatchesBoth world s.statement.resource r other × TellNoneApart world statements r other

-- resources of one number differ in nothing but their ARN and their policy, and none of these statements tells them apart by its
-- resource element
abbrev pub AreAlike : WorldValue → List Placed → List (Option ℕ) → Type 0
AreAlike world statements numbers =
    (r other n : ℕ) → Keeps numbers r n → Keeps numbers other n → AreSameButPolicy world r other × TellNoneApart world statements r other
