-- A principal in two states of the same accounts, and what is asked of all names there: AWS IAM User Guide, "Policy evaluation logic".
-- LOGIC 11.9.
use Rattle.std.specs.Prelude.{◌≡◌, ◌<◌, ◌++◌, ◌⊎◌, ⊤, ℕ, List, MatchOption, Option, Some, length}
use Rattle.std.specs.List.{slice_get}
use Rattle.iam_world.specs.World.{ResourceValue, WorldValue}
use Rattle.iam_every.specs.Every.{AreThere, EveryValue, IsMeantAction, IsNamed, every_of, patterns_of}
use Rattle.iam_every_changes.specs.declared.states.Both.{Both}
use Rattle.iam_every_changes.specs.declared.states.State.{State}

-- a state: what is asked of all names in its world, and the number there of the principal who asks, if the world has that principal
pub record StateValue : Type 0 where
  pub every : EveryValue
  pub principal : Option ℕ

-- the state before and the state after
pub record BothValue : Type 0 where
  pub before : StateValue
  pub after : StateValue

-- without where they lie in memory
abbrev pub state_of : State → StateValue
state_of state = record { every = every_of state.asked; principal = state.principal }

abbrev pub both_of : Both → BothValue
both_of both = record { before = state_of both.before; after = state_of both.after }

-- ---- what has to hold of them
-- no two resources have one text
abbrev pub AreApart : WorldValue → Type 0
AreApart world =
    (r s : ℕ) (one other : ResourceValue) → slice_get world.resources r ≡ Some one → slice_get world.resources s ≡ Some other
    → one.arn ≡ other.arn → r ≡ s

-- the principal is there, if there is one, and so are the resources that others are like; each text has at most one resource
pub record IsState (state : StateValue) : Type 0 where
  pub principal : MatchOption state.principal ⊤ (λ p. p < length state.every.world.principals)
  pub there : AreThere state.every
  pub apart : AreApart state.every.world

-- the same is asked in both: lines of the same patterns, and the same actions. Whether the principals are one, and whether lines say
-- the same in both, is for those to say who ask
pub record AreBoth (both : BothValue) : Type 0 where
  pub before : IsState both.before
  pub after : IsState both.after
  pub patterns : patterns_of both.before.every.lines ≡ patterns_of both.after.every.lines
  pub actions : both.before.every.actions ≡ both.after.every.actions

-- ---- which requests are meant
-- the action is meant in one of the states
abbrev pub IsMeantIn : BothValue → List ℕ → Type 0
IsMeantIn both action = IsMeantAction both.before.every action ⊎ IsMeantAction both.after.every action

-- a resource of one of the worlds has the text
abbrev pub IsNamedIn : BothValue → List ℕ → Type 0
IsNamedIn both text = IsNamed both.before.every.world text ⊎ IsNamed both.after.every.world text

-- what is asked after, as though that world had the resources of the world before too; only the names of these are read
abbrev pub joint : BothValue → EveryValue
joint both = record both.after.every {
  world = record both.after.every.world { resources = both.after.every.world.resources ++ both.before.every.world.resources };
}
