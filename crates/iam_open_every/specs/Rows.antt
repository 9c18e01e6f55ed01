-- The rows that answer for a principal what is asked of all names, whatever values the keys have that nothing gives: AWS IAM User Guide,
-- "Policy evaluation logic" and "AWS global condition context keys". LOGIC 11.6 and 11.12.
use Rattle.std.specs.Prelude.{◌≡◌, ◌⊎◌, ℕ, Bool, List, All, Contains, IsSome, MatchOption, None, Some}
use Rattle.std.specs.List.{slice_get}
use Rattle.iam_context.specs.Context.{ContextValue}
use Rattle.iam_decision.specs.declared.verdict.Decision.{Decision}
use Rattle.iam_layers.specs.declared.unnamed.Unnamed.{Unnamed}
use Rattle.iam_every.specs.Every.{ActionsPass, EveryValue, IsMeantAction, IsNamed, IsResourceText, LineValue, Says}
use Rattle.iam_open_every.specs.Made.{AreMade}
use Rattle.iam_open_every.specs.Row.{RowValue}
use Rattle.iam_open_every.specs.Said.{AreSaidOf}
use Rattle.iam_open_every.specs.Spots.{IsLineUnshown, IsOfLine, IsTextSpot}
use Rattle.iam_open_every.specs.Turned.{IsUnnamedDecisionIn}
use Rattle.iam_open_every.specs.declared.said.Said.{Said}
use Rattle.iam_world.specs.World.{WorldValue}

-- this is said of principal p's request for the row's action on the resource of its text
pub record HasSaid (brief : Bool) (every : EveryValue) (p : ℕ) (row : RowValue) (said : Said) : Type 0 where
  pub action : IsMeantAction every row.action
  pub unnamed : Unnamed
  pub text : IsTextSpot every row.resource unnamed
  pub is : AreSaidOf brief every.world p unnamed row.action row.resource said

-- not all texts of the row's line can be shown, or not all actions
abbrev pub IsUnshown : EveryValue → ℕ → RowValue → Type 0
IsUnshown every p row =
    (k : ℕ) × (line : LineValue) × (slice_get every.lines k ≡ Some line) × (row.resource ≡ line.text)
    × ((IsMeantAction every row.action × IsLineUnshown every p k line) ⊎ ActionsPass every p)

abbrev pub IsRight : Bool → EveryValue → ℕ → RowValue → Type 0
IsRight brief every p row = MatchOption row.said (IsUnshown every p row) (HasSaid brief every p row)

-- in each context in question what is decided on the one request is decided on the other
abbrev pub AreRequestsTurnedAlike : WorldValue → ℕ → Unnamed → List ℕ → List ℕ → List ℕ → List ℕ → Type 0
AreRequestsTurnedAlike world p unnamed action text asked other =
    (own : ContextValue) (moment : ℕ) (decision : Decision) → IsUnnamedDecisionIn world p unnamed action text own moment decision
    → IsUnnamedDecisionIn world p unnamed asked other own moment decision

-- what the row says holds of this request too: in each context in question the same is decided on both
pub record Answers (every : EveryValue) (p : ℕ) (action text : List ℕ) (unnamed : Unnamed) (row : RowValue) : Type 0 where
  pub some : IsSome row.said
  pub there : AreRequestsTurnedAlike every.world p unnamed row.action row.resource action text
  pub back : AreRequestsTurnedAlike every.world p unnamed action text row.action row.resource

-- the row says that the first line that matches the text is not shown, or not all actions
abbrev pub IsToldUnshown : EveryValue → ℕ → List ℕ → RowValue → Type 0
IsToldUnshown every p text row =
    (row.said ≡ None) × IsOfLine every text row.resource × (¬ IsNamed every.world text ⊎ ActionsPass every p)

-- each row is right, every request that is meant is answered by one, or one says that it is not shown, and they are these in order, each once
pub record AreRows (brief : Bool) (every : EveryValue) (p : ℕ) (rows : List RowValue) : Type 0 where
  pub right : All (IsRight brief every p) rows
  pub whole : (action text : List ℕ) (unnamed : Unnamed) → IsMeantAction every action → IsResourceText text → Says every text unnamed
      → (row : RowValue) × Contains rows row × (Answers every p action text unnamed row ⊎ IsToldUnshown every p text row)
  pub made : AreMade brief every p rows
