-- The rows that answer for a principal what is asked of all names: AWS IAM User Guide, "Policy evaluation logic". LOGIC 11.6.
use Rattle.std.specs.Prelude.{◌≡◌, ℕ, All, List}
use Rattle.iam_layers.specs.declared.unnamed.Unnamed.{Unnamed}
use Rattle.iam_every.specs.Every.{EveryValue, IsAnswered, IsMeantAction, IsResourceText, IsRight, RowValue, Says}
use Rattle.iam_every.specs.Made.{AreMade}

-- each row is right, every request that is meant is answered by one, and they are this list
pub record AreRows (every : EveryValue) (p : ℕ) (rows : List RowValue) : Type 0 where
  pub right : All (IsRight every p) rows
  pub whole : (action text : List ℕ) (unnamed : Unnamed) → IsMeantAction every action → IsResourceText text → Says every text unnamed
      → IsAnswered every p rows action text unnamed
  pub made : AreMade every p rows

-- there is one such list
abbrev pub OneListOfRows : Type 0
OneListOfRows = (every : EveryValue) (p : ℕ) (one other : List RowValue) → AreRows every p one → AreRows every p other → one ≡ other
