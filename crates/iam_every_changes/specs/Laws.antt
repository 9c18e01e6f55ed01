-- What follows from the rows: AWS IAM User Guide, "Policy evaluation logic". LOGIC 11.9.
use Rattle.std.specs.Prelude.{◌⊎◌, ℕ, Bool, Contains, List}
use Rattle.iam_layers.specs.declared.unnamed.Unnamed.{Unnamed}
use Rattle.iam_every.specs.Every.{IsResourceText, Says}
use Rattle.iam_every_changes.specs.Changes.{ChangedValue, HasSameAccess, IsToldBy}
use Rattle.iam_every_changes.specs.Made.{AreEveryChanges}
use Rattle.iam_every_changes.specs.States.{BothValue, IsMeantIn, IsNamedIn}

-- a request that is meant and that no row tells has the same access in both states
abbrev pub SameAccessWithoutARow : Type 0
SameAccessWithoutARow =
    (both : BothValue) (rows : List ChangedValue) (some : Bool) (action text : List ℕ) (was now : Unnamed) → AreEveryChanges both rows some
    → IsMeantIn both action → IsNamedIn both text ⊎ IsResourceText text → Says both.before.every text was → Says both.after.every text now
    → ((row : ChangedValue) → Contains rows row → ¬ IsToldBy both action text was now row) → HasSameAccess both action text was now
