-- Why a line has no JSON value.
use Rattle.std.specs.Prelude.{◌≡◌, ◌⊎◌, ℕ, List}
use Rattle.serde_json.specs.Data.{Data}
use Rattle.iam_world.specs.WorldFault.{IsJson}
use Rattle.iam_asked.specs.Said.{IsShort}
use Rattle.iam_asked.specs.declared.fault.LineFault.{LineFault}
use Rattle.iam_asked.specs.declared.fault.LineFault.TheVariants.{NotJson, BadShape}

-- it is too long, or no JSON text
abbrev pub IsUnread : List ℕ → LineFault → Type 0
IsUnread line fault =
    ((fault ≡ BadShape) × ¬ IsShort line) ⊎ ((fault ≡ NotJson) × IsShort line × ((d : Data) → ¬ IsJson line d))
