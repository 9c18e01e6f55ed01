-- The report as it is made: the rows of some cells of one of the worlds each.
use Rattle.std.specs.Prelude.{◌≡◌, ◌+◌, ◌*◌, ℕ, Bool, List, length, min}
use Rattle.iam_open_changes.specs.Report.{AreLeftRows, AreRows}
use Rattle.iam_open_changes.specs.Rows.{RowValue, all_rows, kinds_of, rows_behind}
use Rattle.iam_open_changes.specs.declared.report.Side.{Side}
use Rattle.iam_open_changes.specs.declared.report.Side.TheVariants.{After, Before}
use Rattle.iam_open_changes.specs.declared.rows.Kinds.{Kinds}
use Rattle.iam_row.specs.Report.{AreEntriesFrom, CellTexts, IsCellTexts}
use Rattle.iam_row.specs.declared.quoted.Format.{Format}
use Rattle.iam_world.specs.World.{WorldValue, world_cells}

abbrev pub world_at : Side → WorldValue → WorldValue → WorldValue
world_at After before after = after
world_at Before before after = before

-- the rows of the request with these texts, which that world has
abbrev pub AreRowsOf : Side → WorldValue → WorldValue → CellTexts → List RowValue → Type 0
AreRowsOf After before after texts rows = AreRows before after texts rows
AreRowsOf Before before after texts rows = AreLeftRows before after texts rows

-- of a cell of it
abbrev pub AreRowsAt : Side → WorldValue → WorldValue → ℕ → List RowValue → Type 0
AreRowsAt side before after cell rows =
    (texts : CellTexts) × IsCellTexts (world_at side before after) cell texts × AreRowsOf side before after texts rows

-- the cells of a tile, where each has so many but the last
abbrev pub from_of : WorldValue → ℕ → ℕ → ℕ
from_of world each tile = min (tile * each) (world_cells world)

abbrev pub to_of : WorldValue → ℕ → ℕ → ℕ
to_of world each tile = min (from_of world each tile + each) (world_cells world)

-- the rows of the cells from one up to another, and their kinds
pub record IsPart (format : Format) (brief : Bool) (side : Side) (before after : WorldValue) (from to : ℕ) (text : List ℕ) (kinds : Kinds)
    : Type 0 where
  pub entries : List (List RowValue)
  pub count : from + length entries ≡ to
  pub each : AreEntriesFrom (AreRowsAt side before after) from entries
  pub is : text ≡ rows_behind format brief (all_rows entries)
  pub kinds_are : kinds ≡ kinds_of (all_rows entries)
