-- A report of changes that is put together from pieces.
use Rattle.std.specs.Prelude.{◌≡◌, ℕ, ◌-◌, List, [], ◌∷◌, ◌++◌, Some, Bool, if◌then◌else◌, map, nat_lt}
use Rattle.std.specs.List.{flat_map}
use Rattle.iam_layers.specs.Cell.{principal_text}
use Rattle.iam_world.specs.World.{WorldValue}
use Rattle.iam_row.specs.Changes.{is_allowed, kind_by}
use Rattle.iam_row.specs.Code.ChangeParts.{change_action, change_tail, changes_opening, text_behind}
use Rattle.iam_row.specs.Piece.{closing_text, pieces_at, principal_piece, resource_piece}
use Rattle.iam_row.specs.declared.changes.Change.{Change}
use Rattle.iam_row.specs.declared.quoted.Format.{Format}
use Rattle.iam_row.specs.declared.quoted.Quoted.{Quoted}
use Rattle.iam_row.specs.declared.tail.Tail.{Tail}
use Rattle.iam_report.specs.Code.Place.{comma_of, position_in}
use Rattle.iam_changes.specs.declared.change.Kinds.{Kinds}
use Rattle.iam_changes.specs.declared.pair.Pair.{Pair}
use Rattle.iam_changes.specs.declared.text.Pieces.{Pieces}

-- these are the pieces of the world's texts
pub record ArePiecesOf (world : WorldValue) (pieces : Quoted) : Type 0 where
  pub principals : pieces.principals ≡ map (λ principal. principal_piece pieces.format (principal_text principal)) world.principals
  pub actions : pieces.actions ≡ map (change_action pieces.format) world.actions
  pub resources : pieces.resources ≡ map (λ resource. resource_piece pieces.format resource.arn) world.resources

-- the change of what is said, where it is one, and the tail of its row
abbrev pub pair_kind : Pair → Change
pair_kind pair = kind_by (is_allowed pair.before) (is_allowed pair.after)

abbrev pub pair_tail : Format → Bool → Pair → Tail
pair_tail format brief pair = change_tail format brief (Some (pair_kind pair)) pair.before pair.after

-- ---- rows

-- the rows of a part, from one cell on, and the kinds of changes
pub record PartValue : Type 0 where
  pub from : ℕ
  pub rows : List (ℕ × Tail)
  pub kinds : Kinds

abbrev pub rows_in : List PartValue → List (ℕ × Tail)
rows_in parts = flat_map (λ part. part.rows) parts

-- the cell of the first row
abbrev pub lead_of : List (ℕ × Tail) → ℕ
lead_of [] = 0
lead_of (row ∷ rows) = row.0

-- the row of a cell of a world with these texts
abbrev pub row_behind : Quoted → List ℕ → ℕ → Tail → List ℕ
row_behind quoted comma cell tail = text_behind quoted.format comma (pieces_at quoted (position_in quoted cell)) tail

-- the cells of BEFORE are counted behind those of AFTER
abbrev pub row_text : Pieces → ℕ × Tail → List ℕ
row_text pieces row =
    if nat_lt row.0 pieces.cells then row_behind pieces.after (comma_of pieces.lead row.0) row.0 row.1
    else row_behind pieces.before (comma_of pieces.lead row.0) (row.0 - pieces.cells) row.1

abbrev pub rows_text : Pieces → List (ℕ × Tail) → List ℕ
rows_text pieces rows = flat_map (row_text pieces) rows

-- a report of changes, as it is kept
pub record ReportValue : Type 0 where
  pub pieces : Pieces
  pub brief : Bool
  pub rows : List (ℕ × Tail)
  pub kinds : Kinds

abbrev pub report_text : ReportValue → List ℕ
report_text report =
    changes_opening report.pieces.after.format report.brief
    ++ (rows_text report.pieces report.rows ++ closing_text report.pieces.after.format)
