-- Pieces of reports: an opening, the rows of the cells one behind the other, and a closing. A row is put together from texts
-- that are made once: those of its principal, action and resource with what stands beside them, and a tail for its verdict.
-- LOGIC 13.1 and 13.2.
use Rattle.std.specs.Prelude.{◌≡◌, ◌+◌, ℕ, List, [], ◌∷◌, ◌++◌, ◌==◌, Bool, true, false, map, codes, decimal, get_or, length, nat_lt, if◌then◌else◌}
use Rattle.csv.specs.Writing.{default_writer, field_text}
use Rattle.serde_json.specs.Data.{string}
use Rattle.serde_json.specs.Written.{compact_text}
use Rattle.iam_decision.specs.declared.verdict.Decision.{Decision}
use Rattle.iam_decision.specs.declared.verdict.Verdict.{Verdict}
use Rattle.iam_world.specs.World.{WorldValue}
use Rattle.iam_layers.specs.Cell.{principal_text}
use Rattle.iam_row.specs.Report.{CellTexts, Layout, brief_layout, full_layout}
use Rattle.iam_row.specs.Words.{decision_word, layer_word, marked, place_text}
use Rattle.iam_row.specs.declared.position.Position.{Position}
use Rattle.iam_row.specs.declared.quoted.Format.{Format}
use Rattle.iam_row.specs.declared.quoted.Format.TheVariants.{Csv, Json}
use Rattle.iam_row.specs.declared.quoted.Quoted.{Quoted}
use Rattle.iam_row.specs.declared.tail.Tail.{Tail}

-- what stands before all rows: the header's line, or a bracket
abbrev pub opening_text : Format → Bool → List ℕ
opening_text Csv true = brief_layout.header
opening_text Csv false = full_layout.header
opening_text Json brief = codes "["

-- what stands after all rows
abbrev pub closing_text : Format → List ℕ
closing_text Csv = []
closing_text Json = codes "]\n"

-- a comma, where a row stands before
abbrev pub comma_before : ℕ → List ℕ
comma_before cell = if cell == 0 then [] else codes ","

-- the text of the row of a cell
abbrev pub cell_row : {A : Type 0} → Layout A → Format → ℕ → CellTexts → A → List ℕ
cell_row layout Csv cell texts entry = layout.line cell texts entry
cell_row layout Json cell texts entry = comma_before cell ++ compact_text (layout.object cell texts entry)

-- ---- texts that are made once

-- how a text stands in a row
abbrev pub quote_of : Format → List ℕ → List ℕ
quote_of Csv text = field_text default_writer text
quote_of Json text = compact_text (string text)

-- the texts of a principal, an action and a resource, with what stands beside them in each row
abbrev pub principal_piece : Format → List ℕ → List ℕ
principal_piece Csv text = codes "," ++ (quote_of Csv text ++ codes ",")
principal_piece Json text = quote_of Json text

abbrev pub action_piece : Format → List ℕ → List ℕ
action_piece Csv text = quote_of Csv text ++ codes ","
action_piece Json text = codes "{\"action\":" ++ (quote_of Json text ++ codes ",\"cell\":")

abbrev pub resource_piece : Format → List ℕ → List ℕ
resource_piece Csv text = quote_of Csv text
resource_piece Json text = codes ",\"resource\":" ++ quote_of Json text

-- all three of a request
abbrev pub pieces_of : Format → CellTexts → CellTexts
pieces_of format texts =
    record { principal = principal_piece format texts.principal; action = action_piece format texts.action; resource = resource_piece format texts.resource }

-- these are the pieces of the world's texts
pub record IsQuotedOf (world : WorldValue) (quoted : Quoted) : Type 0 where
  pub principals : quoted.principals ≡ map (λ principal. principal_piece quoted.format (principal_text principal)) world.principals
  pub actions : quoted.actions ≡ map (action_piece quoted.format) world.actions
  pub resources : quoted.resources ≡ map (λ resource. resource_piece quoted.format resource.arn) world.resources

-- what stands in a row before the principal
unfoldable pub front_of : Format → Bool → Verdict → List ℕ
front_of Csv brief verdict = []
front_of Json true verdict = codes ",\"decision\":\"" ++ (decision_word verdict.decision ++ codes "\",\"principal\":")
front_of Json false verdict =
    codes ",\"decision\":\"" ++ (decision_word verdict.decision
    ++ (codes "\",\"lacks\":[" ++ (marked layer_word (codes "\"") (codes ",") verdict.lacks ++ codes "],\"principal\":")))

-- what stands in a row behind the resource
unfoldable pub back_of : Format → Bool → Verdict → List ℕ
back_of Csv true verdict = codes "," ++ (decision_word verdict.decision ++ codes "\n")
back_of Csv false verdict =
    codes "," ++ (decision_word verdict.decision ++ (codes "," ++ (marked place_text (codes "") (codes " ") verdict.statements
    ++ (codes "," ++ (marked layer_word (codes "") (codes " ") verdict.lacks ++ codes "\n")))))
back_of Json true verdict = codes "}"
back_of Json false verdict = codes ",\"statements\":[" ++ (marked place_text (codes "\"") (codes ",") verdict.statements ++ codes "]}")

-- the tail of the row of a verdict
abbrev pub tail_of : Format → Bool → Verdict → Tail
tail_of format brief verdict = record { front = front_of format brief verdict; back = back_of format brief verdict }

-- a decision, as a verdict that names no places and no layers
abbrev pub bare : Decision → Verdict
bare decision = record { decision = decision; statements = []; lacks = [] }

abbrev pub full_tail : Format → Verdict → Tail
full_tail format verdict = tail_of format false verdict

abbrev pub brief_tail : Format → Decision → Tail
brief_tail format decision = tail_of format true (bare decision)

-- ---- rows

-- a row, from its pieces
abbrev pub row_text : Format → ℕ → CellTexts → Tail → List ℕ
row_text Csv cell pieces tail = decimal cell ++ (pieces.principal ++ (pieces.action ++ (pieces.resource ++ tail.back)))
row_text Json cell pieces tail =
    comma_before cell ++ (pieces.action ++ (decimal cell ++ (tail.front ++ (pieces.principal ++ (pieces.resource ++ tail.back)))))

-- the pieces at a position
abbrev pub pieces_at : Quoted → Position → CellTexts
pieces_at quoted at =
    record { principal = get_or quoted.principals at.principal []; action = get_or quoted.actions at.action []; resource = get_or quoted.resources at.resource [] }

abbrev pub row_at : Quoted → Position → Tail → List ℕ
row_at quoted at tail = row_text quoted.format at.cell (pieces_at quoted at) tail

-- the position behind another: resources are counted up first, then actions, then principals
abbrev pub next_by : Bool → Bool → Position → Position
next_by true more at = record { cell = at.cell + 1; principal = at.principal; action = at.action; resource = at.resource + 1 }
next_by false true at = record { cell = at.cell + 1; principal = at.principal; action = at.action + 1; resource = 0 }
next_by false false at = record { cell = at.cell + 1; principal = at.principal + 1; action = 0; resource = 0 }

abbrev pub next_of : ℕ → ℕ → Position → Position
next_of actions resources at = next_by (nat_lt (at.resource + 1) resources) (nat_lt (at.action + 1) actions) at

abbrev pub next_in : Quoted → Position → Position
next_in quoted at = next_of (length quoted.actions) (length quoted.resources) at

-- rows with these tails, one behind the other from a position on
abbrev pub rows_text : Quoted → Position → List Tail → List ℕ
rows_text quoted at [] = []
rows_text quoted at (tail ∷ tails) = row_at quoted at tail ++ rows_text quoted (next_in quoted at) tails

abbrev pub first_position : Position
first_position = record { cell = 0; principal = 0; action = 0; resource = 0 }

-- a report of all cells, as it is kept: pieces, and a tail for each cell
pub record MatrixValue : Type 0 where
  pub quoted : Quoted
  pub brief : Bool
  pub tails : List Tail

-- its text
abbrev pub text_of : MatrixValue → List ℕ
text_of matrix =
    opening_text matrix.quoted.format matrix.brief
    ++ (rows_text matrix.quoted first_position matrix.tails ++ closing_text matrix.quoted.format)
