-- The report on all names: the rows of principals, one behind the other, as CSV and as JSON. It names no worker. LOGIC 11.6 and 13.1.
use Rattle.std.specs.Prelude.{◌≡◌, ◌⊎◌, ◌≤◌, ◌<◌, ◌+◌, ⊤, ℕ, All, Any, Bool, IsTrue, true, false, List, [], ◌∷◌, ◌++◌, MatchBool, MatchOption, Option, Some, None, codes, decimal, is_none, length, map}
use Rattle.std.specs.List.{AllZip, flat_map, list_any}
use Rattle.serde_json.specs.Data.{Data, unsigned, number, string, array, object, no_members, member}
use Rattle.serde_json.specs.View.{items_of}
use Rattle.serde_json.specs.Written.{compact_text}
use Rattle.iam_decision.specs.declared.verdict.Decision.{Decision}
use Rattle.iam_decision.specs.declared.verdict.Verdict.{Verdict}
use Rattle.iam_decision.specs.Matched.{Selects}
use Rattle.iam_layers.specs.Cell.{IsPrincipal, principal_text}
use Rattle.iam_row.specs.Piece.{cell_row, closing_text, comma_before, opening_text}
use Rattle.iam_row.specs.Report.{CellTexts, brief_layout, csv_line, full_layout}
use Rattle.iam_row.specs.declared.quoted.Format.{Format}
use Rattle.iam_row.specs.declared.quoted.Format.TheVariants.{Csv, Json}
use Rattle.iam_every.specs.Every.{EveryValue, RowValue}
use Rattle.iam_every.specs.Rows.{AreRows}

-- what stands in the place of a decision where a line is not shown
abbrev pub unshown_word : List ℕ
unshown_word = codes "notShown"

-- the line of such a row, and its object, in brief and in full
abbrev pub unshown_line : Bool → ℕ → CellTexts → List ℕ
unshown_line true cell texts = csv_line (decimal cell ∷ (texts.principal ∷ (texts.action ∷ (texts.resource ∷ (unshown_word ∷ [])))))
unshown_line false cell texts =
    csv_line (decimal cell ∷ (texts.principal ∷ (texts.action ∷ (texts.resource ∷ (unshown_word ∷ ([] ∷ ([] ∷ [])))))))

abbrev pub unshown_object : Bool → ℕ → CellTexts → Data
unshown_object true cell texts =
    object (member (codes "action") (string texts.action)
    (member (codes "cell") (number (unsigned cell))
    (member (codes "decision") (string unshown_word)
    (member (codes "principal") (string texts.principal)
    (member (codes "resource") (string texts.resource) no_members)))))
unshown_object false cell texts =
    object (member (codes "action") (string texts.action)
    (member (codes "cell") (number (unsigned cell))
    (member (codes "decision") (string unshown_word)
    (member (codes "lacks") (array (items_of []))
    (member (codes "principal") (string texts.principal)
    (member (codes "resource") (string texts.resource)
    (member (codes "statements") (array (items_of [])) no_members)))))))

-- the row of this number, with these texts
abbrev pub row_text : Format → Bool → ℕ → CellTexts → Option Verdict → List ℕ
row_text format true cell texts (Some verdict) = cell_row brief_layout format cell texts verdict.decision
row_text format false cell texts (Some verdict) = cell_row full_layout format cell texts verdict
row_text Csv brief cell texts None = unshown_line brief cell texts
row_text Json brief cell texts None = comma_before cell ++ compact_text (unshown_object brief cell texts)

-- a row with the text of its principal
pub record NamedRow : Type 0 where
  pub principal : List ℕ
  pub row : RowValue

abbrev pub texts_of : NamedRow → CellTexts
texts_of named = record { principal = named.principal; action = named.row.action; resource = named.row.resource }

-- the rows one behind the other, numbered from this number on
abbrev pub rows_text : Format → Bool → ℕ → List NamedRow → List ℕ
rows_text format brief cell [] = []
rows_text format brief cell (named ∷ rows) =
    row_text format brief cell (texts_of named) named.row.verdict ++ rows_text format brief (cell + 1) rows

-- the row is asked for: its decision is one of these, or none is named; one that is not shown always is
abbrev pub IsWanted : List Decision → RowValue → Type 0
IsWanted decisions row = MatchOption row.verdict ⊤ (λ verdict. (decisions ≡ []) ⊎ Any (λ decision. decision ≡ verdict.decision) decisions)

-- those of the rows of principal p that are asked for
abbrev pub AreWanted : EveryValue → List Decision → ℕ → List NamedRow → Type 0
AreWanted every decisions p listed =
    (rows chosen : List RowValue) × AreRows every p rows × Selects (IsWanted decisions) rows chosen
    × IsPrincipal every.world p (λ principal. listed ≡ map (λ row. record { principal = principal_text principal; row = row }) chosen)

-- the report of the rows of these principals that are asked for, at most 16,777,216 of them
pub record IsEveryReport (format : Format) (brief : Bool) (every : EveryValue) (principals : List ℕ) (decisions : List Decision) (text : List ℕ) : Type 0 where
  pub lists : List (List NamedRow)
  pub are : AllZip (AreWanted every decisions) principals lists
  pub few : length (flat_map (λ listed. listed) lists) ≤ 16777216
  pub is : text ≡ opening_text format brief ++ (rows_text format brief 0 (flat_map (λ listed. listed) lists) ++ closing_text format)

-- there would be more
abbrev pub IsTooLong : EveryValue → List ℕ → List Decision → Type 0
IsTooLong every principals decisions =
    (lists : List (List NamedRow)) × AllZip (AreWanted every decisions) principals lists × (16777216 < length (flat_map (λ listed. listed) lists))

-- there is one report, and none where it would be too long
abbrev pub OneEveryReport : Type 0
OneEveryReport =
    (format : Format) (brief : Bool) (every : EveryValue) (principals : List ℕ) (decisions : List Decision) (one other : List ℕ)
    → IsEveryReport format brief every principals decisions one → IsEveryReport format brief every principals decisions other → one ≡ other

abbrev pub NoReportTooLong : Type 0
NoReportTooLong =
    (format : Format) (brief : Bool) (every : EveryValue) (principals : List ℕ) (decisions : List Decision) (text : List ℕ)
    → IsEveryReport format brief every principals decisions text → ¬ IsTooLong every principals decisions

-- ---- what is told beside the report
-- one of the rows is of a line that is not shown
abbrev pub has_unshown : List RowValue → Bool
has_unshown rows = list_any (λ row. is_none row.verdict) rows

-- P holds of the rows of principal p, whatever is asked for
abbrev pub OfRows : EveryValue → (List RowValue → Type 0) → ℕ → Type 0
OfRows every P p = (rows : List RowValue) × AreRows every p rows × P rows

-- whether one of the principals has rows, whatever is asked for; or none has
abbrev pub TellsRows : EveryValue → List ℕ → Bool → Type 0
TellsRows every principals some =
    MatchBool some (Any (OfRows every (λ rows. 0 < length rows)) principals) (All (OfRows every (λ rows. rows ≡ [])) principals)

-- whether a line is not shown for one of them; or all are shown for all
abbrev pub TellsUnshown : EveryValue → List ℕ → Bool → Type 0
TellsUnshown every principals unshown =
    MatchBool unshown (Any (OfRows every (λ rows. IsTrue (has_unshown rows))) principals)
    (All (OfRows every (λ rows. has_unshown rows ≡ false)) principals)
