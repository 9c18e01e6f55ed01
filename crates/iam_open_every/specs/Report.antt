-- The report on all names, whatever values the keys have that nothing gives: the rows of principals, one behind the other, as CSV and as
-- JSON. It names no worker. LOGIC 11.12 and 13.11.
use Rattle.std.specs.Prelude.{◌≡◌, ◌≤◌, ◌<◌, ◌+◌, ⊤, ℕ, All, Any, Bool, IsTrue, true, false, List, [], ◌∷◌, ◌++◌, MatchBool, MatchOption, Option, Some, None, is_none, length, map}
use Rattle.std.specs.List.{AllZip, flat_map, list_any}
use Rattle.iam_decision.specs.Matched.{Selects}
use Rattle.iam_layers.specs.Cell.{IsPrincipal, principal_text}
use Rattle.iam_open.specs.Rows.{brief_text, full_text, joined_row, opening_text, quoted_texts, shown_text, word_of}
use Rattle.iam_open.specs.declared.answer.Turned.TheVariants.{Open}
use Rattle.iam_open.specs.declared.asked.Word.{Word}
use Rattle.iam_row.specs.Piece.{closing_text, comma_before}
use Rattle.iam_row.specs.Report.{CellTexts}
use Rattle.iam_row.specs.Selects.{IsMeant}
use Rattle.iam_row.specs.declared.quoted.Format.{Format}
use Rattle.iam_row.specs.declared.quoted.Format.TheVariants.{Csv, Json}
use Rattle.iam_every.specs.Every.{EveryValue}
use Rattle.iam_every.specs.Report.{unshown_word}
use Rattle.iam_open_every.specs.Row.{RowValue}
use Rattle.iam_open_every.specs.Rows.{AreRows}
use Rattle.iam_open_every.specs.declared.said.Said.{Said}

-- a row of this number, of texts as they stand in it: what is said of its request; or that its line is not shown, and nothing beside it
abbrev pub said_text : Format → Bool → ℕ → CellTexts → Option Said → List ℕ
said_text format brief cell texts (Some said) =
    joined_row format brief cell texts said.turned said.verdict said.hangs.places.items said.hangs.keys.items
said_text format true cell texts None = brief_text format cell texts unshown_word
said_text format false cell texts None = full_text format cell texts unshown_word [] [] [] [] (shown_text format Open)

-- a row with the text of its principal
pub record NamedRow : Type 0 where
  pub principal : List ℕ
  pub row : RowValue

abbrev pub texts_of : NamedRow → CellTexts
texts_of named = record { principal = named.principal; action = named.row.action; resource = named.row.resource }

-- in JSON a comma, where a row stands before
abbrev pub comma_in : Format → ℕ → List ℕ
comma_in Csv cell = []
comma_in Json cell = comma_before cell

abbrev pub row_text : Format → Bool → ℕ → NamedRow → List ℕ
row_text format brief cell named = comma_in format cell ++ said_text format brief cell (quoted_texts format (texts_of named)) named.row.said

-- the rows one behind the other, numbered from this number on
abbrev pub rows_text : Format → Bool → ℕ → List NamedRow → List ℕ
rows_text format brief cell [] = []
rows_text format brief cell (named ∷ rows) = row_text format brief cell named ++ rows_text format brief (cell + 1) rows

-- the row is asked for: its word is one of these, or none is named; one that is not shown always is
abbrev pub IsWanted : List Word → RowValue → Type 0
IsWanted words row = MatchOption row.said ⊤ (λ said. IsMeant (λ word. word ≡ word_of said.turned) words)

-- those of the rows of principal p that are asked for
abbrev pub AreWanted : Bool → EveryValue → List Word → ℕ → List NamedRow → Type 0
AreWanted brief every words p listed =
    (rows chosen : List RowValue) × AreRows brief every p rows × Selects (IsWanted words) rows chosen
    × IsPrincipal every.world p (λ principal. listed ≡ map (λ row. record { principal = principal_text principal; row = row }) chosen)

-- the report of the rows of these principals that are asked for, at most 16,777,216 of them
pub record IsOpenEveryReport (format : Format) (brief : Bool) (every : EveryValue) (principals : List ℕ) (words : List Word) (text : List ℕ) : Type 0 where
  pub lists : List (List NamedRow)
  pub are : AllZip (AreWanted brief every words) principals lists
  pub few : length (flat_map (λ listed. listed) lists) ≤ 16777216
  pub is : text ≡ opening_text format brief ++ (rows_text format brief 0 (flat_map (λ listed. listed) lists) ++ closing_text format)

-- there would be more
abbrev pub IsTooLong : Bool → EveryValue → List ℕ → List Word → Type 0
IsTooLong brief every principals words =
    (lists : List (List NamedRow)) × AllZip (AreWanted brief every words) principals lists × (16777216 < length (flat_map (λ listed. listed) lists))

-- ---- what is told beside the report
-- one of the rows is of a line that is not shown
abbrev pub has_unshown : List RowValue → Bool
has_unshown rows = list_any (λ row. is_none row.said) rows

-- P holds of the rows of principal p, whatever is asked for
abbrev pub OfRows : Bool → EveryValue → (List RowValue → Type 0) → ℕ → Type 0
OfRows brief every P p = (rows : List RowValue) × AreRows brief every p rows × P rows

-- whether one of the principals has rows, whatever is asked for; or none has
abbrev pub TellsRows : Bool → EveryValue → List ℕ → Bool → Type 0
TellsRows brief every principals some =
    MatchBool some (Any (OfRows brief every (λ rows. 0 < length rows)) principals) (All (OfRows brief every (λ rows. rows ≡ [])) principals)

-- whether a line is not shown for one of them; or all are shown for all
abbrev pub TellsUnshown : Bool → EveryValue → List ℕ → Bool → Type 0
TellsUnshown brief every principals unshown =
    MatchBool unshown (Any (OfRows brief every (λ rows. IsTrue (has_unshown rows))) principals)
    (All (OfRows brief every (λ rows. has_unshown rows ≡ false)) principals)
