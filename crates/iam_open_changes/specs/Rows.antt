-- Rows of what has changed whatever values the keys have that nothing gives, as CSV and as JSON. LOGIC 13.12.
use Rattle.std.specs.Prelude.{ℕ, List, [], ◌∷◌, ◌++◌, Bool, true, false, Option, Some, None, codes}
use Rattle.std.specs.List.{flat_map, list_any}
use Rattle.iam_context.specs.Context.{ContextValue}
use Rattle.iam_decision.specs.declared.verdict.Verdict.{Verdict}
use Rattle.iam_open.specs.Rows.{example_text}
use Rattle.iam_open_changes.specs.declared.rows.Kinds.{Kinds}
use Rattle.iam_open_changes.specs.declared.row.Word.{Word}
use Rattle.iam_open_changes.specs.declared.row.Word.TheVariants.{Gained, Lost, Open}
use Rattle.iam_row.specs.Changes.{said_word}
use Rattle.iam_row.specs.Code.ChangeParts.{layers_in, lists_in, places_in, quoted_said}
use Rattle.iam_row.specs.Piece.{closing_text, quote_of}
use Rattle.iam_row.specs.Report.{CellTexts}
use Rattle.iam_row.specs.declared.quoted.Format.{Format}
use Rattle.iam_row.specs.declared.quoted.Format.TheVariants.{Csv, Json}

-- keys of a request's own, and a moment
pub record ShownValue : Type 0 where
  pub own : ContextValue
  pub moment : ℕ

-- the texts of a request, what is told of it, the verdicts of both worlds, and the example that they are of, if they are of one
pub record RowValue : Type 0 where
  pub texts : CellTexts
  pub word : Word
  pub before : Option Verdict
  pub after : Option Verdict
  pub example : Option ShownValue

abbrev pub word_text : Word → List ℕ
word_text Gained = codes "gained"
word_text Lost = codes "lost"
word_text Open = codes "open"

-- the example, where there is one: in CSV a field, which is empty where there is none; in JSON an object, else `null`
abbrev pub shown_text : Format → Option ShownValue → List ℕ
shown_text Csv (Some shown) = quote_of Csv (example_text shown.own shown.moment)
shown_text Csv None = []
shown_text Json (Some shown) = example_text shown.own shown.moment
shown_text Json None = codes "null"

-- how the texts of a request stand in a row
abbrev pub quoted_texts : Format → CellTexts → CellTexts
quoted_texts format texts =
    record { principal = quote_of format texts.principal; action = quote_of format texts.action; resource = quote_of format texts.resource }

-- ---- rows of texts that stand so

-- how a row begins: in CSV up to the verdicts' decisions, in JSON up to the change
abbrev pub front_text : Format → CellTexts → Word → Option Verdict → Option Verdict → List ℕ
front_text Csv texts word before after =
    word_text word ++ (codes "," ++ (texts.principal ++ (codes "," ++ (texts.action ++ (codes "," ++ (texts.resource
    ++ (codes "," ++ (said_word before ++ (codes "," ++ said_word after)))))))))
front_text Json texts word before after =
    codes "{\"action\":" ++ (texts.action ++ (codes ",\"after\":" ++ (quoted_said after ++ (codes ",\"before\":" ++ (quoted_said before
    ++ (codes ",\"change\":\"" ++ (word_text word ++ codes "\"")))))))

-- the lacks of both worlds in JSON, and the statements with the end of the row
abbrev pub lacks_text : Option Verdict → Option Verdict → List ℕ
lacks_text before after =
    codes ",\"lacks_after\":[" ++ (layers_in (codes "\"") (codes ",") after
    ++ (codes "],\"lacks_before\":[" ++ (layers_in (codes "\"") (codes ",") before ++ codes "]")))

abbrev pub statements_text : Option Verdict → Option Verdict → List ℕ
statements_text before after =
    codes ",\"statements_after\":[" ++ (places_in (codes "\"") (codes ",") after
    ++ (codes "],\"statements_before\":[" ++ (places_in (codes "\"") (codes ",") before ++ codes "]}")))

-- what stands behind the example in JSON
abbrev pub back_text : CellTexts → Option Verdict → Option Verdict → List ℕ
back_text texts before after =
    lacks_text before after ++ (codes ",\"principal\":" ++ (texts.principal ++ (codes ",\"resource\":" ++ (texts.resource
    ++ statements_text before after))))

-- a row in brief, and one in full
abbrev pub brief_text : Format → CellTexts → Word → Option Verdict → Option Verdict → List ℕ
brief_text Csv texts word before after = front_text Csv texts word before after ++ codes "\n"
brief_text Json texts word before after =
    front_text Json texts word before after
    ++ (codes ",\"principal\":" ++ (texts.principal ++ (codes ",\"resource\":" ++ (texts.resource ++ codes "}"))))

abbrev pub full_text : Format → CellTexts → Word → Option Verdict → Option Verdict → List ℕ → List ℕ
full_text Csv texts word before after example =
    front_text Csv texts word before after
    ++ (codes "," ++ (lists_in before ++ (codes "," ++ (lists_in after ++ (codes "," ++ (example ++ codes "\n"))))))
full_text Json texts word before after example =
    front_text Json texts word before after ++ (codes ",\"example\":" ++ (example ++ back_text texts before after))

abbrev pub joined_row : Format → Bool → CellTexts → Word → Option Verdict → Option Verdict → Option ShownValue → List ℕ
joined_row format true texts word before after shown = brief_text format texts word before after
joined_row format false texts word before after shown = full_text format texts word before after (shown_text format shown)

abbrev pub row_text : Format → Bool → RowValue → List ℕ
row_text format brief row = joined_row format brief (quoted_texts format row.texts) row.word row.before row.after row.example

-- ---- all rows

-- what stands before all rows: the header's line, or a bracket
abbrev pub opening_text : Format → Bool → List ℕ
opening_text Csv true = codes "change,principal,action,resource,before,after\n"
opening_text Csv false =
    codes "change,principal,action,resource,before,after,statements_before,lacks_before,statements_after,lacks_after,example\n"
opening_text Json brief = codes "["

-- what stands before a row that is not the first
abbrev pub between_text : Format → List ℕ
between_text Csv = []
between_text Json = codes ","

-- rows behind others
abbrev pub rows_behind : Format → Bool → List RowValue → List ℕ
rows_behind format brief rows = flat_map (λ row. between_text format ++ row_text format brief row) rows

-- rows, before which there is none
abbrev pub rows_text : Format → Bool → List RowValue → List ℕ
rows_text format brief [] = []
rows_text format brief (row ∷ rows) = row_text format brief row ++ rows_behind format brief rows

-- the report of rows
abbrev pub report_text : Format → Bool → List RowValue → List ℕ
report_text format brief rows = opening_text format brief ++ (rows_text format brief rows ++ closing_text format)

-- the rows of several requests
abbrev pub all_rows : List (List RowValue) → List RowValue
all_rows entries = flat_map (λ rows. rows) entries

-- ---- which kinds of rows there are

abbrev pub is_gained : Word → Bool
is_gained Gained = true
is_gained Lost = false
is_gained Open = false

abbrev pub is_lost : Word → Bool
is_lost Gained = false
is_lost Lost = true
is_lost Open = false

abbrev pub is_open : Word → Bool
is_open Gained = false
is_open Lost = false
is_open Open = true

abbrev pub kinds_of : List RowValue → Kinds
kinds_of rows = record {
  gained = list_any (λ row. is_gained row.word) rows;
  lost = list_any (λ row. is_lost row.word) rows;
  unknown = list_any (λ row. is_open row.word) rows;
}
