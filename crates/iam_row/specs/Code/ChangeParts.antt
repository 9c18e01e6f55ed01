-- Rows of what has changed that are put together from pieces, and their report as it is made row by row.
use Rattle.std.specs.Prelude.{ℕ, List, [], ◌∷◌, ◌++◌, Option, Some, None, Bool, true, false, codes, if◌then◌else◌}
use Rattle.serde_json.specs.Data.{Data}
use Rattle.serde_json.specs.Written.{compact_text}
use Rattle.iam_decision.specs.declared.verdict.Verdict.{Verdict}
use Rattle.iam_row.specs.Changes.{ChangeRow, brief_fields, brief_header, brief_object, full_fields, full_header, full_object}
use Rattle.iam_row.specs.Changes.{lacks_of, row_word, said_word, statements_of}
use Rattle.iam_row.specs.Piece.{principal_piece, quote_of, resource_piece}
use Rattle.iam_row.specs.Report.{CellTexts, csv_line}
use Rattle.iam_row.specs.Words.{decision_word, layer_word, marked, place_text}
use Rattle.iam_row.specs.declared.changes.Change.{Change}
use Rattle.iam_row.specs.declared.quoted.Format.{Format}
use Rattle.iam_row.specs.declared.quoted.Format.TheVariants.{Csv, Json}
use Rattle.iam_row.specs.declared.tail.Tail.{Tail}

-- what stands before all rows
abbrev pub changes_opening : Format → Bool → List ℕ
changes_opening Csv true = csv_line brief_header
changes_opening Csv false = csv_line full_header
changes_opening Json brief = codes "["

-- the text of an action, with what stands beside it in each row
abbrev pub change_action : Format → List ℕ → List ℕ
change_action Csv text = quote_of Csv text ++ codes ","
change_action Json text = codes "{\"action\":" ++ quote_of Json text

-- the pieces of a request
abbrev pub change_pieces : Format → CellTexts → CellTexts
change_pieces format texts =
    record {
      principal = principal_piece format texts.principal;
      action = change_action format texts.action;
      resource = resource_piece format texts.resource;
    }

-- ---- what stands in a row beside its texts

-- the decision in JSON, from a mark on each side of a word
abbrev pub mark_of : Option Verdict → List ℕ
mark_of None = []
mark_of (Some verdict) = codes "\""

abbrev pub null_or_word : Option Verdict → List ℕ
null_or_word None = codes "null"
null_or_word (Some verdict) = decision_word verdict.decision

abbrev pub quoted_said : Option Verdict → List ℕ
quoted_said said = mark_of said ++ (null_or_word said ++ mark_of said)

-- places and layers in CSV, and in JSON
abbrev pub places_in : List ℕ → List ℕ → Option Verdict → List ℕ
places_in mark between said = marked place_text mark between (statements_of said)

abbrev pub layers_in : List ℕ → List ℕ → Option Verdict → List ℕ
layers_in mark between said = marked layer_word mark between (lacks_of said)

-- both as two fields of a line
abbrev pub lists_in : Option Verdict → List ℕ
lists_in said = places_in (codes "") (codes " ") said ++ (codes "," ++ layers_in (codes "") (codes " ") said)

-- what stands before the principal
unfoldable pub change_front : Format → Bool → Option Change → Option Verdict → Option Verdict → List ℕ
change_front Csv brief change before after = row_word change
change_front Json true change before after =
    codes ",\"after\":" ++ (quoted_said after ++ (codes ",\"before\":" ++ (quoted_said before
    ++ (codes ",\"change\":\"" ++ (row_word change ++ codes "\",\"principal\":")))))
change_front Json false change before after =
    codes ",\"after\":" ++ (quoted_said after ++ (codes ",\"before\":" ++ (quoted_said before
    ++ (codes ",\"change\":\"" ++ (row_word change
    ++ (codes "\",\"lacks_after\":[" ++ (layers_in (codes "\"") (codes ",") after
    ++ (codes "],\"lacks_before\":[" ++ (layers_in (codes "\"") (codes ",") before ++ codes "],\"principal\":")))))))))

-- what stands behind the resource
unfoldable pub change_back : Format → Bool → Option Verdict → Option Verdict → List ℕ
change_back Csv true before after = codes "," ++ (said_word before ++ (codes "," ++ (said_word after ++ codes "\n")))
change_back Csv false before after =
    codes "," ++ (said_word before ++ (codes "," ++ (said_word after
    ++ (codes "," ++ (lists_in before ++ (codes "," ++ (lists_in after ++ codes "\n")))))))
change_back Json true before after = codes "}"
change_back Json false before after =
    codes ",\"statements_after\":[" ++ (places_in (codes "\"") (codes ",") after
    ++ (codes "],\"statements_before\":[" ++ (places_in (codes "\"") (codes ",") before ++ codes "]}")))

abbrev pub change_tail : Format → Bool → Option Change → Option Verdict → Option Verdict → Tail
change_tail format brief change before after =
    record { front = change_front format brief change before after; back = change_back format brief before after }

-- ---- the text of a row

-- from its pieces; what stands before an object is given
abbrev pub text_behind : Format → List ℕ → CellTexts → Tail → List ℕ
text_behind Csv comma texts tail = tail.front ++ (texts.principal ++ (texts.action ++ (texts.resource ++ tail.back)))
text_behind Json comma texts tail =
    comma ++ (texts.action ++ (tail.front ++ (texts.principal ++ (texts.resource ++ tail.back))))

-- the fields of a row, and its object
abbrev pub fields_of : Bool → ChangeRow → List (List ℕ)
fields_of true row = brief_fields row
fields_of false row = full_fields row

abbrev pub object_of : Bool → ChangeRow → Data
object_of true row = brief_object row
object_of false row = full_object row

-- its line, or its object behind what is given
abbrev pub change_row : Format → Bool → List ℕ → ChangeRow → List ℕ
change_row Csv brief comma row = csv_line (fields_of brief row)
change_row Json brief comma row = comma ++ compact_text (object_of brief row)

-- ---- a report as it is made

-- a comma, where a row stands before
abbrev pub comma_if : Bool → List ℕ
comma_if some = if some then codes "," else []

-- rows one behind the other, where one stands before them or none does
abbrev pub rows_behind : Format → Bool → Bool → List ChangeRow → List ℕ
rows_behind format brief some [] = []
rows_behind format brief some (row ∷ rows) = change_row format brief (comma_if some) row ++ rows_behind format brief true rows

-- one stands before what comes behind these
abbrev pub has_some : Bool → List ChangeRow → Bool
has_some some [] = some
has_some some (row ∷ rows) = true

-- the text so far
pub record ChangeRowsValue : Type 0 where
  pub format : Format
  pub brief : Bool
  pub some : Bool
  pub text : List ℕ

-- it is so where these are the rows so far
abbrev pub made_of : Format → Bool → List ChangeRow → ChangeRowsValue
made_of format brief rows = record {
  format = format;
  brief = brief;
  some = has_some false rows;
  text = changes_opening format brief ++ rows_behind format brief false rows;
}
