-- Rows of what has changed from one world to another, as CSV and as JSON, in full or in brief: of changes, and of lines that are not
-- shown. LOGIC 13.7.
use Rattle.std.specs.Prelude.{ℕ, List, [], ◌∷◌, ◌++◌, Option, Some, None, Bool, true, false, codes, map}
use Rattle.std.specs.List.{concat, join_by}
use Rattle.serde_json.specs.Data.{Data, null, string, object, no_members, member}
use Rattle.iam_decision.specs.declared.place.Layer.{Layer}
use Rattle.iam_decision.specs.declared.place.Place.{Place}
use Rattle.iam_decision.specs.declared.verdict.Decision.{Decision}
use Rattle.iam_decision.specs.declared.verdict.Decision.TheVariants.{Allowed, ExplicitDeny, ImplicitDeny}
use Rattle.iam_decision.specs.declared.verdict.Verdict.{Verdict}
use Rattle.iam_row.specs.Report.{CellTexts, csv_line, json_text, words_of}
use Rattle.iam_row.specs.Words.{decision_word, layer_word, place_text}
use Rattle.iam_row.specs.declared.changes.Change.{Change}
use Rattle.iam_row.specs.declared.changes.Change.TheVariants.{Gained, Lost, Differs}
use Rattle.iam_row.specs.declared.quoted.Format.{Format}
use Rattle.iam_row.specs.declared.quoted.Format.TheVariants.{Csv, Json}

-- ---- what a change is

-- it is allowed, by what is said of it; where nothing is said it is not
abbrev pub allows : Decision → Bool
allows Allowed = true
allows ExplicitDeny = false
allows ImplicitDeny = false

abbrev pub is_allowed : Option Verdict → Bool
is_allowed None = false
is_allowed (Some verdict) = allows verdict.decision

-- the change, where there is one, of what is allowed or not before and after
abbrev pub kind_by : Bool → Bool → Change
kind_by false true = Gained
kind_by true false = Lost
kind_by false false = Differs
kind_by true true = Differs

abbrev pub change_word : Change → List ℕ
change_word Gained = codes "gained"
change_word Lost = codes "lost"
change_word Differs = codes "differs"

-- ---- rows

-- the texts of a request, what has become of it, and what is said before and after; or those of a line that is not shown
pub record ChangeRow : Type 0 where
  pub texts : CellTexts
  pub change : Option Change
  pub before : Option Verdict
  pub after : Option Verdict

abbrev pub row_word : Option Change → List ℕ
row_word None = codes "notShown"
row_word (Some change) = change_word change

-- the statements and the lacks of what is said; where nothing is said there are none
abbrev pub statements_of : Option Verdict → List Place
statements_of None = []
statements_of (Some verdict) = verdict.statements

abbrev pub lacks_of : Option Verdict → List Layer
lacks_of None = []
lacks_of (Some verdict) = verdict.lacks

-- ---- CSV: the word of a decision that is not there is empty

abbrev pub said_word : Option Verdict → List ℕ
said_word None = []
said_word (Some verdict) = decision_word verdict.decision

abbrev pub brief_header : List (List ℕ)
brief_header =
    codes "change" ∷ codes "principal" ∷ codes "action" ∷ codes "resource" ∷ codes "before" ∷ codes "after" ∷ []

abbrev pub full_header : List (List ℕ)
full_header =
    brief_header ++ (codes "statements_before" ∷ codes "lacks_before" ∷ codes "statements_after" ∷ codes "lacks_after" ∷ [])

abbrev pub brief_fields : ChangeRow → List (List ℕ)
brief_fields row =
    row_word row.change ∷ row.texts.principal ∷ row.texts.action ∷ row.texts.resource
    ∷ said_word row.before ∷ said_word row.after ∷ []

-- the fields of a list are joined by one space
abbrev pub list_fields : Option Verdict → List (List ℕ)
list_fields said = join_by place_text (codes " ") (statements_of said) ∷ join_by layer_word (codes " ") (lacks_of said) ∷ []

abbrev pub full_fields : ChangeRow → List (List ℕ)
full_fields row = brief_fields row ++ (list_fields row.before ++ list_fields row.after)

-- ---- JSON: a decision that is not there is null

abbrev pub said_data : Option Verdict → Data
said_data None = null
said_data (Some verdict) = string (decision_word verdict.decision)

abbrev pub brief_object : ChangeRow → Data
brief_object row =
    object (member (codes "action") (string row.texts.action)
    (member (codes "after") (said_data row.after)
    (member (codes "before") (said_data row.before)
    (member (codes "change") (string (row_word row.change))
    (member (codes "principal") (string row.texts.principal)
    (member (codes "resource") (string row.texts.resource) no_members))))))

abbrev pub full_object : ChangeRow → Data
full_object row =
    object (member (codes "action") (string row.texts.action)
    (member (codes "after") (said_data row.after)
    (member (codes "before") (said_data row.before)
    (member (codes "change") (string (row_word row.change))
    (member (codes "lacks_after") (words_of layer_word (lacks_of row.after))
    (member (codes "lacks_before") (words_of layer_word (lacks_of row.before))
    (member (codes "principal") (string row.texts.principal)
    (member (codes "resource") (string row.texts.resource)
    (member (codes "statements_after") (words_of place_text (statements_of row.after))
    (member (codes "statements_before") (words_of place_text (statements_of row.before)) no_members))))))))))

-- ---- the report

-- the text of rows, in full or in brief
abbrev pub changes_text : Format → Bool → List ChangeRow → List ℕ
changes_text Csv true rows = csv_line brief_header ++ concat (map (λ row. csv_line (brief_fields row)) rows)
changes_text Csv false rows = csv_line full_header ++ concat (map (λ row. csv_line (full_fields row)) rows)
changes_text Json true rows = json_text (map brief_object rows)
changes_text Json false rows = json_text (map full_object rows)
