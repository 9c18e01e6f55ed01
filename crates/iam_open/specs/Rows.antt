-- Rows of what is said of requests whatever values the keys have that nothing gives, as CSV and as JSON. LOGIC 13.11.
use Rattle.std.specs.Prelude.{◌+◌, ℕ, List, [], ◌∷◌, ◌++◌, Bool, true, false, Option, Some, None, codes, decimal}
use Rattle.std.specs.List.{join_by}
use Rattle.iam_context.specs.Context.{ContextValue}
use Rattle.iam_decision.specs.declared.place.Place.{Place}
use Rattle.iam_decision.specs.declared.verdict.Verdict.{Verdict}
use Rattle.iam_open.specs.declared.answer.Turned.{Turned}
use Rattle.iam_open.specs.declared.answer.Turned.TheVariants.{Always, Never, Possible, Open}
use Rattle.iam_open.specs.declared.asked.Word.{Word}
use Rattle.iam_open.specs.declared.asked.Word.TheVariants as word
use Rattle.iam_row.specs.Piece.{closing_text, quote_of}
use Rattle.iam_row.specs.Report.{CellTexts}
use Rattle.iam_row.specs.Words.{layer_word, marked, place_text}
use Rattle.iam_row.specs.declared.quoted.Format.{Format}
use Rattle.iam_row.specs.declared.quoted.Format.TheVariants.{Csv, Json}

-- the texts of a request, what is said of it, and a verdict on it; and the places of statements and the keys that it hangs on
pub record TurnedRow : Type 0 where
  pub texts : CellTexts
  pub turned : Turned
  pub verdict : Verdict
  pub places : List Place
  pub keys : List (List ℕ)

-- such a row
abbrev pub row_with : CellTexts → Turned → Verdict → List Place → List (List ℕ) → TurnedRow
row_with texts turned verdict places keys = record { texts = texts; turned = turned; verdict = verdict; places = places; keys = keys }

-- what is said, as a word
abbrev pub word_of : Turned → Word
word_of Always = word.Always
word_of Never = word.Never
word_of (Possible example) = word.Possible
word_of Open = word.Open

abbrev pub word_text : Word → List ℕ
word_text word.Always = codes "always"
word_text word.Never = codes "never"
word_text word.Possible = codes "possible"
word_text word.Open = codes "open"

abbrev pub turned_word : Turned → List ℕ
turned_word turned = word_text (word_of turned)

-- ---- examples

-- a text as JSON
abbrev pub json_of : List ℕ → List ℕ
json_of text = quote_of Json text

-- a key with the list of its values: `"k":["a"]`
abbrev pub entry_text : List ℕ × List (List ℕ) → List ℕ
entry_text entry = json_of entry.0 ++ (codes ":[" ++ (join_by json_of (codes ",") entry.1 ++ codes "]"))

-- keys and a moment: `{"context":{"k":["a"]},"moment":1000}`
abbrev pub example_text : ContextValue → ℕ → List ℕ
example_text own moment =
    codes "{\"context\":{" ++ (join_by entry_text (codes ",") own ++ (codes "},\"moment\":" ++ (decimal moment ++ codes "}")))

-- the example, where there is one: in CSV a field, which is empty where there is none; in JSON an object, else `null`
abbrev pub shown_text : Format → Turned → List ℕ
shown_text Csv (Possible example) = quote_of Csv (example_text example.own.items example.moment)
shown_text Csv turned = []
shown_text Json (Possible example) = example_text example.own.items example.moment
shown_text Json turned = codes "null"

-- ---- rows

-- places, and the lacks of a verdict: joined by one space in a field of CSV, strings of a list in JSON
abbrev pub places_in : Format → List Place → List ℕ
places_in Csv places = marked place_text (codes "") (codes " ") places
places_in Json places = marked place_text (codes "\"") (codes ",") places

abbrev pub lacks_in : Format → Verdict → List ℕ
lacks_in Csv verdict = marked layer_word (codes "") (codes " ") verdict.lacks
lacks_in Json verdict = marked layer_word (codes "\"") (codes ",") verdict.lacks

-- keys: the strings of a list of JSON, which is a field of CSV, empty where there are none
abbrev pub keys_in : Format → List (List ℕ) → List ℕ
keys_in Csv [] = []
keys_in Csv (key ∷ keys) = quote_of Csv (codes "[" ++ (join_by json_of (codes ",") (key ∷ keys) ++ codes "]"))
keys_in Json keys = join_by json_of (codes ",") keys

-- how the texts of a request stand in a row
abbrev pub quoted_texts : Format → CellTexts → CellTexts
quoted_texts format texts =
    record { principal = quote_of format texts.principal; action = quote_of format texts.action; resource = quote_of format texts.resource }

-- how a row of texts that stand so begins: in CSV up to the resource, in JSON up to the decision
abbrev pub front_text : Format → ℕ → CellTexts → List ℕ → List ℕ
front_text Csv cell texts word =
    decimal cell ++ (codes "," ++ (texts.principal ++ (codes "," ++ (texts.action ++ (codes "," ++ (texts.resource ++ (codes "," ++ word)))))))
front_text Json cell texts word =
    codes "{\"action\":" ++ (texts.action ++ (codes ",\"cell\":" ++ (decimal cell ++ (codes ",\"decision\":\"" ++ (word ++ codes "\"")))))

-- a row in brief, and one in full
abbrev pub brief_text : Format → ℕ → CellTexts → List ℕ → List ℕ
brief_text Csv cell texts word = front_text Csv cell texts word ++ codes "\n"
brief_text Json cell texts word =
    front_text Json cell texts word ++ (codes ",\"principal\":" ++ (texts.principal ++ (codes ",\"resource\":" ++ (texts.resource ++ codes "}"))))

-- how a row of JSON in full ends, behind the lacks
abbrev pub back_text : List ℕ → List ℕ → List ℕ → List ℕ
back_text principal resource statements =
    codes ",\"principal\":" ++ (principal ++ (codes ",\"resource\":" ++ (resource ++ (codes ",\"statements\":[" ++ (statements ++ codes "]}")))))

abbrev pub full_text : Format → ℕ → CellTexts → List ℕ → List ℕ → List ℕ → List ℕ → List ℕ → List ℕ → List ℕ
full_text Csv cell texts word statements lacks places keys example =
    front_text Csv cell texts word ++ (codes "," ++ (statements ++ (codes "," ++ (lacks ++ (codes "," ++ (places ++ (codes "," ++ (keys
    ++ (codes "," ++ (example ++ codes "\n"))))))))))
full_text Json cell texts word statements lacks places keys example =
    front_text Json cell texts word ++ (codes ",\"example\":" ++ (example ++ (codes ",\"hangs_on\":[" ++ (places ++ (codes "],\"keys\":["
    ++ (keys ++ (codes "],\"lacks\":[" ++ (lacks ++ (codes "]" ++ back_text texts.principal texts.resource statements)))))))))

-- the row of a cell, of texts that stand so
abbrev pub joined_row : Format → Bool → ℕ → CellTexts → Turned → Verdict → List Place → List (List ℕ) → List ℕ
joined_row format true cell texts turned verdict places keys = brief_text format cell texts (turned_word turned)
joined_row format false cell texts turned verdict places keys =
    full_text format cell texts (turned_word turned) (places_in format verdict.statements) (lacks_in format verdict) (places_in format places)
    (keys_in format keys) (shown_text format turned)

abbrev pub row_text : Format → Bool → ℕ → TurnedRow → List ℕ
row_text format brief cell row =
    joined_row format brief cell (quoted_texts format row.texts) row.turned row.verdict row.places row.keys

-- what stands before all rows: the header's line, or a bracket
abbrev pub opening_text : Format → Bool → List ℕ
opening_text Csv true = codes "cell,principal,action,resource,decision\n"
opening_text Csv false = codes "cell,principal,action,resource,decision,statements,lacks,hangs_on,keys,example\n"
opening_text Json brief = codes "["

-- texts of rows one behind the other: in JSON with a comma between them, where neither is empty
abbrev pub together : Format → List ℕ → List ℕ → List ℕ
together Csv one other = one ++ other
together Json [] other = other
together Json (c ∷ one) [] = c ∷ one
together Json (c ∷ one) (d ∷ other) = (c ∷ one) ++ (codes "," ++ (d ∷ other))

-- the row of a cell, where it has one
abbrev pub told_text : Format → Bool → ℕ → Option TurnedRow → List ℕ
told_text format brief cell None = []
told_text format brief cell (Some row) = row_text format brief cell row

-- the rows of cells that follow one another from this one, of those that have one
abbrev pub rows_text : Format → Bool → ℕ → List (Option TurnedRow) → List ℕ
rows_text format brief cell [] = []
rows_text format brief cell (told ∷ more) = together format (told_text format brief cell told) (rows_text format brief (cell + 1) more)

-- the report of rows, from cell 0 on
abbrev pub report_text : Format → Bool → List (Option TurnedRow) → List ℕ
report_text format brief told = opening_text format brief ++ (rows_text format brief 0 told ++ closing_text format)
