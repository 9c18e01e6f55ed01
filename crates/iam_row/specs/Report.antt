-- Reports of the cells of a world, as CSV and as JSON: in full, or in brief without statements and lacks.
-- LOGIC 13.1 and 13.2.
use Rattle.std.specs.Prelude.{◌≡◌, ℕ, List, [], ◌∷◌, ◌++◌, ◌+◌, Some, length, map, codes, decimal}
use Rattle.std.specs.List.{concat, join_by, slice_get}
use Rattle.csv.specs.Writing.{default_writer, row_text}
use Rattle.serde_json.specs.Data.{Data, unsigned, number, string, array, object, no_members, member}
use Rattle.serde_json.specs.View.{items_of}
use Rattle.serde_json.specs.Written.{compact_text}
use Rattle.iam_decision.specs.declared.verdict.Decision.{Decision}
use Rattle.iam_decision.specs.declared.verdict.Verdict.{Verdict}
use Rattle.iam_world.specs.World.{WorldValue}
use Rattle.iam_layers.specs.Cell.{IsAction, IsCell, IsPrincipal, IsResource, principal_text}
use Rattle.iam_row.specs.Words.{decision_word, layer_word, place_text}
use Rattle.iam_row.specs.declared.quoted.Format.{Format}
use Rattle.iam_row.specs.declared.quoted.Format.TheVariants.{Csv, Json}

-- the texts of a request that stand in its row
pub record CellTexts : Type 0 where
  pub principal : List ℕ
  pub action : List ℕ
  pub resource : List ℕ

-- principal p, action a and resource r have these texts
pub record HasTexts (world : WorldValue) (p a r : ℕ) (texts : CellTexts) : Type 0 where
  pub principal : IsPrincipal world p (λ principal. texts.principal ≡ principal_text principal)
  pub action : IsAction world a texts.action
  pub resource : IsResource world r (λ resource. texts.resource ≡ resource.arn)

-- the request of the cell has these texts
abbrev pub IsCellTexts : WorldValue → ℕ → CellTexts → Type 0
IsCellTexts world cell texts = (p a r : ℕ) × IsCell world cell p a r × HasTexts world p a r texts

-- entries of cells that follow one another from this one, each as it has to be
abbrev pub AreEntriesFrom : {X : Type 0} → (ℕ → X → Type 0) → ℕ → List X → Type 0
AreEntriesFrom {X} Is from entries = (i : ℕ) (entry : X) → slice_get entries i ≡ Some entry → Is (from + i) entry

-- one row for each entry, whose cells follow one another from this one
pub record AreRowsFrom {A B : Type 0} (world : WorldValue) (row : ℕ → CellTexts → A → B) (from : ℕ) (entries : List A) (rows : List B) : Type 0 where
  pub count : length rows ≡ length entries
  pub each : (i : ℕ) (texts : CellTexts) (entry : A) → IsCellTexts world (from + i) texts
      → slice_get entries i ≡ Some entry → slice_get rows i ≡ Some (row (from + i) texts entry)

-- ---- how a cell is shown

-- the line of these fields
abbrev pub csv_line : List (List ℕ) → List ℕ
csv_line fields = row_text default_writer fields

-- the list of the words of these
abbrev pub words_of : {A : Type 0} → (A → List ℕ) → List A → Data
words_of word xs = array (items_of (map (λ x. string (word x)) xs))

-- in CSV the header, and the line of a cell with its entry; in JSON the object of a cell with its entry
pub record Layout (A : Type 0) : Type 0 where
  pub header : List ℕ
  pub line : ℕ → CellTexts → A → List ℕ
  pub object : ℕ → CellTexts → A → Data

-- a verdict in full: its statements and its lacks are joined by one space in a line
abbrev pub full_layout : Layout Verdict
full_layout = record {
  header = csv_line (codes "cell" ∷ codes "principal" ∷ codes "action" ∷ codes "resource" ∷ codes "decision" ∷ codes "statements" ∷ codes "lacks" ∷ []);
  line = λ cell texts verdict.
      csv_line
      (decimal cell ∷ texts.principal ∷ texts.action ∷ texts.resource ∷ decision_word verdict.decision
      ∷ join_by place_text (codes " ") verdict.statements ∷ join_by layer_word (codes " ") verdict.lacks ∷ []);
  object = λ cell texts verdict.
      object (member (codes "action") (string texts.action)
      (member (codes "cell") (number (unsigned cell))
      (member (codes "decision") (string (decision_word verdict.decision))
      (member (codes "lacks") (words_of layer_word verdict.lacks)
      (member (codes "principal") (string texts.principal)
      (member (codes "resource") (string texts.resource)
      (member (codes "statements") (words_of place_text verdict.statements) no_members)))))));
}

-- a decision, in brief
abbrev pub brief_layout : Layout Decision
brief_layout = record {
  header = csv_line (codes "cell" ∷ codes "principal" ∷ codes "action" ∷ codes "resource" ∷ codes "decision" ∷ []);
  line = λ cell texts decision.
      csv_line (decimal cell ∷ texts.principal ∷ texts.action ∷ texts.resource ∷ decision_word decision ∷ []);
  object = λ cell texts decision.
      object (member (codes "action") (string texts.action)
      (member (codes "cell") (number (unsigned cell))
      (member (codes "decision") (string (decision_word decision))
      (member (codes "principal") (string texts.principal)
      (member (codes "resource") (string texts.resource) no_members)))));
}

-- ---- reports

-- the text of a list of objects, and a line feed
abbrev pub json_text : List Data → List ℕ
json_text objects = compact_text (array (items_of objects)) ++ codes "\n"

-- the report of all cells: the header and the line of each, or the list of their objects
abbrev pub IsReport : {A : Type 0} → Layout A → Format → WorldValue → List A → List ℕ → Type 0
IsReport layout Csv world entries text =
    (lines : List (List ℕ)) × AreRowsFrom world layout.line 0 entries lines × (text ≡ layout.header ++ concat lines)
IsReport layout Json world entries text =
    (objects : List Data) × AreRowsFrom world layout.object 0 entries objects × (text ≡ json_text objects)
