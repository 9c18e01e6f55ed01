-- What is asked of requests: which ones, by their texts, and which words. LOGIC 13.6 and 13.11.
use Rattle.std.specs.Prelude.{◌≡◌, ℕ, List, []}
use Rattle.iam_open.specs.declared.asked.Asked.{Asked}
use Rattle.iam_open.specs.declared.asked.Word.{Word}
use Rattle.iam_row.specs.Report.{CellTexts, IsCellTexts}
use Rattle.iam_row.specs.Selects.{IsMeant, SelectionValue, Selects}
use Rattle.iam_world.specs.World.{WorldValue}

-- a selection of requests, which names no decisions, and words
pub record AskedValue : Type 0 where
  pub selection : SelectionValue
  pub words : List Word

abbrev pub asked_of : Asked → AskedValue
asked_of asked = record {
  selection = record { principals = asked.principals.now; actions = asked.actions.now; resources = asked.resources.now; decisions = [] };
  words = asked.words.now;
}

-- the request of the cell is selected
abbrev pub IsSelected : AskedValue → WorldValue → ℕ → Type 0
IsSelected asked world cell = (texts : CellTexts) × IsCellTexts world cell texts × Selects asked.selection texts

-- rows with the word are asked for
abbrev pub IsWanted : AskedValue → Word → Type 0
IsWanted asked word = IsMeant (λ said. said ≡ word) asked.words
