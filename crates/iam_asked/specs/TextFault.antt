-- The faults of a line that says something of texts, as a set, and its least fault; the first line with one. LOGIC 13.9.
use Rattle.std.specs.Prelude.{◌≡◌, ◌≤◌, ℕ, List, ◌++◌, Some, codes, decimal, take}
use Rattle.std.specs.List.{slice_get}
use Rattle.serde_json.specs.Data.{Data}
use Rattle.iam_world.specs.World.{WorldValue}
use Rattle.iam_world.specs.WorldFault.{IsJson}
use Rattle.iam_asked.specs.TextLines.{AreTextLines, IsKnown, IsTextShape, SaidOfValue, SaysText, TextLineValue, like_resource, of_account}
use Rattle.iam_asked.specs.declared.text_fault.TextFault.{TextFault}
use Rattle.iam_asked.specs.declared.text_fault.TextFault.TheVariants.{NotJson, BadShape, NoResource, NoAccount, TooMany, TooLarge, OutOfMemory}
use Rattle.iam_asked.specs.declared.text_fault.FaultyText.{FaultyText}

abbrev pub text_number_of : TextFault → ℕ
text_number_of NotJson = 1
text_number_of BadShape = 2
text_number_of NoResource = 3
text_number_of NoAccount = 4
text_number_of TooMany = 5
text_number_of TooLarge = 6
text_number_of OutOfMemory = 7

abbrev pub text_name_of : TextFault → List ℕ
text_name_of NotJson = codes "NotJson"
text_name_of BadShape = codes "BadShape"
text_name_of NoResource = codes "NoResource"
text_name_of NoAccount = codes "NoAccount"
text_name_of TooMany = codes "TooMany"
text_name_of TooLarge = codes "TooLarge"
text_name_of OutOfMemory = codes "OutOfMemory"

-- `2 BadShape`
abbrev pub text_fault_text : TextFault → List ℕ
text_fault_text fault = decimal (text_number_of fault) ++ (codes " " ++ text_name_of fault)

-- `line 3: 2 BadShape`
abbrev pub faulty_text_text : FaultyText → List ℕ
faulty_text_text faulty = codes "line " ++ (decimal faulty.line ++ (codes ": " ++ text_fault_text faulty.fault))

-- the fault of what is said of texts where the world does not have it
abbrev pub unknown_fault : SaidOfValue → TextFault
unknown_fault (like_resource n) = NoResource
unknown_fault (of_account id) = NoAccount

abbrev pub SaidOfHasFault : WorldValue → SaidOfValue → TextFault → Type 0
SaidOfHasFault world said fault = (fault ≡ unknown_fault said) × ¬ IsKnown world said

-- the faults of line n, from 0 on
abbrev pub TextHasFault : WorldValue → ℕ → List ℕ → TextFault → Type 0
TextHasFault world n line NotJson = (d : Data) → ¬ IsJson line d
TextHasFault world n line BadShape = (d : Data) × IsJson line d × ((value : TextLineValue) → ¬ IsTextShape d value)
TextHasFault world n line TooMany = 65536 ≤ n
TextHasFault world n line TooLarge = ⊥
TextHasFault world n line OutOfMemory = ⊥
TextHasFault world n line fault = (value : TextLineValue) × SaysText line value × SaidOfHasFault world value.said fault

-- a line too many is nothing else; the others go by their numbers
abbrev pub text_rank : TextFault → ℕ
text_rank TooMany = 0
text_rank fault = text_number_of fault

-- the least of them
pub record IsTextFault (world : WorldValue) (n : ℕ) (line : List ℕ) (fault : TextFault) : Type 0 where
  pub holds : TextHasFault world n line fault
  pub least : (other : TextFault) → TextHasFault world n line other → text_rank fault ≤ text_rank other

-- the first line that has a fault, and its least one; the lines before it have none, and none of them is one too many
pub record IsFirstFaultyText (world : WorldValue) (lines : List (List ℕ)) (faulty : FaultyText) : Type 0 where
  pub line : List ℕ
  pub before : List TextLineValue
  pub at : slice_get lines faulty.line ≡ Some line
  pub texts : AreTextLines world (take faulty.line lines) before
  pub few : faulty.line ≤ 65536
  pub is : IsTextFault world faulty.line line faulty.fault
