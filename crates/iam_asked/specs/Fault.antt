-- The faults of a line of a file of requests, as a set, and its least fault. LOGIC 13.8.
use Rattle.std.specs.Prelude.{◌≢◌, ◌⊎◌, ◌≤◌, ℕ, List, [], ◌∷◌, ◌++◌, codes, decimal, length}
use Rattle.serde_json.specs.Data.{Data}
use Rattle.iam_context.specs.ContextFault.{context_text}
use Rattle.iam_layers.specs.Own.{IsFaultAt}
use Rattle.iam_world.specs.World.{WorldValue}
use Rattle.iam_world.specs.WorldFault.{IsJson}
use Rattle.iam_asked.specs.Request.{AskedValue, IsRequest, RequestsValue}
use Rattle.iam_asked.specs.Said.{IsSaid, IsShort, SaidValue, Says}
use Rattle.iam_asked.specs.Size.{AreLarge}
use Rattle.iam_asked.specs.Texts.{IsNoAction, IsNowhere, IsOnlyAt, IsTwice, principal_texts, resource_texts}
use Rattle.iam_asked.specs.declared.fault.LineFault.{LineFault}
use Rattle.iam_asked.specs.declared.fault.LineFault.TheVariants.{NotJson, BadShape, NoPrincipal, SeveralPrincipals, NoAction, NoResource, SeveralResources, Context, TooMany, ContextsTooLarge, OutOfMemory}
use Rattle.iam_asked.specs.declared.fault.FaultyLine.{FaultyLine}

abbrev pub line_number_of : LineFault → ℕ
line_number_of NotJson = 1
line_number_of BadShape = 2
line_number_of NoPrincipal = 3
line_number_of SeveralPrincipals = 4
line_number_of NoAction = 5
line_number_of NoResource = 6
line_number_of SeveralResources = 7
line_number_of (Context fault) = 8
line_number_of TooMany = 9
line_number_of ContextsTooLarge = 10
line_number_of OutOfMemory = 11

abbrev pub line_name_of : LineFault → List ℕ
line_name_of NotJson = codes "NotJson"
line_name_of BadShape = codes "BadShape"
line_name_of NoPrincipal = codes "NoPrincipal"
line_name_of SeveralPrincipals = codes "SeveralPrincipals"
line_name_of NoAction = codes "NoAction"
line_name_of NoResource = codes "NoResource"
line_name_of SeveralResources = codes "SeveralResources"
line_name_of (Context fault) = codes "Context"
line_name_of TooMany = codes "TooMany"
line_name_of ContextsTooLarge = codes "ContextsTooLarge"
line_name_of OutOfMemory = codes "OutOfMemory"

-- what follows the name
abbrev pub reason_text : LineFault → List ℕ
reason_text NotJson = []
reason_text BadShape = []
reason_text NoPrincipal = []
reason_text SeveralPrincipals = []
reason_text NoAction = []
reason_text NoResource = []
reason_text SeveralResources = []
reason_text (Context fault) = codes ": " ++ context_text fault
reason_text TooMany = []
reason_text ContextsTooLarge = []
reason_text OutOfMemory = []

-- `2 BadShape`, `8 Context: 1 KeyTwice`
abbrev pub fault_text : LineFault → List ℕ
fault_text fault = decimal (line_number_of fault) ++ (codes " " ++ (line_name_of fault ++ reason_text fault))

-- `line 3: 2 BadShape`
abbrev pub line_text : FaultyLine → List ℕ
line_text faulty = codes "line " ++ (decimal faulty.line ++ (codes ": " ++ fault_text faulty.fault))

-- the faults that what a line says has in a world
abbrev pub SaidHasFault : WorldValue → SaidValue → LineFault → Type 0
SaidHasFault world said NoPrincipal = IsNowhere (principal_texts world) said.principal
SaidHasFault world said SeveralPrincipals = IsTwice (principal_texts world) said.principal
SaidHasFault world said NoAction = IsNoAction world.actions said.action
SaidHasFault world said NoResource = IsNowhere (resource_texts world) said.resource
SaidHasFault world said SeveralResources = IsTwice (resource_texts world) said.resource
SaidHasFault world said (Context fault) =
    (p : ℕ) × (r : ℕ) × IsOnlyAt (principal_texts world) said.principal p × IsOnlyAt (resource_texts world) said.resource r
    × (said.own ≢ []) × IsFaultAt world p r said.own fault
SaidHasFault world said NotJson = ⊥
SaidHasFault world said BadShape = ⊥
SaidHasFault world said TooMany = ⊥
SaidHasFault world said ContextsTooLarge = ⊥
SaidHasFault world said OutOfMemory = ⊥

-- the faults of a line behind those of these requests. One of over 8,388,608 bytes has no shape, whatever it is. The keys of all
-- requests up to it may be too large, those that several give counted once
abbrev pub LineHasFault : RequestsValue → List ℕ → LineFault → Type 0
LineHasFault before line NotJson = IsShort line × ((d : Data) → ¬ IsJson line d)
LineHasFault before line BadShape =
    (¬ IsShort line) ⊎ ((d : Data) × IsJson line d × ((said : SaidValue) → ¬ IsSaid d said))
LineHasFault before line TooMany = 16777216 ≤ length before.asked
LineHasFault before line ContextsTooLarge =
    (asked : AskedValue) × IsRequest before.world line asked × AreLarge (before.asked ++ asked ∷ [])
LineHasFault before line OutOfMemory = ⊥
LineHasFault before line fault = (said : SaidValue) × Says line said × SaidHasFault before.world said fault

-- a line too many is nothing else; the others go by their numbers
abbrev pub fault_rank : LineFault → ℕ
fault_rank TooMany = 0
fault_rank fault = line_number_of fault

-- the least of them
pub record IsLineFault (before : RequestsValue) (line : List ℕ) (fault : LineFault) : Type 0 where
  pub holds : LineHasFault before line fault
  pub least : (other : LineFault) → LineHasFault before line other → fault_rank fault ≤ fault_rank other
