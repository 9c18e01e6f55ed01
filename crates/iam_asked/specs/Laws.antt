-- That a line is at most one request, or says one thing at most of texts, and has no fault then; and that a file is read or has one
-- first faulty line. LOGIC 13.8 and 13.9.
use Rattle.std.specs.Prelude.{◌≡◌, ◌⊎◌, ℕ, List}
use Rattle.iam_world.specs.World.{WorldValue}
use Rattle.iam_asked.specs.Fault.{LineHasFault}
use Rattle.iam_asked.specs.File.{AreRead, IsFirstFaulty}
use Rattle.iam_asked.specs.Request.{AskedValue, IsRequest, RequestsValue}
use Rattle.iam_asked.specs.Size.{IsSizeOf}
use Rattle.iam_asked.specs.TextFault.{TextHasFault}
use Rattle.iam_asked.specs.TextLines.{IsTextLine, TextLineValue}
use Rattle.iam_asked.specs.declared.fault.FaultyLine.{FaultyLine}
use Rattle.iam_asked.specs.declared.fault.LineFault.{LineFault}
use Rattle.iam_asked.specs.declared.fault.LineFault.TheVariants.{TooMany, ContextsTooLarge}
use Rattle.iam_asked.specs.declared.text_fault.TextFault.{TextFault}
use Rattle.iam_asked.specs.declared.text_fault.TextFault.TheVariants as t

-- one request at most fits a line
abbrev pub OneAsked : Type 0
OneAsked =
    (world : WorldValue) (line : List ℕ) (asked other : AskedValue) → IsRequest world line asked → IsRequest world line other
    → asked ≡ other

-- a request has no fault but that it is one too many, or that its keys are too large beside those of others
abbrev pub NoFaultOfRequest : Type 0
NoFaultOfRequest =
    (before : RequestsValue) (line : List ℕ) (asked : AskedValue) (fault : LineFault) → IsRequest before.world line asked
    → LineHasFault before line fault → (fault ≡ TooMany) ⊎ (fault ≡ ContextsTooLarge)

-- the keys of requests have one size at most, so they are not both small and too large
abbrev pub OneSize : Type 0
OneSize = (asked : List AskedValue) (size other : ℕ) → IsSizeOf asked size → IsSizeOf asked other → size ≡ other

-- lines that are read have no first faulty one
abbrev pub NoFaultOfRead : Type 0
NoFaultOfRead =
    (lines : List (List ℕ)) (requests : RequestsValue) (faulty : FaultyLine) → AreRead lines requests
    → ¬ IsFirstFaulty requests.world lines faulty

-- there is one first faulty line at most, with one fault
abbrev pub OneFirstFaulty : Type 0
OneFirstFaulty =
    (world : WorldValue) (lines : List (List ℕ)) (faulty other : FaultyLine) → IsFirstFaulty world lines faulty
    → IsFirstFaulty world lines other → faulty ≡ other

-- a line says one thing at most of texts
abbrev pub OneTextLine : Type 0
OneTextLine =
    (world : WorldValue) (line : List ℕ) (value other : TextLineValue) → IsTextLine world line value → IsTextLine world line other
    → value ≡ other

-- a line that says something of texts has no fault but that it is one too many
abbrev pub NoFaultOfTextLine : Type 0
NoFaultOfTextLine =
    (world : WorldValue) (n : ℕ) (line : List ℕ) (value : TextLineValue) (fault : TextFault) → IsTextLine world line value
    → TextHasFault world n line fault → fault ≡ t.TooMany
