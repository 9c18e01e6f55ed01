-- A file of requests, one a line. LOGIC 13.8.
use Rattle.std.specs.Prelude.{◌≡◌, ◌≤◌, ℕ, List, [], ◌∷◌, Option, Some, None, ◌==◌, if◌then◌else◌, length, take, ⊤}
use Rattle.std.specs.List.{AllZip, slice_get}
use Rattle.iam_world.specs.World.{WorldValue}
use Rattle.iam_asked.specs.Fault.{IsLineFault}
use Rattle.iam_asked.specs.Request.{AskedValue, IsRequest, RequestsValue}
use Rattle.iam_asked.specs.Size.{AreSmall}
use Rattle.iam_asked.specs.declared.fault.AskFault.{AskFault}
use Rattle.iam_asked.specs.declared.fault.AskFault.TheVariants.{Read, Line, OutOfMemory}
use Rattle.iam_asked.specs.declared.fault.FaultyLine.{FaultyLine}

-- lines that begin with this byte: the first line gets it
abbrev pub begin_with : ℕ → List (List ℕ) → List (List ℕ)
begin_with c [] = (c ∷ []) ∷ []
begin_with c (line ∷ lines) = (c ∷ line) ∷ lines

-- the bytes cut at each line feed; what stands behind the last one is a line unless it is empty
abbrev pub lines_of : List ℕ → List (List ℕ)
lines_of [] = []
lines_of (c ∷ cs) = if c == 10 then [] ∷ lines_of cs else begin_with c (lines_of cs)

-- each line is a request, and these are they, in order
abbrev pub AreRequests : List (List ℕ) → RequestsValue → Type 0
AreRequests lines requests = AllZip (IsRequest requests.world) lines requests.asked

-- no line has a fault: each is a request, and these are they, not too many, and their keys not too large
pub record AreRead (lines : List (List ℕ)) (requests : RequestsValue) : Type 0 where
  pub requests_are : AreRequests lines requests
  pub few : length requests.asked ≤ 16777216
  pub small : AreSmall requests.asked

-- the first line that has a fault, and its least one; no line before it has one
pub record IsFirstFaulty (world : WorldValue) (lines : List (List ℕ)) (faulty : FaultyLine) : Type 0 where
  pub line : List ℕ
  pub before : List AskedValue
  pub at : slice_get lines faulty.line ≡ Some line
  pub read : AreRead (take faulty.line lines) (record { world = world; asked = before })
  pub is : IsLineFault (record { world = world; asked = before }) line faulty.fault

-- why the requests of these bytes are not read. Nothing is said of a reader that fails
abbrev pub IsFileFault : WorldValue → List ℕ → AskFault → Type 0
IsFileFault world bytes Read = ⊤
IsFileFault world bytes (Line faulty) = IsFirstFaulty world (lines_of bytes) faulty
IsFileFault world bytes OutOfMemory = ⊤

-- P holds of the bytes, where a reader says which bytes are left; where it does not, nothing is claimed
abbrev pub OfBytes : Option (List ℕ) → (List ℕ → Type 0) → Type 0
OfBytes None P = ⊤
OfBytes (Some bytes) P = P bytes
