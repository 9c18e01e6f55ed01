-- Lines that come in blocks.
use Rattle.std.specs.Prelude.{◌≡◌, ◌≤◌, ℕ, List, ◌++◌, ◌==◌, false, length, ⊤}
use Rattle.std.specs.List.{AllByRecursion}
use Rattle.iam_asked.specs.Fault.{IsLineFault}
use Rattle.iam_asked.specs.File.{AreRequests, lines_of}
use Rattle.iam_asked.specs.Request.{RequestsValue}
use Rattle.iam_asked.specs.Size.{AreSmall}
use Rattle.iam_asked.specs.declared.fault.AskFault.{AskFault}
use Rattle.iam_asked.specs.declared.fault.AskFault.TheVariants.{Read, Line, OutOfMemory}

-- no line feed
abbrev pub IsUnbroken : List ℕ → Type 0
IsUnbroken bytes = AllByRecursion (λ c. (c == 10) ≡ false) bytes

-- the lines that have ended are these requests, and these bytes stand behind the last of them
pub record HasRead (bytes rest : List ℕ) (requests : RequestsValue) : Type 0 where
  pub lines : List (List ℕ)
  pub cut : (more : List ℕ) → lines_of (bytes ++ more) ≡ lines ++ lines_of (rest ++ more)
  pub unbroken : IsUnbroken rest
  pub requests_are : AreRequests lines requests

-- the fault of the line behind these requests, which are not too many and not too large, with its number
abbrev pub IsFaultOf : RequestsValue → List ℕ → AskFault → Type 0
IsFaultOf before line Read = ⊥
IsFaultOf before line (Line faulty) =
    (faulty.line ≡ length before.asked) × (faulty.line ≤ 16777216) × AreSmall before.asked × IsLineFault before line faulty.fault
IsFaultOf before line OutOfMemory = ⊤
