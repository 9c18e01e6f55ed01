-- How the parts of a run about all names end.
use Rattle.std.specs.Prelude.{◌≡◌, ◌⊎◌, ℕ, All, List, Option, ⊤, map, string_bytes}
use Rattle.std.specs.Io.KnownBytes.{Appends}
use Rattle.iam_glob.specs.declared.sign.Sign.{Sign}
use Rattle.iam_world.specs.World.{WorldValue}
use Rattle.iam_asked.specs.TextFault.{SaidOfHasFault}
use Rattle.iam_asked.specs.TextLines.{IsKnown, SaidOfValue, TextLineValue, text_line_of}
use Rattle.iam_asked.specs.declared.texts.TextLine.{TextLine}
use Rattle.iam_report.specs.Streams.{AppendsBeginning}
use Rattle.iam_every.specs.Every.{EveryValue, line_of}
use Rattle.iam_every.specs.declared.asked.Line.{Line}
use Rattle.iam_every.specs.declared.report.EveryAnswer.{EveryAnswer}
use Rattle.iam_selection.specs.Selection.{pattern_of}
use Rattle.iam_options.specs.declared.every.EveryCommand.{EveryCommand}
use Rattle.iam_options.specs.declared.every.Texts.{Texts}
use Rattle.iam_app.specs.Names.{AreSaid, IsAskedOf, IsFaultyLine, IsLineOf, IsLongFile, IsLongReport, IsNamesReport, IsNoCrew}
use Rattle.iam_app.specs.declared.every.Told.{Told}
use Rattle.iam_app.specs.declared.fault.RunFault.TheVariants as f
use Rattle.iam_app.specs.declared.names_fault.NamesFault.{NamesFault}
use Rattle.iam_app.specs.declared.names_fault.NamesFault.TheVariants as n

-- ---- lines
-- why there is no such line: what it says is not there; or there is no memory
abbrev pub IsNoLine : WorldValue → SaidOfValue → NamesFault → Type 0
IsNoLine world said (n.Run f.OutOfMemory) = ⊤
IsNoLine world said (n.Run fault) = ⊥
IsNoLine world said n.Kinds = ⊥
IsNoLine world said (n.Texts faulty) = (faulty.line ≡ 0) × SaidOfHasFault world said faulty.fault
IsNoLine world said n.LongTexts = ⊥

-- why there are no lines
abbrev pub IsNoLines : Texts → Option (List ℕ) → WorldValue → NamesFault → Type 0
IsNoLines texts file world (n.Run f.Read) = ⊤
IsNoLines texts file world (n.Run f.OutOfMemory) = ⊤
IsNoLines texts file world (n.Run fault) = ⊥
IsNoLines texts file world n.Kinds = ⊥
IsNoLines texts file world (n.Texts faulty) = IsFaultyLine texts file world faulty
IsNoLines texts file world n.LongTexts = IsLongFile texts file

-- the patterns of lines
abbrev pub patterns_of : List TextLine → List (List Sign)
patterns_of lines = map (λ line. pattern_of (string_bytes line.pattern)) lines

-- the line is lent
abbrev pub IsLent : TextLine → Line → Type 0
IsLent line lent = IsLineOf (text_line_of line) (line_of lent)

-- the world has what they say
abbrev pub AreKnown : WorldValue → List TextLineValue → Type 0
AreKnown world lines = All (λ line. IsKnown world line.said) lines

-- ---- the report
-- P holds of what the command asks of the world by these lines
abbrev pub OfAsked : EveryCommand → WorldValue → List TextLineValue → (EveryValue → Type 0) → Type 0
OfAsked command world lines P = (every : EveryValue) × IsAskedOf command.action world lines every × P every

-- what is told beside it
abbrev pub told_of : EveryAnswer → Told
told_of answer = record { some = answer.some; unshown = answer.unshown }

-- why there is no report of this, by a lawful number of workers
abbrev pub IsNoReportOf : EveryCommand → EveryValue → NamesFault → Type 0
IsNoReportOf command every (n.Run f.OutOfMemory) = ⊤
IsNoReportOf command every (n.Run fault) = ⊥
IsNoReportOf command every n.Kinds = IsLongReport command every
IsNoReportOf command every (n.Texts faulty) = ⊥
IsNoReportOf command every n.LongTexts = ⊥

-- why there is no report
abbrev pub IsNoReport : EveryCommand → WorldValue → List TextLineValue → NamesFault → Type 0
IsNoReport command world lines (n.Run (f.Matrix fault)) = IsNoCrew command fault
IsNoReport command world lines (n.Run f.OutOfMemory) = ⊤
IsNoReport command world lines (n.Run fault) = ⊥
IsNoReport command world lines n.Kinds = OfAsked command world lines (IsLongReport command)
IsNoReport command world lines (n.Texts faulty) = ⊥
IsNoReport command world lines n.LongTexts = ⊥

-- the writer gained it
abbrev pub WritesNames : EveryCommand → WorldValue → List TextLineValue → Option (List ℕ) → Option (List ℕ) → Told → Type 0
WritesNames command world lines old new told =
    OfAsked command world lines (λ every. (text : List ℕ) × IsNamesReport command every text told × Appends old new text)

-- it did not, for this fault
abbrev pub EndsReportBy : EveryCommand → WorldValue → List TextLineValue → Option (List ℕ) → Option (List ℕ) → NamesFault → Type 0
EndsReportBy command world lines old new (n.Run f.Write) =
    (told : Told) × OfAsked command world lines (λ every. (text : List ℕ) × IsNamesReport command every text told × AppendsBeginning old new text)
EndsReportBy command world lines old new fault = (new ≡ old) × IsNoReport command world lines fault

-- ---- the run
-- what the command says of texts are lines, and the writer gained the report of them
abbrev pub NamesAll : EveryCommand → WorldValue → Option (List ℕ) → Option (List ℕ) → Option (List ℕ) → Told → Type 0
NamesAll command world file old new told =
    (lines : List TextLineValue) × AreSaid command.texts file world lines × WritesNames command world lines old new told

-- it did not, for this fault
abbrev pub EndsLinesBy : EveryCommand → WorldValue → Option (List ℕ) → Option (List ℕ) → Option (List ℕ) → NamesFault → Type 0
EndsLinesBy command world file old new fault =
    ((new ≡ old) × IsNoLines command.texts file world fault)
    ⊎ ((lines : List TextLineValue) × AreSaid command.texts file world lines × EndsReportBy command world lines old new fault)
