-- A run of `matrix --any-key` or `first --any-key` whose world is read.
use Rattle.std.specs.Prelude.{◌≡◌, ◌↔◌, ℕ, Bool, IsTrue, List, Option, ⊤}
use Rattle.std.specs.Io.KnownBytes.{Appends}
use Rattle.std.specs.List.{AllZip}
use Rattle.iam_world.specs.World.{WorldValue}
use Rattle.iam_matrix.specs.Workers.{IsUnlawful}
use Rattle.iam_matrix.specs.declared.fault.MatrixFault.TheVariants as m
use Rattle.iam_open.specs.declared.asked.Word.{Word}
use Rattle.iam_options.specs.declared.any_key.AnyKeyCommand.{AnyKeyCommand}
use Rattle.iam_options.specs.declared.options.RunOptions.{RunOptions}
use Rattle.iam_report.specs.Streams.{AppendsBeginning}
use Rattle.iam_app.specs.AnyKey.{AsksAbout, IsTurnedOf, MeansWord}
use Rattle.iam_app.specs.Code.Pieces.{report_text}
use Rattle.iam_app.specs.declared.any_key.TurnedAnswer.{TurnedAnswer}
use Rattle.iam_app.specs.declared.fault.RunFault.{RunFault}
use Rattle.iam_app.specs.declared.fault.RunFault.TheVariants.{Read, World, Matrix, Write, NoSuchCell, Cut, OutOfMemory}

-- the answer has the report, and tells whether some request is asked about
abbrev pub IsAnswerOf : AnyKeyCommand → WorldValue → TurnedAnswer → Type 0
IsAnswerOf command world answer = IsTurnedOf command world (report_text answer.report) × (IsTrue answer.some ↔ AsksAbout command.asked world)

-- there is no report, for this fault; of want of memory nothing is said
abbrev pub NotTurned : RunOptions → RunFault → Type 0
NotTurned options (Matrix fault) = (fault ≡ m.Workers) × IsUnlawful options.workers
NotTurned options OutOfMemory = ⊤
NotTurned options fault = ⊥

-- the writer gained the report, and it is told whether some request is asked about
abbrev pub WritesTurned : AnyKeyCommand → WorldValue → Option (List ℕ) → Option (List ℕ) → Bool → Type 0
WritesTurned command world old new some =
    ((text : List ℕ) × IsTurnedOf command world text × Appends old new text) × (IsTrue some ↔ AsksAbout command.asked world)

-- it did not, for this fault
abbrev pub IsUnturned : AnyKeyCommand → WorldValue → Option (List ℕ) → Option (List ℕ) → RunFault → Type 0
IsUnturned command world old new (Matrix fault) = (new ≡ old) × NotTurned command.options (Matrix fault)
IsUnturned command world old new Write =
    ((text : List ℕ) × IsTurnedOf command world text × AppendsBeginning old new text)
    × ((some : Bool) × (IsTrue some ↔ AsksAbout command.asked world))
IsUnturned command world old new OutOfMemory = new ≡ old
IsUnturned command world old new fault = ⊥
