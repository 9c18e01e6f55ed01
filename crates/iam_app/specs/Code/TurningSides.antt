-- A run of `changes --any-key` whose worlds are read.
use Rattle.std.specs.Prelude.{◌≡◌, ◌↔◌, ℕ, IsTrue, List, Option, ⊤}
use Rattle.std.specs.Io.KnownBytes.{Appends}
use Rattle.iam_world.specs.World.{WorldValue}
use Rattle.iam_matrix.specs.Workers.{IsUnlawful}
use Rattle.iam_matrix.specs.declared.fault.MatrixFault.TheVariants as m
use Rattle.iam_options.specs.declared.options.RunOptions.{RunOptions}
use Rattle.iam_report.specs.Streams.{AppendsBeginning}
use Rattle.iam_app.specs.AnyKeyChanges.{HaveSome, IsTurnedComparison}
use Rattle.iam_app.specs.declared.any_key_changes.TurnedChanges.{TurnedChanges}
use Rattle.iam_app.specs.declared.fault.RunFault.{RunFault}
use Rattle.iam_app.specs.declared.fault.RunFault.TheVariants.{Read, World, Matrix, Write, NoSuchCell, Cut, OutOfMemory}

-- P holds of the report of both, and it is told which kinds of rows it has and whether there is a request
abbrev pub TellsTurned : RunOptions → WorldValue → WorldValue → (List ℕ → Type 0) → TurnedChanges → Type 0
TellsTurned options before after P told =
    ((text : List ℕ) × IsTurnedComparison options before after text told.kinds × P text) × (IsTrue told.some ↔ HaveSome before after)

-- the writer did not gain the report, for this fault
abbrev pub IsUntold : RunOptions → WorldValue → WorldValue → Option (List ℕ) → Option (List ℕ) → RunFault → Type 0
IsUntold options before after old new (Matrix fault) = (new ≡ old) × (fault ≡ m.Workers) × IsUnlawful options.workers
IsUntold options before after old new Write =
    (told : TurnedChanges) × TellsTurned options before after (AppendsBeginning old new) told
IsUntold options before after old new OutOfMemory = new ≡ old
IsUntold options before after old new fault = ⊥
