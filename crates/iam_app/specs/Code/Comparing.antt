-- How the parts of a run of two worlds for all names end.
use Rattle.std.specs.Prelude.{◌≡◌, ◌⊎◌, ℕ, List, None, Option, ⊤}
use Rattle.std.specs.Io.KnownBytes.{Appends}
use Rattle.iam_world.specs.World.{WorldValue}
use Rattle.iam_asked.specs.Before.{IsFirstUnsaid}
use Rattle.iam_asked.specs.TextLines.{TextLineValue}
use Rattle.iam_report.specs.Streams.{AppendsBeginning}
use Rattle.iam_every.specs.Every.{AreThere, patterns_of}
use Rattle.iam_every_changes.specs.Compared.{ComparedValue}
use Rattle.iam_every_changes.specs.States.{AreApart}
use Rattle.iam_every_changes.specs.declared.report.ChangesTold.{ChangesTold}
use Rattle.iam_options.specs.declared.every.Texts.TheVariants as x
use Rattle.iam_options.specs.declared.every_changes.EveryChangesCommand.{EveryChangesCommand}
use Rattle.iam_app.specs.EveryChanges.{AreLines, HasNoCrew, IsLongComparison, IsNamesComparison, OfComparison}
use Rattle.iam_app.specs.Names.{IsFaultyLine, IsLongFile}
use Rattle.iam_app.specs.declared.changes_fault.ChangesFault.TheVariants as c
use Rattle.iam_app.specs.declared.every_changes_fault.EveryChangesFault.{EveryChangesFault}
use Rattle.iam_app.specs.declared.every_changes_fault.EveryChangesFault.TheVariants as e
use Rattle.iam_app.specs.declared.fault.RunFault.TheVariants as f

-- what has to hold of what is asked, whoever asks: what lines say is there, each text has at most one resource, and the same is asked of
-- both worlds
pub record CanCompareNames (compared : ComparedValue) : Type 0 where
  pub there_before : AreThere compared.before
  pub there_after : AreThere compared.after
  pub apart_before : AreApart compared.before.world
  pub apart_after : AreApart compared.after.world
  pub patterns : patterns_of compared.before.lines ≡ patterns_of compared.after.lines
  pub actions : compared.before.actions ≡ compared.after.actions

-- why there is no report of this, by a lawful number of workers
abbrev pub IsNotCompared : EveryChangesCommand → ComparedValue → EveryChangesFault → Type 0
IsNotCompared command compared (e.Changes (c.Run f.OutOfMemory)) = ⊤
IsNotCompared command compared e.Kinds = IsLongComparison command compared.before.world compared.after.world compared
IsNotCompared command compared fault = ⊥

-- why there is no report of these lines
abbrev pub HasNoComparison : EveryChangesCommand → WorldValue → WorldValue → List TextLineValue → EveryChangesFault → Type 0
HasNoComparison command before after lines (e.Changes (c.Run (f.Matrix fault))) = HasNoCrew command before after lines fault
HasNoComparison command before after lines (e.Changes (c.Run f.OutOfMemory)) = ⊤
HasNoComparison command before after lines e.Kinds = OfComparison command before after lines (IsLongComparison command before after)
HasNoComparison command before after lines fault = ⊥

-- the report of these lines is this
abbrev pub HasComparison : EveryChangesCommand → WorldValue → WorldValue → List TextLineValue → List ℕ → ChangesTold → Type 0
HasComparison command before after lines text told =
    OfComparison command before after lines (λ compared. IsNamesComparison command before after compared text told)

-- the writer gained it
abbrev pub WritesComparison : EveryChangesCommand → WorldValue → WorldValue → List TextLineValue → Option (List ℕ) → Option (List ℕ) → ChangesTold → Type 0
WritesComparison command before after lines old new told =
    (text : List ℕ) × HasComparison command before after lines text told × Appends old new text

-- it did not, for this fault
abbrev pub EndsComparisonBy : EveryChangesCommand → WorldValue → WorldValue → List TextLineValue → Option (List ℕ) → Option (List ℕ) → EveryChangesFault → Type 0
EndsComparisonBy command before after lines old new (e.Changes (c.Run f.Write)) =
    (text : List ℕ) × (told : ChangesTold) × HasComparison command before after lines text told × AppendsBeginning old new text
EndsComparisonBy command before after lines old new fault = (new ≡ old) × HasNoComparison command before after lines fault

-- why the file has no lines of the world after
abbrev pub IsNotRead : WorldValue → Option (List ℕ) → EveryChangesFault → Type 0
IsNotRead after file (e.Changes (c.Run f.Read)) = ⊤
IsNotRead after file (e.Changes (c.Run f.OutOfMemory)) = ⊤
IsNotRead after file (e.Texts faulty) = IsFaultyLine (x.File None) file after faulty
IsNotRead after file e.LongTexts = IsLongFile (x.File None) file
IsNotRead after file fault = ⊥

-- why lines of the world after can't be said of the one before
abbrev pub IsUnknownBefore : WorldValue → WorldValue → List TextLineValue → EveryChangesFault → Type 0
IsUnknownBefore before after lines (e.Changes (c.Run f.OutOfMemory)) = ⊤
IsUnknownBefore before after lines (e.BeforeTexts faulty) = IsFirstUnsaid before after lines faulty
IsUnknownBefore before after lines fault = ⊥

-- why there are no lines of both worlds
abbrev pub HasNoLines : WorldValue → WorldValue → Option (List ℕ) → EveryChangesFault → Type 0
HasNoLines before after file (e.Changes (c.Run f.Read)) = ⊤
HasNoLines before after file (e.Changes (c.Run f.OutOfMemory)) = ⊤
HasNoLines before after file (e.Texts faulty) = IsFaultyLine (x.File None) file after faulty
HasNoLines before after file (e.BeforeTexts faulty) =
    (lines : List TextLineValue) × AreLines file after lines × IsFirstUnsaid before after lines faulty
HasNoLines before after file e.LongTexts = IsLongFile (x.File None) file
HasNoLines before after file fault = ⊥

-- the file has lines of both worlds, and the writer gained the report
abbrev pub WritesAll : EveryChangesCommand → WorldValue → WorldValue → Option (List ℕ) → Option (List ℕ) → Option (List ℕ) → ChangesTold → Type 0
WritesAll command before after file old new told =
    (lines : List TextLineValue) × AreLines file after lines × WritesComparison command before after lines old new told

-- it has none, or the writer did not
abbrev pub EndsAllBy : EveryChangesCommand → WorldValue → WorldValue → Option (List ℕ) → Option (List ℕ) → Option (List ℕ) → EveryChangesFault → Type 0
EndsAllBy command before after file old new fault =
    ((new ≡ old) × HasNoLines before after file fault)
    ⊎ ((lines : List TextLineValue) × AreLines file after lines × EndsComparisonBy command before after lines old new fault)
