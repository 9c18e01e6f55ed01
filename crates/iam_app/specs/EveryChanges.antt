-- What a run of two worlds for all names writes, and why it ends without its report. LOGIC 13.10.
use Rattle.std.specs.Prelude.{◌≡◌, ◌≢◌, ℕ, List, None, Option, ⊤, chars, false}
use Rattle.iam_glob.specs.Glob.{Matches}
use Rattle.iam_glob.specs.declared.sign.Sign.{Sign}
use Rattle.iam_decision.specs.Matched.{Selects}
use Rattle.iam_world.specs.World.{WorldValue}
use Rattle.iam_asked.specs.Before.{AreLinesBefore, IsFirstUnsaid}
use Rattle.iam_asked.specs.TextLines.{TextLineValue}
use Rattle.iam_report.specs.Streams.{AppendsBeginning}
use Rattle.iam_matrix.specs.Workers.{IsUnlawful}
use Rattle.iam_matrix.specs.declared.fault.MatrixFault.{MatrixFault}
use Rattle.iam_matrix.specs.declared.fault.MatrixFault.TheVariants as m
use Rattle.iam_every_changes.specs.Compared.{ArePrincipals, ComparedValue, WhoValue}
use Rattle.iam_every_changes.specs.Report.{IsEveryChangesReport, IsTooLong}
use Rattle.iam_every_changes.specs.declared.report.ChangesTold.{ChangesTold}
use Rattle.iam_selection.specs.Selection.{IsMeant}
use Rattle.iam_options.specs.declared.every.Texts.TheVariants as x
use Rattle.iam_options.specs.declared.every_changes.EveryChangesCommand.{EveryChangesCommand}
use Rattle.iam_changes.specs.declared.change.Kinds.{Kinds}
use Rattle.iam_app.specs.Changes.{HasBefore, HasSide, IsNoWorld, IsOfBefore, IsTwiceIn}
use Rattle.iam_app.specs.Names.{AreSaid, IsAskedOf, IsFaultyLine, IsLongFile}
use Rattle.iam_app.specs.Output.{format_of}
use Rattle.iam_app.specs.Selected.{patterns_in}
use Rattle.iam_app.specs.declared.changes_fault.ChangesFault.TheVariants as c
use Rattle.iam_app.specs.declared.changes_fault.Side.TheVariants as side
use Rattle.iam_app.specs.declared.every_changes_fault.EveryChangesFault.{EveryChangesFault}
use Rattle.iam_app.specs.declared.every_changes_fault.EveryChangesFault.TheVariants as e
use Rattle.iam_app.specs.declared.fault.RunFault.TheVariants as f

-- ---- what is asked
-- the lines are those of the file
abbrev pub AreLines : Option (List ℕ) → WorldValue → List TextLineValue → Type 0
AreLines file after lines = AreSaid (x.File None) file after lines

-- the principal is meant
abbrev pub IsWhoMeant : List (List Sign) → WhoValue → Type 0
IsWhoMeant patterns who = IsMeant (λ pattern. Matches pattern (chars who.text)) patterns

-- the principals of both worlds that are
abbrev pub AreWhosMeant : List (List Sign) → WorldValue → WorldValue → List WhoValue → Type 0
AreWhosMeant patterns before after whos =
    (all : List WhoValue) × ArePrincipals before after all × Selects (IsWhoMeant patterns) all whos

-- what the command asks of the two worlds by lines of the one after
pub record AreAskedOf (command : EveryChangesCommand) (before after : WorldValue) (lines : List TextLineValue) (compared : ComparedValue) : Type 0 where
  pub were : List TextLineValue
  pub said : AreLinesBefore before after lines were
  pub was : IsAskedOf command.action before were compared.before
  pub now : IsAskedOf command.action after lines compared.after

-- ---- the report
-- the report that the command asks for, of this, and what is told beside it
pub record IsNamesComparison (command : EveryChangesCommand) (before after : WorldValue) (compared : ComparedValue) (text : List ℕ) (told : ChangesTold) : Type 0 where
  pub workers : ¬ IsUnlawful command.options.workers
  pub whos : List WhoValue
  pub meant : AreWhosMeant (patterns_in command.principals.items) before after whos
  pub report : IsEveryChangesReport (format_of command.options.json) command.options.brief compared whos text told

-- there is none since it would be too long
abbrev pub IsLongComparison : EveryChangesCommand → WorldValue → WorldValue → ComparedValue → Type 0
IsLongComparison command before after compared =
    (whos : List WhoValue) × AreWhosMeant (patterns_in command.principals.items) before after whos × IsTooLong compared whos

-- the lines can be said of the world before, and the number of workers is unlawful
abbrev pub HasNoCrew : EveryChangesCommand → WorldValue → WorldValue → List TextLineValue → MatrixFault → Type 0
HasNoCrew command before after lines fault =
    ((were : List TextLineValue) × AreLinesBefore before after lines were)
    × (fault ≢ m.OutOfMemory → (fault ≡ m.Workers) × IsUnlawful command.options.workers)

-- ---- a run
-- the inputs are two worlds whose requests can be told apart, and P holds of them
abbrev pub HasSides : Option (List ℕ) → Option (List ℕ) → (WorldValue → WorldValue → Type 0) → Type 0
HasSides first second P = (before : WorldValue) × (after : WorldValue) × HasSide first before × HasSide second after × P before after

-- and lines
abbrev pub HasSidesAndLines : Option (List ℕ) → Option (List ℕ) → Option (List ℕ) → (WorldValue → WorldValue → List TextLineValue → Type 0) → Type 0
HasSidesAndLines first second file P =
    HasSides first second (λ before after. (lines : List TextLineValue) × AreLines file after lines × P before after lines)

-- P holds of what is asked by them
abbrev pub OfComparison : EveryChangesCommand → WorldValue → WorldValue → List TextLineValue → (ComparedValue → Type 0) → Type 0
OfComparison command before after lines P = (compared : ComparedValue) × AreAskedOf command before after lines compared × P compared

-- P holds of the report
abbrev pub HasNamesChanges : EveryChangesCommand → Option (List ℕ) → Option (List ℕ) → Option (List ℕ) → (List ℕ → Type 0) → ChangesTold → Type 0
HasNamesChanges command first second file P told =
    HasSidesAndLines first second file (λ before after lines. OfComparison command before after lines
    (λ compared. (text : List ℕ) × IsNamesComparison command before after compared text told × P text))

-- how a run ends without its report: after every fault but `Write` nothing was written
abbrev pub EndsNamesChangesBy : EveryChangesCommand → Option (List ℕ) → Option (List ℕ) → Option (List ℕ) → Option (List ℕ) → Option (List ℕ) → EveryChangesFault → Type 0
EndsNamesChangesBy command first second file old new (e.Changes (c.Run f.Read)) = new ≡ old
EndsNamesChangesBy command first second file old new (e.Changes (c.Run (f.World fault))) = (new ≡ old) × HasBefore first × IsNoWorld second fault
EndsNamesChangesBy command first second file old new (e.Changes (c.Run (f.Matrix fault))) =
    (new ≡ old) × HasSidesAndLines first second file (λ before after lines. HasNoCrew command before after lines fault)
EndsNamesChangesBy command first second file old new (e.Changes (c.Run f.Write)) =
    (told : ChangesTold) × HasNamesChanges command first second file (AppendsBeginning old new) told
EndsNamesChangesBy command first second file old new (e.Changes (c.Run f.NoSuchCell)) = ⊥
EndsNamesChangesBy command first second file old new (e.Changes (c.Run (f.Cut fault))) = ⊥
EndsNamesChangesBy command first second file old new (e.Changes (c.Run f.OutOfMemory)) = new ≡ old
EndsNamesChangesBy command first second file old new (e.Changes (c.Twice side.Before twice)) = (new ≡ old) × IsTwiceIn first twice
EndsNamesChangesBy command first second file old new (e.Changes (c.Twice side.After twice)) =
    (new ≡ old) × HasBefore first × IsTwiceIn second twice
EndsNamesChangesBy command first second file old new (e.Changes (c.Before fault)) = (new ≡ old) × IsNoWorld first fault
EndsNamesChangesBy command first second file old new e.Kinds =
    (new ≡ old) × HasSidesAndLines first second file
    (λ before after lines. OfComparison command before after lines (IsLongComparison command before after))
EndsNamesChangesBy command first second file old new (e.Texts faulty) =
    (new ≡ old) × HasSides first second (λ before after. IsFaultyLine (x.File None) file after faulty)
EndsNamesChangesBy command first second file old new (e.BeforeTexts faulty) =
    (new ≡ old) × HasSidesAndLines first second file (λ before after lines. IsFirstUnsaid before after lines faulty)
EndsNamesChangesBy command first second file old new e.LongTexts =
    (new ≡ old) × HasSides first second (λ before after. IsLongFile (x.File None) file)

-- the fault is one of the world before; or of one of the worlds
abbrev pub IsOfNoBefore : EveryChangesFault → Type 0
IsOfNoBefore (e.Changes fault) = IsOfBefore fault
IsOfNoBefore fault = ⊥

abbrev pub IsOfNoWorlds : EveryChangesFault → Type 0
IsOfNoWorlds (e.Changes (c.Run (f.World fault))) = ⊤
IsOfNoWorlds (e.Changes (c.Run fault)) = ⊥
IsOfNoWorlds (e.Changes fault) = ⊤
IsOfNoWorlds fault = ⊥

-- ---- its exit status
-- the kinds of changes that a report has
abbrev pub kinds_of : ChangesTold → Kinds
kinds_of told = record { gained = told.gained; lost = told.lost; differs = false }
