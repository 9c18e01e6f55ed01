-- What a run of `changes --any-key` writes, and why it ends without its report. LOGIC 13.4 and 13.12.
use Rattle.std.specs.Prelude.{◌≡◌, ◌⊎◌, ◌↔◌, ◌<◌, ℕ, Bool, IsTrue, List, Option, false}
use Rattle.iam_world.specs.World.{WorldValue, world_cells}
use Rattle.iam_changes.specs.declared.change.Kinds.{Kinds}
use Rattle.iam_matrix.specs.Workers.{IsUnlawful}
use Rattle.iam_matrix.specs.declared.fault.MatrixFault.TheVariants as m
use Rattle.iam_open_changes.specs.Report.{IsAnyKeyChanges}
use Rattle.iam_open_changes.specs.declared.rows.Kinds.{Kinds as RowKinds}
use Rattle.iam_options.specs.declared.options.RunOptions.{RunOptions}
use Rattle.iam_report.specs.Streams.{AppendsBeginning}
use Rattle.iam_app.specs.Changes.{HasBefore, HasSide, IsNoWorld, IsTwiceIn}
use Rattle.iam_app.specs.Output.{format_of}
use Rattle.iam_app.specs.declared.any_key_changes.TurnedChanges.{TurnedChanges}
use Rattle.iam_app.specs.declared.changes_fault.ChangesFault.{ChangesFault}
use Rattle.iam_app.specs.declared.changes_fault.ChangesFault.TheVariants as c
use Rattle.iam_app.specs.declared.changes_fault.Side.TheVariants as side
use Rattle.iam_app.specs.declared.fault.RunFault.TheVariants as f

-- the report that the options ask for, of two worlds, and which kinds of rows it has: the number of workers is lawful
pub record IsTurnedComparison (options : RunOptions) (before after : WorldValue) (text : List ℕ) (kinds : RowKinds) : Type 0 where
  pub workers : ¬ IsUnlawful options.workers
  pub report : IsAnyKeyChanges (format_of options.json) options.brief before after text kinds

-- one of the worlds has a request
abbrev pub HaveSome : WorldValue → WorldValue → Type 0
HaveSome before after = (0 < world_cells before) ⊎ (0 < world_cells after)

-- the inputs are two worlds whose requests can be told apart, P holds of their report, and it is told which kinds of rows it has and
-- whether there is a request
abbrev pub HasTurnedChanges : RunOptions → Option (List ℕ) → Option (List ℕ) → (List ℕ → Type 0) → TurnedChanges → Type 0
HasTurnedChanges options first second P told =
    (before : WorldValue) × (after : WorldValue) × HasSide first before × HasSide second after
    × ((text : List ℕ) × IsTurnedComparison options before after text told.kinds × P text)
    × (IsTrue told.some ↔ HaveSome before after)

-- the inputs are two such worlds
abbrev pub HasBoth : Option (List ℕ) → Option (List ℕ) → Type 0
HasBoth first second = (before : WorldValue) × (after : WorldValue) × HasSide first before × HasSide second after

-- how a run ends without its report: after every fault but `Write` nothing was written
abbrev pub EndsTurnedChangesBy : RunOptions → Option (List ℕ) → Option (List ℕ) → Option (List ℕ) → Option (List ℕ) → ChangesFault → Type 0
EndsTurnedChangesBy options first second old new (c.Run f.Read) = new ≡ old
EndsTurnedChangesBy options first second old new (c.Run (f.World fault)) = (new ≡ old) × HasBefore first × IsNoWorld second fault
EndsTurnedChangesBy options first second old new (c.Run (f.Matrix fault)) =
    (new ≡ old) × (fault ≡ m.Workers) × IsUnlawful options.workers × HasBoth first second
EndsTurnedChangesBy options first second old new (c.Run f.Write) =
    (told : TurnedChanges) × HasTurnedChanges options first second (AppendsBeginning old new) told
EndsTurnedChangesBy options first second old new (c.Run f.NoSuchCell) = ⊥
EndsTurnedChangesBy options first second old new (c.Run (f.Cut fault)) = ⊥
EndsTurnedChangesBy options first second old new (c.Run f.OutOfMemory) = new ≡ old
EndsTurnedChangesBy options first second old new (c.Twice side.Before twice) = (new ≡ old) × IsTwiceIn first twice
EndsTurnedChangesBy options first second old new (c.Twice side.After twice) = (new ≡ old) × HasBefore first × IsTwiceIn second twice
EndsTurnedChangesBy options first second old new (c.Before fault) = (new ≡ old) × IsNoWorld first fault

-- ---- its exit status
-- the kinds of changes among the rows
abbrev pub changes_in : RowKinds → Kinds
changes_in kinds = record { gained = kinds.gained; lost = kinds.lost; differs = false }
