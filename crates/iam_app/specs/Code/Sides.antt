-- Why an input is not taken as one of two worlds, and what was written where a report could not be.
use Rattle.std.specs.Prelude.{◌≡◌, ◌⊎◌, ℕ, List, Option, ⊤}
use Rattle.iam_report.specs.Streams.{AppendsBeginning}
use Rattle.iam_app.specs.Changes.{IsNoWorld, IsTwiceIn}
use Rattle.iam_app.specs.declared.changes_fault.ChangesFault.{ChangesFault}
use Rattle.iam_app.specs.declared.changes_fault.ChangesFault.TheVariants as c
use Rattle.iam_app.specs.declared.changes_fault.Side.{Side}
use Rattle.iam_app.specs.declared.fault.RunFault.TheVariants as f

-- the input is no world whose requests can be told apart, for this fault
abbrev pub IsNoSide : Side → Option (List ℕ) → ChangesFault → Type 0
IsNoSide side input (c.Run f.Read) = ⊤
IsNoSide side input (c.Run (f.World fault)) = IsNoWorld input fault
IsNoSide side input (c.Run f.OutOfMemory) = ⊤
IsNoSide side input (c.Twice world twice) = (world ≡ side) × IsTwiceIn input twice
IsNoSide side input fault = ⊥

-- the fault that it is of the world before
abbrev pub of_before : ChangesFault → ChangesFault
of_before (c.Run (f.World fault)) = c.Before fault
of_before fault = fault

-- the writer failed, and gained a beginning of the text; or there was no memory, and nothing was written
abbrev pub IsNotWritten : Option (List ℕ) → Option (List ℕ) → List ℕ → ChangesFault → Type 0
IsNotWritten old new text fault =
    ((fault ≡ c.Run f.Write) × AppendsBeginning old new text) ⊎ ((fault ≡ c.Run f.OutOfMemory) × (new ≡ old))
