-- That what a run of two worlds writes hangs on its inputs and on what the options ask for alone: not on how many workers there
-- are, nor on how the requests are cut into tiles. LOGIC 13.7.
use Rattle.std.specs.Prelude.{◌≡◌, ◌⊎◌, ◌≢◌, ℕ, List, ◌++◌, Option, Some, Result, Ok, Err, ⊤}
use Rattle.iam_world.specs.declared.fault.WorldFault.{WorldFault}
use Rattle.iam_world.specs.declared.fault.WorldFault.TheVariants as w
use Rattle.iam_selection.specs.Selection.{SelectionValue}
use Rattle.iam_changes.specs.declared.change.Kinds.{Kinds}
use Rattle.iam_changes.specs.declared.twice.Twice.{Twice}
use Rattle.iam_options.specs.declared.changes.ChangesOptions.{ChangesOptions}
use Rattle.iam_app.specs.Changes.{BeginsChanges, EndsChangesBy, IsChangesOutput, WritesChanges}
use Rattle.iam_app.specs.declared.changes_fault.ChangesFault.{ChangesFault}
use Rattle.iam_app.specs.declared.changes_fault.ChangesFault.TheVariants as c
use Rattle.iam_app.specs.declared.changes_fault.Side.{Side}
use Rattle.iam_app.specs.declared.fault.RunFault.TheVariants as f

-- the options differ at most in the length of a tile and in the number of workers
abbrev pub AskTheSameChanges : ChangesOptions → ChangesOptions → Type 0
AskTheSameChanges options other = other ≡ record options { tile = other.tile; workers = other.workers }

-- bytes of two worlds have one report, with one answer which kinds of changes it has
abbrev pub OneChangesOutput : Type 0
OneChangesOutput =
    (options other : ChangesOptions) (selection : SelectionValue) (first second text text' : List ℕ) (kinds kinds' : Kinds)
    → AskTheSameChanges options other → IsChangesOutput options selection first second text kinds
    → IsChangesOutput other selection first second text' kinds' → (text ≡ text') × (kinds ≡ kinds')

-- a fault of the inputs: one of them is no world, or a text stands twice in it; no stream, no want of memory, no tile and no
-- number of workers brings it about
abbrev pub IsOfWorlds : ChangesFault → Type 0
IsOfWorlds fault =
    ((of_world : WorldFault) × (of_world ≢ w.OutOfMemory) × ((fault ≡ c.Before of_world) ⊎ (fault ≡ c.Run (f.World of_world))))
    ⊎ ((side : Side) × (twice : Twice) × (fault ≡ c.Twice side twice))

-- how a run ends, with its report or by a fault: what its contract says
abbrev pub EndsChanges : ChangesOptions → SelectionValue → Option (List ℕ) → Option (List ℕ) → Option (List ℕ) → Option (List ℕ) → Result Kinds ChangesFault → Type 0
EndsChanges options selection first second old new (Ok kinds) = WritesChanges options selection first second old new kinds
EndsChanges options selection first second old new (Err fault) = EndsChangesBy options selection first second old new fault

-- with its report, or by a fault of the inputs
abbrev pub AreUndisturbed : Result Kinds ChangesFault → Type 0
AreUndisturbed (Ok kinds) = ⊤
AreUndisturbed (Err fault) = IsOfWorlds fault

-- two such runs on the same inputs end alike, and leave the same bytes in writers that held the same
abbrev pub OneChangesEnd : Type 0
OneChangesEnd =
    (options other : ChangesOptions) (selection : SelectionValue) (first second held new new' : List ℕ) (result result' : Result Kinds ChangesFault)
    → AskTheSameChanges options other → AreUndisturbed result → AreUndisturbed result'
    → EndsChanges options selection (Some first) (Some second) (Some held) (Some new) result
    → EndsChanges other selection (Some first) (Some second) (Some held) (Some new') result' → (result ≡ result') × (new ≡ new')

-- what a run left when the writer failed is a beginning of what another one wrote
abbrev pub OneChangesBeginning : Type 0
OneChangesBeginning =
    (options other : ChangesOptions) (selection : SelectionValue) (first second held new new' : List ℕ) (kinds : Kinds)
    → AskTheSameChanges options other → WritesChanges options selection (Some first) (Some second) (Some held) (Some new) kinds
    → BeginsChanges other selection (Some first) (Some second) (Some held) (Some new') → (rest : List ℕ) × (new ≡ new' ++ rest)
