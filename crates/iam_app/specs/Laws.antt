-- That what a run writes hangs on its input and on what the options ask for alone: not on how many workers there are, nor on
-- how the cells are cut into tiles. LOGIC 13.5.
use Rattle.std.specs.Prelude.{◌≡◌, ◌≢◌, ◌⊎◌, ℕ, List, ◌++◌, Option, Some, Result, Ok, Err, ⊤}
use Rattle.std.specs.Io.KnownBytes.{Appends}
use Rattle.iam_options.specs.declared.options.Options.{Options}
use Rattle.iam_report.specs.Streams.{AppendsBeginning}
use Rattle.iam_world.specs.declared.fault.WorldFault.{WorldFault}
use Rattle.iam_world.specs.declared.fault.WorldFault.TheVariants as w
use Rattle.iam_selection.specs.Selection.{SelectionValue}
use Rattle.iam_app.specs.Output.{EndsBy, HasOutput, IsOutput}
use Rattle.iam_app.specs.Selected.{EndsSelectedBy, HasSelectedOutput, IsSelectedOutput}
use Rattle.iam_app.specs.declared.fault.RunFault.{RunFault}
use Rattle.iam_app.specs.declared.fault.RunFault.TheVariants.{World, NoSuchCell}

-- the options differ at most in the length of a tile and in the number of workers
abbrev pub AskTheSame : Options → Options → Type 0
AskTheSame options other = other ≡ record options { tile = other.tile; workers = other.workers }

-- bytes have one report
abbrev pub OneOutput : Type 0
OneOutput =
    (options other : Options) (bytes text text' : List ℕ) → AskTheSame options other
    → IsOutput options bytes text → IsOutput other bytes text' → text ≡ text'

-- bytes have one report of what a selection asks for
abbrev pub OneSelectedOutput : Type 0
OneSelectedOutput =
    (options other : Options) (selection : SelectionValue) (bytes text text' : List ℕ) → AskTheSame options other
    → IsSelectedOutput options selection bytes text → IsSelectedOutput other selection bytes text' → text ≡ text'

-- a fault of the input: of its world, or that it has no such cell; no stream, no want of memory, no tile and no number of
-- workers brings it about
abbrev pub IsOfInput : RunFault → Type 0
IsOfInput fault = ((of_world : WorldFault) × (of_world ≢ w.OutOfMemory) × (fault ≡ World of_world)) ⊎ (fault ≡ NoSuchCell)

-- how a run ends, with its report or by a fault: what its contract says
abbrev pub Ends : Options → Option (List ℕ) → Option (List ℕ) → Option (List ℕ) → Result (Unit {0}) RunFault → Type 0
Ends options input old new (Ok done) = HasOutput options input (Appends old new)
Ends options input old new (Err fault) = EndsBy options input old new fault

-- with its report, or by a fault of the input
abbrev pub IsUndisturbed : Result (Unit {0}) RunFault → Type 0
IsUndisturbed (Ok done) = ⊤
IsUndisturbed (Err fault) = IsOfInput fault

-- two such runs on one input end alike, and leave the same bytes in writers that held the same
abbrev pub OneEnd : Type 0
OneEnd =
    (options other : Options) (input held new new' : List ℕ) (result result' : Result (Unit {0}) RunFault) → AskTheSame options other
    → IsUndisturbed result → IsUndisturbed result'
    → Ends options (Some input) (Some held) (Some new) result → Ends other (Some input) (Some held) (Some new') result'
    → (result ≡ result') × (new ≡ new')

-- what a run left when the writer failed is a beginning of what another one wrote
abbrev pub OneBeginning : Type 0
OneBeginning =
    (options other : Options) (input held new new' : List ℕ) → AskTheSame options other
    → HasOutput options (Some input) (Appends (Some held) (Some new))
    → HasOutput other (Some input) (AppendsBeginning (Some held) (Some new'))
    → (rest : List ℕ) × (new ≡ new' ++ rest)

-- how a run with a selection ends: what its contract says
abbrev pub EndsSelected : Options → SelectionValue → Option (List ℕ) → Option (List ℕ) → Option (List ℕ)
    → Result (Unit {0}) RunFault → Type 0
EndsSelected options selection input old new (Ok done) = HasSelectedOutput options selection input (Appends old new)
EndsSelected options selection input old new (Err fault) = EndsSelectedBy options selection input old new fault

-- two such runs with one selection end alike, and leave the same bytes
abbrev pub OneSelectedEnd : Type 0
OneSelectedEnd =
    (options other : Options) (selection : SelectionValue) (input held new new' : List ℕ) (result result' : Result (Unit {0}) RunFault)
    → AskTheSame options other → IsUndisturbed result → IsUndisturbed result'
    → EndsSelected options selection (Some input) (Some held) (Some new) result
    → EndsSelected other selection (Some input) (Some held) (Some new') result'
    → (result ≡ result') × (new ≡ new')

-- and what one of them left when the writer failed is a beginning of what another one wrote
abbrev pub OneSelectedBeginning : Type 0
OneSelectedBeginning =
    (options other : Options) (selection : SelectionValue) (input held new new' : List ℕ) → AskTheSame options other
    → HasSelectedOutput options selection (Some input) (Appends (Some held) (Some new))
    → HasSelectedOutput other selection (Some input) (AppendsBeginning (Some held) (Some new'))
    → (rest : List ℕ) × (new ≡ new' ++ rest)
