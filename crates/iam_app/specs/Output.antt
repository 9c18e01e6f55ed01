-- What a run writes, and why it ends without its report. LOGIC 13.3, 13.4 and 13.5.
use Rattle.std.specs.Prelude.{◌≡◌, ◌≢◌, ◌⊎◌, ℕ, ◌≤◌, Bool, List, ◌++◌, Option, Some, None, if◌then◌else◌, length, max, ⊤, codes, decimal}
use Rattle.std.specs.Int.{div_ceil}
use Rattle.iam_layers.specs.Cell.{IsCell, IsVerdictAt}
use Rattle.iam_world.specs.Reads.{IsWorld}
use Rattle.iam_world.specs.World.{WorldValue, world_cells, world_statements}
use Rattle.iam_world.specs.WorldFault.{IsFirstWorldFault}
use Rattle.iam_decision.specs.declared.verdict.Verdict.{Verdict}
use Rattle.iam_world.specs.declared.fault.WorldFault.TheVariants as w
use Rattle.iam_row.specs.CsvRow.{IsCsvRow}
use Rattle.iam_row.specs.Report.{full_layout}
use Rattle.iam_row.specs.declared.quoted.Format.{Format}
use Rattle.iam_row.specs.declared.quoted.Format.TheVariants.{Csv, Json}
use Rattle.iam_matrix.specs.Cut.{IsEvenCut, IsEvenFault}
use Rattle.iam_matrix.specs.Workers.{IsUnlawful}
use Rattle.iam_matrix.specs.Report.{IsFirstReport, IsMatrixReport}
use Rattle.iam_matrix.specs.declared.cut.CutFault.TheVariants as c
use Rattle.iam_matrix.specs.declared.fault.MatrixFault.TheVariants as m
use Rattle.iam_report.specs.Streams.{AppendsBeginning}
use Rattle.iam_app.specs.Streams.{AllRemained, MoreRemained}
use Rattle.iam_app.specs.declared.input.InputFault.{InputFault}
use Rattle.iam_app.specs.declared.input.InputFault.TheVariants as i
use Rattle.iam_app.specs.declared.fault.RunFault.{RunFault}
use Rattle.iam_app.specs.declared.fault.RunFault.TheVariants.{Read, World, Matrix, Write, NoSuchCell, Cut, OutOfMemory}
use Rattle.iam_options.specs.declared.options.Options.{Options}
use Rattle.iam_options.specs.declared.options.Task.{Task}
use Rattle.iam_options.specs.declared.options.Task.TheVariants as t

-- the report of one cell: the header and its row, with the verdict of the written logic on that request
abbrev pub IsAnswer : WorldValue → ℕ → ℕ → ℕ → List ℕ → Type 0
IsAnswer world p a r text =
    (cell : ℕ) × IsCell world cell p a r
    × ((verdict : Verdict) × IsVerdictAt world p a r verdict × IsCsvRow full_layout world cell p a r verdict text)

-- how many there are of each
unfoldable pub counts_text : ℕ → ℕ → ℕ → ℕ → ℕ → List ℕ
counts_text principals actions resources cells statements =
    codes "ok principals " ++ (decimal principals
    ++ (codes " actions " ++ (decimal actions
    ++ (codes " resources " ++ (decimal resources
    ++ (codes " cells " ++ (decimal cells
    ++ (codes " statements " ++ (decimal statements
    ++ codes "\n")))))))))

-- JSON where it is asked for, else CSV
abbrev pub format_of : Bool → Format
format_of json = if json then Json else Csv

-- the length of a tile; where the options say nothing, at most 256 tiles of one length have all cells
abbrev pub tile_or_default : Option ℕ → ℕ → ℕ
tile_or_default None cells = max (div_ceil cells 256) 1
tile_or_default (Some tile) cells = tile

-- the tiles of this length are a cut of the world's cells
abbrev pub HasCut : Options → WorldValue → Type 0
HasCut options world = IsEvenCut (tile_or_default options.tile (world_cells world)) (world_cells world)

-- the world's cells can be worked off: they have such a cut, and the number of workers is lawful
pub record CanWork (options : Options) (world : WorldValue) : Type 0 where
  pub cut : HasCut options world
  pub workers : ¬ IsUnlawful options.workers

-- the report of a command
abbrev pub IsReportOf : Task → Options → WorldValue → List ℕ → Type 0
IsReportOf t.Check options world text =
    text ≡ counts_text (length world.principals) (length world.actions) (length world.resources) (world_cells world) (world_statements world)
IsReportOf (t.Decide p a r) options world text = IsAnswer world p a r text
IsReportOf t.Matrix options world text = CanWork options world × IsMatrixReport (format_of options.json) options.brief world text
IsReportOf t.First options world text = CanWork options world × IsFirstReport world text

-- why there is no report of all cells: they have no such cut, or they have and the number of workers is unlawful; of want of
-- memory nothing is said
abbrev pub IsCellsRefusal : Options → WorldValue → RunFault → Type 0
IsCellsRefusal options world (Cut fault) =
    fault ≢ c.OutOfMemory → IsEvenFault (tile_or_default options.tile (world_cells world)) (world_cells world) fault
IsCellsRefusal options world (Matrix fault) =
    fault ≢ m.OutOfMemory → HasCut options world × ((fault ≡ m.Workers) × IsUnlawful options.workers)
IsCellsRefusal options world fault = ⊥

-- why a command has no report: it wants memory, the world does not have the cell, or there is none of all cells
abbrev pub IsWorldRefusal : Task → Options → WorldValue → RunFault → Type 0
IsWorldRefusal t.Check options world fault = fault ≡ OutOfMemory
IsWorldRefusal (t.Decide p a r) options world fault =
    fault ≢ OutOfMemory → (fault ≡ NoSuchCell) × ((cell : ℕ) → ¬ IsCell world cell p a r)
IsWorldRefusal t.Matrix options world fault = IsCellsRefusal options world fault
IsWorldRefusal t.First options world fault = IsCellsRefusal options world fault

-- the bytes are a world, and this is the report of it that the options ask for
abbrev pub IsOutput : Options → List ℕ → List ℕ → Type 0
IsOutput options bytes text = (world : WorldValue) × IsWorld bytes world × IsReportOf options.task options world text

-- why there is no report for these bytes: their first fault, or that they are a world of which the command has none; of want of
-- memory nothing is said
abbrev pub IsRefusal : Options → List ℕ → RunFault → Type 0
IsRefusal options bytes (World fault) = fault ≢ w.OutOfMemory → IsFirstWorldFault bytes fault
IsRefusal options bytes OutOfMemory = ⊤
IsRefusal options bytes fault = (world : WorldValue) × IsWorld bytes world × IsWorldRefusal options.task options world fault

-- all input is these bytes, and P holds of their report
abbrev pub HasOutput : Options → Option (List ℕ) → (List ℕ → Type 0) → Type 0
HasOutput options input P = (bytes : List ℕ) × AllRemained input bytes × ((text : List ℕ) × IsOutput options bytes text × P text)

-- the input is too large, or all of it is these bytes, of which there is no report
abbrev pub RefusesInput : Options → Option (List ℕ) → RunFault → Type 0
RefusesInput options input fault =
    (MoreRemained input 8388608 × (fault ≡ World w.TooLarge))
    ⊎ ((bytes : List ℕ) × AllRemained input bytes × (length bytes ≤ 8388608) × IsRefusal options bytes fault)

-- how a run ends without its report: at `Write` the writer gained a beginning of it, and else nothing was written
abbrev pub EndsBy : Options → Option (List ℕ) → Option (List ℕ) → Option (List ℕ) → RunFault → Type 0
EndsBy options input old new Read = new ≡ old
EndsBy options input old new Write = HasOutput options input (AppendsBeginning old new)
EndsBy options input old new OutOfMemory = new ≡ old
EndsBy options input old new fault = (new ≡ old) × RefusesInput options input fault

-- the fault of a run whose input is not taken
abbrev pub fault_of_input : InputFault → RunFault
fault_of_input i.Read = Read
fault_of_input i.TooLarge = World w.TooLarge
fault_of_input i.OutOfMemory = OutOfMemory
