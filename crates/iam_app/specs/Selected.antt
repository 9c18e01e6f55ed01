-- What a run with a selection writes, and why it ends without its report: as a run without one, but for what is asked of
-- the report. LOGIC 13.4 and 13.6.
use Rattle.std.specs.Prelude.{◌≡◌, ◌↔◌, ℕ, Bool, IsTrue, List, Option, String, ⊤, map, string_bytes}
use Rattle.std.specs.Global.{Global}
use Rattle.std.specs.List.{AllZip}
use Rattle.iam_glob.specs.declared.sign.Sign.{Sign}
use Rattle.iam_decision.specs.declared.verdict.Decision.{Decision}
use Rattle.iam_world.specs.Reads.{IsWorld}
use Rattle.iam_world.specs.World.{WorldValue}
use Rattle.iam_report.specs.Streams.{AppendsBeginning}
use Rattle.iam_selection.specs.Report.{IsFirstSelectedReport, IsSelectedReport}
use Rattle.iam_selection.specs.Selection.{SelectionValue, SelectsSome, pattern_of}
use Rattle.iam_row.specs.Words.{decision_word}
use Rattle.iam_options.specs.declared.command.Asked.{Asked}
use Rattle.iam_options.specs.declared.options.Options.{Options}
use Rattle.iam_options.specs.declared.options.Task.{Task}
use Rattle.iam_options.specs.declared.options.Task.TheVariants as t
use Rattle.iam_app.specs.Output.{CanWork, EndsBy, IsReportOf, format_of}
use Rattle.iam_app.specs.Streams.{AllRemained}
use Rattle.iam_app.specs.declared.fault.RunFault.{RunFault}
use Rattle.iam_app.specs.declared.fault.RunFault.TheVariants.{Write}

-- the patterns that words are
abbrev pub patterns_in : List (String Global) → List (List Sign)
patterns_in words = map (λ word. pattern_of (string_bytes word)) words

-- a word that is the one of a decision means it
abbrev pub Means : String Global → Decision → Type 0
Means word decision = (said : Decision) → string_bytes word ≡ decision_word said → decision ≡ said

-- what the words of a command line ask for
pub record IsSelectionOf (asked : Asked) (selection : SelectionValue) : Type 0 where
  pub principals : selection.principals ≡ patterns_in asked.principals.items
  pub actions : selection.actions ≡ patterns_in asked.actions.items
  pub resources : selection.resources ≡ patterns_in asked.resources.items
  pub decisions : AllZip Means asked.decisions.items selection.decisions

-- the report of a command with a selection; the commands that are not about all cells have it as they always have
abbrev pub IsSelectedOf : Task → Options → SelectionValue → WorldValue → List ℕ → Type 0
IsSelectedOf t.Check options selection world text = IsReportOf t.Check options world text
IsSelectedOf (t.Decide p a r) options selection world text = IsReportOf (t.Decide p a r) options world text
IsSelectedOf t.Matrix options selection world text =
    CanWork options world × IsSelectedReport (format_of options.json) options.brief selection world text
IsSelectedOf t.First options selection world text = CanWork options world × IsFirstSelectedReport selection world text

-- the bytes are a world, and this is what is asked of it
abbrev pub IsSelectedOutput : Options → SelectionValue → List ℕ → List ℕ → Type 0
IsSelectedOutput options selection bytes text =
    (world : WorldValue) × IsWorld bytes world × IsSelectedOf options.task options selection world text

-- all input is these bytes, and P holds of what is asked of them
abbrev pub HasSelectedOutput : Options → SelectionValue → Option (List ℕ) → (List ℕ → Type 0) → Type 0
HasSelectedOutput options selection input P =
    (bytes : List ℕ) × AllRemained input bytes × ((text : List ℕ) × IsSelectedOutput options selection bytes text × P text)

-- how a run ends without its report: by the faults of a run without a selection
abbrev pub EndsSelectedBy : Options → SelectionValue → Option (List ℕ) → Option (List ℕ) → Option (List ℕ) → RunFault → Type 0
EndsSelectedBy options selection input old new Write = HasSelectedOutput options selection input (AppendsBeginning old new)
EndsSelectedBy options selection input old new fault = EndsBy options input old new fault

-- some request is asked about: a command about all cells asks about those that are selected, another about what it names
abbrev pub AsksSome : Task → SelectionValue → WorldValue → Type 0
AsksSome t.Check selection world = ⊤
AsksSome (t.Decide p a r) selection world = ⊤
AsksSome t.Matrix selection world = SelectsSome selection world
AsksSome t.First selection world = SelectsSome selection world

-- the bytes are a world, this is what is asked of it, and whether some request was asked about
abbrev pub IsToldOutput : Options → SelectionValue → List ℕ → List ℕ → Bool → Type 0
IsToldOutput options selection bytes text some =
    (world : WorldValue) × IsWorld bytes world × IsSelectedOf options.task options selection world text
    × (IsTrue some ↔ AsksSome options.task selection world)

-- all input is these bytes, P holds of what is asked of them, and it is told whether some request was asked about
abbrev pub HasToldOutput : Options → SelectionValue → Option (List ℕ) → (List ℕ → Type 0) → Bool → Type 0
HasToldOutput options selection input P some =
    (bytes : List ℕ) × AllRemained input bytes × ((text : List ℕ) × IsToldOutput options selection bytes text some × P text)
