-- What the runs of `matrix --any-key` and `first --any-key` write, and why they end without their report. LOGIC 13.4 and 13.11.
use Rattle.std.specs.Prelude.{◌≡◌, ◌≢◌, ◌⊎◌, ◌↔◌, ℕ, Bool, IsTrue, List, [], MatchBool, Option, String, string_bytes}
use Rattle.std.specs.Global.{Global}
use Rattle.std.specs.List.{AllZip}
use Rattle.iam_world.specs.World.{WorldValue}
use Rattle.iam_matrix.specs.Workers.{IsUnlawful}
use Rattle.iam_matrix.specs.declared.fault.MatrixFault.TheVariants as m
use Rattle.iam_open.specs.Asked.{AskedValue}
use Rattle.iam_open.specs.First.{IsFirstTurnedReport}
use Rattle.iam_open.specs.Report.{IsTurnedReport}
use Rattle.iam_open.specs.Rows.{word_text}
use Rattle.iam_open.specs.declared.asked.Word.{Word}
use Rattle.iam_open.specs.declared.asked.Word.TheVariants.{Open}
use Rattle.iam_options.specs.declared.any_key.AnyKeyCommand.{AnyKeyCommand}
use Rattle.iam_options.specs.declared.command.Asked.{Asked}
use Rattle.iam_report.specs.Streams.{AppendsBeginning}
use Rattle.iam_selection.specs.Selection.{SelectionValue, SelectsSome}
use Rattle.iam_app.specs.Ask.{HasWorld}
use Rattle.iam_app.specs.Changes.{IsNoWorld}
use Rattle.iam_app.specs.Command.{AsksNothing}
use Rattle.iam_app.specs.Output.{format_of}
use Rattle.iam_app.specs.Selected.{patterns_in}
use Rattle.iam_app.specs.declared.fault.RunFault.{RunFault}
use Rattle.iam_app.specs.declared.fault.RunFault.TheVariants.{Read, World, Matrix, Write, NoSuchCell, Cut, OutOfMemory}

-- a text that is a word for what is said means it, and one that is none means what is not known
abbrev pub MeansWord : String Global → Word → Type 0
MeansWord text word =
    ((said : Word) → string_bytes text ≡ word_text said → word ≡ said) × (((said : Word) → string_bytes text ≢ word_text said) → word ≡ Open)

-- the requests that the words of a command line select
abbrev pub selected_by : Asked → SelectionValue
selected_by asked = record {
  principals = patterns_in asked.principals.items;
  actions = patterns_in asked.actions.items;
  resources = patterns_in asked.resources.items;
  decisions = [];
}

-- these requests are asked for, and these words
abbrev pub asked_by : Asked → List Word → AskedValue
asked_by asked words = record { selection = selected_by asked; words = words }

-- the report of the first request, or of all
abbrev pub IsAnyKeyReport : AnyKeyCommand → AskedValue → WorldValue → List ℕ → Type 0
IsAnyKeyReport command asked world text =
    MatchBool command.is_first (IsFirstTurnedReport asked world text)
    (IsTurnedReport (format_of command.options.json) command.options.brief asked world text)

-- the report that the command asks for, of this world: the number of workers is lawful
pub record IsTurnedOf (command : AnyKeyCommand) (world : WorldValue) (text : List ℕ) : Type 0 where
  pub workers : ¬ IsUnlawful command.options.workers
  pub words : List Word
  pub meant : AllZip MeansWord command.asked.decisions.items words
  pub report : IsAnyKeyReport command (asked_by command.asked words) world text

-- some request is asked about: nothing is said, and all that there are are meant; or one is selected
abbrev pub AsksAbout : Asked → WorldValue → Type 0
AsksAbout asked world = AsksNothing asked ⊎ SelectsSome (selected_by asked) world

-- the input is a world, P holds of its report, and it is told whether some request is asked about
abbrev pub HasTurned : AnyKeyCommand → Option (List ℕ) → (List ℕ → Type 0) → Bool → Type 0
HasTurned command input P some =
    (world : WorldValue) × HasWorld input world × ((text : List ℕ) × IsTurnedOf command world text × P text)
    × (IsTrue some ↔ AsksAbout command.asked world)

-- how a run ends without its report: after every fault but `Write` nothing was written
abbrev pub EndsTurnedBy : AnyKeyCommand → Option (List ℕ) → Option (List ℕ) → Option (List ℕ) → RunFault → Type 0
EndsTurnedBy command input old new Read = new ≡ old
EndsTurnedBy command input old new (World fault) = (new ≡ old) × IsNoWorld input fault
EndsTurnedBy command input old new (Matrix fault) =
    (new ≡ old) × (fault ≡ m.Workers) × IsUnlawful command.options.workers × ((world : WorldValue) × HasWorld input world)
EndsTurnedBy command input old new Write = (some : Bool) × HasTurned command input (AppendsBeginning old new) some
EndsTurnedBy command input old new NoSuchCell = ⊥
EndsTurnedBy command input old new (Cut fault) = ⊥
EndsTurnedBy command input old new OutOfMemory = new ≡ old
