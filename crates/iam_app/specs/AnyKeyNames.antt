-- The report of a run about all names, whatever values the keys have that nothing gives. LOGIC 11.12 and 13.9.
use Rattle.std.specs.Prelude.{ℕ, List}
use Rattle.std.specs.List.{AllZip}
use Rattle.iam_every.specs.Every.{EveryValue}
use Rattle.iam_open.specs.declared.asked.Word.{Word}
use Rattle.iam_open_every.specs.Report.{IsOpenEveryReport, IsTooLong, TellsRows, TellsUnshown}
use Rattle.iam_options.specs.declared.every.EveryCommand.{EveryCommand}
use Rattle.iam_app.specs.AnyKey.{MeansWord}
use Rattle.iam_app.specs.Output.{format_of}
use Rattle.iam_app.specs.declared.every.Told.{Told}

-- the report of these principals whatever values the keys have, and what is told beside it
pub record IsAnyKeyNames (command : EveryCommand) (every : EveryValue) (principals : List ℕ) (text : List ℕ) (told : Told) : Type 0 where
  pub words : List Word
  pub meant : AllZip MeansWord command.decisions.items words
  pub report : IsOpenEveryReport (format_of command.options.json) command.options.brief every principals words text
  pub some : TellsRows command.options.brief every principals told.some
  pub unshown : TellsUnshown command.options.brief every principals told.unshown

-- there is none since it would be too long
abbrev pub IsLongAnyKey : EveryCommand → EveryValue → List ℕ → Type 0
IsLongAnyKey command every principals =
    (words : List Word) × AllZip MeansWord command.decisions.items words × IsTooLong command.options.brief every principals words
