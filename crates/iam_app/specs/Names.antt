-- What a run about all names writes, and why it ends without its report. LOGIC 13.9.
use Rattle.std.specs.Prelude.{◌≡◌, ◌≢◌, ◌∷◌, [], ℕ, List, MatchBool, Option, String, ⊤, chars, codes, length, option_map, string_bytes, unwrap_or}
use Rattle.std.specs.Global.{Global}
use Rattle.std.specs.List.{AllZip, range_with_len}
use Rattle.iam_glob.specs.Glob.{Matches}
use Rattle.iam_glob.specs.declared.sign.Sign.{Sign}
use Rattle.iam_decision.specs.Matched.{Selects}
use Rattle.iam_decision.specs.declared.verdict.Decision.{Decision}
use Rattle.iam_world.specs.World.{WorldValue}
use Rattle.iam_layers.specs.Cell.{IsPrincipal, principal_text}
use Rattle.iam_layers.specs.declared.unnamed.Unnamed.{Unnamed}
use Rattle.iam_layers.specs.declared.unnamed.Unnamed.TheVariants.{Like, Of}
use Rattle.iam_asked.specs.File.{lines_of}
use Rattle.iam_asked.specs.TextFault.{IsFirstFaultyText, SaidOfHasFault}
use Rattle.iam_asked.specs.TextLines.{AreTextLines, IsKnown, SaidOfValue, TextLineValue, like_resource, of_account}
use Rattle.iam_asked.specs.declared.text_fault.FaultyText.{FaultyText}
use Rattle.iam_report.specs.Streams.{AppendsBeginning}
use Rattle.iam_matrix.specs.Workers.{IsUnlawful}
use Rattle.iam_matrix.specs.declared.fault.MatrixFault.{MatrixFault}
use Rattle.iam_matrix.specs.declared.fault.MatrixFault.TheVariants as m
use Rattle.iam_every.specs.Every.{EveryValue, LineValue}
use Rattle.iam_every.specs.Report.{IsEveryReport, IsTooLong, TellsRows, TellsUnshown}
use Rattle.iam_selection.specs.Selection.{IsMeant, pattern_of}
use Rattle.iam_options.specs.declared.every.EveryCommand.{EveryCommand}
use Rattle.iam_options.specs.declared.every.Texts.{Texts}
use Rattle.iam_options.specs.declared.every.Texts.TheVariants as x
use Rattle.iam_app.specs.AnyKeyNames.{IsAnyKeyNames, IsLongAnyKey}
use Rattle.iam_app.specs.Ask.{HasWorld}
use Rattle.iam_app.specs.Changes.{IsNoWorld}
use Rattle.iam_app.specs.Output.{format_of}
use Rattle.iam_app.specs.Selected.{Means, patterns_in}
use Rattle.iam_app.specs.Streams.{AllRemained, ConsumesAtMost, MoreRemained}
use Rattle.iam_app.specs.declared.every.Told.{Told}
use Rattle.iam_app.specs.declared.fault.RunFault.TheVariants as f
use Rattle.iam_app.specs.declared.names_fault.NamesFault.{NamesFault}
use Rattle.iam_app.specs.declared.names_fault.NamesFault.TheVariants as n

-- ---- what is said of texts
-- one line alone says it
abbrev pub IsOneLine : WorldValue → List ℕ → SaidOfValue → List TextLineValue → Type 0
IsOneLine world pattern said values =
    IsKnown world said × (values ≡ record { pattern = pattern; said = said } ∷ [])

-- the lines of the file, or the one of the command line
abbrev pub AreSaid : Texts → Option (List ℕ) → WorldValue → List TextLineValue → Type 0
AreSaid (x.File name) file world values = (bytes : List ℕ) × AllRemained file bytes × AreTextLines world (lines_of bytes) values
AreSaid (x.Like pattern number) file world values = IsOneLine world (string_bytes pattern) (like_resource number) values
AreSaid (x.Account pattern id) file world values = IsOneLine world (string_bytes pattern) (of_account (string_bytes id)) values

-- there are none, for this fault of a line
abbrev pub IsFaultyLine : Texts → Option (List ℕ) → WorldValue → FaultyText → Type 0
IsFaultyLine (x.File name) file world faulty = (bytes : List ℕ) × AllRemained file bytes × IsFirstFaultyText world (lines_of bytes) faulty
IsFaultyLine (x.Like pattern number) file world faulty = (faulty.line ≡ 0) × SaidOfHasFault world (like_resource number) faulty.fault
IsFaultyLine (x.Account pattern id) file world faulty =
    (faulty.line ≡ 0) × SaidOfHasFault world (of_account (string_bytes id)) faulty.fault

-- there are none since the file is too large
abbrev pub IsLongFile : Texts → Option (List ℕ) → Type 0
IsLongFile (x.File name) file = MoreRemained file 8388608
IsLongFile (x.Like pattern number) file = ⊥
IsLongFile (x.Account pattern id) file = ⊥

-- at most this much of the file is read, and nothing where the command line has the line
abbrev pub ReadsOfFile : Texts → Option (List ℕ) → Option (List ℕ) → Type 0
ReadsOfFile (x.File name) old new = ConsumesAtMost old new 8388609
ReadsOfFile (x.Like pattern number) old new = new ≡ old
ReadsOfFile (x.Account pattern id) old new = new ≡ old

-- ---- what is asked
-- all that the world says of this resource, or that they are of this account
abbrev pub IsUnnamedOf : SaidOfValue → Unnamed → Type 0
IsUnnamedOf (like_resource n) unnamed = unnamed ≡ Like n
IsUnnamedOf (of_account id) (Like r) = ⊥
IsUnnamedOf (of_account id) (Of account) = account.now ≡ id

-- the line that says this
pub record IsLineOf (value : TextLineValue) (line : LineValue) : Type 0 where
  pub text : line.text ≡ value.pattern
  pub pattern : line.pattern ≡ pattern_of value.pattern
  pub said : IsUnnamedOf value.said line.unnamed

-- what is asked of this world by these lines, and by the pattern of actions that the command has, if it has one
pub record IsAskedOf (action : Option (String Global)) (world : WorldValue) (values : List TextLineValue) (every : EveryValue) : Type 0 where
  pub world_is : every.world ≡ world
  pub lines : AllZip IsLineOf values every.lines
  pub actions : every.actions ≡ option_map (λ text. pattern_of (string_bytes text)) action
  pub written : every.written ≡ unwrap_or (option_map string_bytes action) (codes "*")

-- the principal is meant
abbrev pub IsPrincipalMeant : List (List Sign) → WorldValue → ℕ → Type 0
IsPrincipalMeant patterns world p =
    IsPrincipal world p (λ principal. IsMeant (λ pattern. Matches pattern (chars (principal_text principal))) patterns)

-- those that are, in order
abbrev pub ArePrincipalsMeant : List (List Sign) → WorldValue → List ℕ → Type 0
ArePrincipalsMeant patterns world principals =
    Selects (IsPrincipalMeant patterns world) (range_with_len 0 (length world.principals)) principals

-- ---- the report
-- the report of these principals by the keys that are given, and what is told beside it
pub record IsGivenNames (command : EveryCommand) (every : EveryValue) (principals : List ℕ) (text : List ℕ) (told : Told) : Type 0 where
  pub decisions : List Decision
  pub meant : AllZip Means command.decisions.items decisions
  pub report : IsEveryReport (format_of command.options.json) command.options.brief every principals decisions text
  pub some : TellsRows every principals told.some
  pub unshown : TellsUnshown every principals told.unshown

-- there is none since it would be too long
abbrev pub IsLongGiven : EveryCommand → EveryValue → List ℕ → Type 0
IsLongGiven command every principals =
    (decisions : List Decision) × AllZip Means command.decisions.items decisions × IsTooLong every principals decisions

-- the report that the command asks for, of this, and what is told beside it: whatever values the keys have, or by those that are given
pub record IsNamesReport (command : EveryCommand) (every : EveryValue) (text : List ℕ) (told : Told) : Type 0 where
  pub workers : ¬ IsUnlawful command.options.workers
  pub principals : List ℕ
  pub meant : ArePrincipalsMeant (patterns_in command.principals.items) every.world principals
  pub report : MatchBool command.any_key (IsAnyKeyNames command every principals text told) (IsGivenNames command every principals text told)

-- there is none since it would be too long
abbrev pub IsLongReport : EveryCommand → EveryValue → Type 0
IsLongReport command every =
    (principals : List ℕ) × ArePrincipalsMeant (patterns_in command.principals.items) every.world principals
    × MatchBool command.any_key (IsLongAnyKey command every principals) (IsLongGiven command every principals)

-- the number of workers is unlawful
abbrev pub IsNoCrew : EveryCommand → MatrixFault → Type 0
IsNoCrew command fault = fault ≢ m.OutOfMemory → (fault ≡ m.Workers) × IsUnlawful command.options.workers

-- ---- a run
-- the inputs are a world and lines, and P holds of them
abbrev pub HasLines : EveryCommand → Option (List ℕ) → Option (List ℕ) → (WorldValue → List TextLineValue → Type 0) → Type 0
HasLines command input file P =
    (world : WorldValue) × (values : List TextLineValue) × HasWorld input world × AreSaid command.texts file world values × P world values

-- P holds of what is asked by them
abbrev pub HasNames : EveryCommand → Option (List ℕ) → Option (List ℕ) → (EveryValue → Type 0) → Type 0
HasNames command input file P =
    HasLines command input file (λ world values. (every : EveryValue) × IsAskedOf command.action world values every × P every)

-- P holds of the report
abbrev pub HasNamesOutput : EveryCommand → Option (List ℕ) → Option (List ℕ) → (List ℕ → Type 0) → Told → Type 0
HasNamesOutput command input file P told =
    HasNames command input file (λ every. (text : List ℕ) × IsNamesReport command every text told × P text)

-- how a run ends without its report: after every fault but `Write` nothing was written
abbrev pub EndsNamesBy : EveryCommand → Option (List ℕ) → Option (List ℕ) → Option (List ℕ) → Option (List ℕ) → NamesFault → Type 0
EndsNamesBy command input file old new (n.Run f.Read) = new ≡ old
EndsNamesBy command input file old new (n.Run (f.World fault)) = (new ≡ old) × IsNoWorld input fault
EndsNamesBy command input file old new (n.Run (f.Matrix fault)) = (new ≡ old) × HasLines command input file (λ world values. IsNoCrew command fault)
EndsNamesBy command input file old new (n.Run f.Write) =
    (told : Told) × HasNamesOutput command input file (AppendsBeginning old new) told
EndsNamesBy command input file old new (n.Run f.NoSuchCell) = ⊥
EndsNamesBy command input file old new (n.Run (f.Cut fault)) = ⊥
EndsNamesBy command input file old new (n.Run f.OutOfMemory) = new ≡ old
EndsNamesBy command input file old new n.Kinds = (new ≡ old) × HasNames command input file (IsLongReport command)
EndsNamesBy command input file old new (n.Texts faulty) =
    (new ≡ old) × ((world : WorldValue) × HasWorld input world × IsFaultyLine command.texts file world faulty)
EndsNamesBy command input file old new n.LongTexts =
    (new ≡ old) × ((world : WorldValue) × HasWorld input world × IsLongFile command.texts file)

-- the fault is one of the world
abbrev pub IsOfNoWorld : NamesFault → Type 0
IsOfNoWorld (n.Run (f.World fault)) = ⊤
IsOfNoWorld fault = ⊥
