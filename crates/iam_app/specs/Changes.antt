-- What a run of two worlds writes, and why it ends without its report. LOGIC 13.7.
use Rattle.std.specs.Prelude.{◌≡◌, ◌≢◌, ◌⊎◌, ◌↔◌, ◌≤◌, ℕ, IsTrue, List, Option, ⊤, length}
use Rattle.std.specs.Io.KnownBytes.{Appends}
use Rattle.iam_world.specs.Reads.{IsWorld}
use Rattle.iam_world.specs.World.{WorldValue}
use Rattle.iam_world.specs.WorldFault.{IsFirstWorldFault}
use Rattle.iam_world.specs.declared.fault.WorldFault.{WorldFault}
use Rattle.iam_world.specs.declared.fault.WorldFault.TheVariants as w
use Rattle.iam_report.specs.Streams.{AppendsBeginning}
use Rattle.iam_matrix.specs.Cut.{IsEvenCut, IsEvenFault}
use Rattle.iam_matrix.specs.Workers.{IsUnlawful}
use Rattle.iam_matrix.specs.declared.cut.CutFault.{CutFault}
use Rattle.iam_matrix.specs.declared.cut.CutFault.TheVariants as c
use Rattle.iam_matrix.specs.declared.fault.MatrixFault.TheVariants as m
use Rattle.iam_selection.specs.Selection.{SelectionValue, SelectsSome}
use Rattle.iam_changes.specs.Requests.{IsCount}
use Rattle.iam_changes.specs.Report.{IsChangesReport}
use Rattle.iam_changes.specs.Twice.{IsApart, IsFirstTwice}
use Rattle.iam_changes.specs.declared.change.Kinds.{Kinds}
use Rattle.iam_changes.specs.declared.twice.Twice.{Twice}
use Rattle.iam_options.specs.declared.changes.ChangesOptions.{ChangesOptions}
use Rattle.iam_app.specs.Output.{format_of, tile_or_default}
use Rattle.iam_app.specs.Streams.{AllRemained, MoreRemained}
use Rattle.iam_app.specs.declared.changes.Comparison.{Comparison}
use Rattle.iam_app.specs.declared.changes_fault.ChangesFault.{ChangesFault}
use Rattle.iam_app.specs.declared.changes_fault.ChangesFault.TheVariants as changes
use Rattle.iam_app.specs.declared.changes_fault.Side.TheVariants as side
use Rattle.iam_app.specs.declared.fault.RunFault.{RunFault}
use Rattle.iam_app.specs.declared.fault.RunFault.TheVariants as f

-- the bytes are a world whose requests can be told apart
abbrev pub IsSide : List ℕ → WorldValue → Type 0
IsSide bytes world = IsWorld bytes world × IsApart world

-- all input is such a world
abbrev pub HasSide : Option (List ℕ) → WorldValue → Type 0
HasSide input world = (bytes : List ℕ) × AllRemained input bytes × IsSide bytes world

-- it is no world, for this fault; of want of memory nothing is said
abbrev pub IsNoWorld : Option (List ℕ) → WorldFault → Type 0
IsNoWorld input fault =
    (MoreRemained input 8388608 × (fault ≡ w.TooLarge))
    ⊎ ((bytes : List ℕ) × AllRemained input bytes × (length bytes ≤ 8388608) × (fault ≢ w.OutOfMemory → IsFirstWorldFault bytes fault))

-- it is a world with a text that stands twice
abbrev pub IsTwiceIn : Option (List ℕ) → Twice → Type 0
IsTwiceIn input twice =
    (bytes : List ℕ) × (world : WorldValue) × AllRemained input bytes × IsWorld bytes world × IsFirstTwice world twice

-- the tiles of the asked length are a cut of the requests of two worlds
abbrev pub HasCutOf : ChangesOptions → WorldValue → WorldValue → Type 0
HasCutOf options before after = (count : ℕ) × IsCount before after count × IsEvenCut (tile_or_default options.tile count) count

-- they are none, for this fault
abbrev pub HasNoCutOf : ChangesOptions → WorldValue → WorldValue → CutFault → Type 0
HasNoCutOf options before after fault =
    (count : ℕ) × IsCount before after count × IsEvenFault (tile_or_default options.tile count) count fault

-- the requests of two worlds can be worked off: they have such a cut, and the number of workers is lawful
pub record CanCompare (options : ChangesOptions) (before after : WorldValue) : Type 0 where
  pub cut : HasCutOf options before after
  pub workers : ¬ IsUnlawful options.workers

-- the report that the options ask for, of two worlds, with the kinds of changes that it has
abbrev pub IsAskedChanges : ChangesOptions → SelectionValue → WorldValue → WorldValue → List ℕ → Kinds → Type 0
IsAskedChanges options selection before after text kinds =
    IsChangesReport (format_of options.json) options.brief (record { selection = selection; all = options.all }) before after text kinds

abbrev pub IsComparison : ChangesOptions → SelectionValue → WorldValue → WorldValue → List ℕ → Kinds → Type 0
IsComparison options selection before after text kinds = CanCompare options before after × IsAskedChanges options selection before after text kinds

-- there is none, for this fault
abbrev pub IsNoComparison : ChangesOptions → WorldValue → WorldValue → RunFault → Type 0
IsNoComparison options before after (f.Matrix fault) =
    fault ≢ m.OutOfMemory → HasCutOf options before after × ((fault ≡ m.Workers) × IsUnlawful options.workers)
IsNoComparison options before after (f.Cut fault) = fault ≢ c.OutOfMemory → HasNoCutOf options before after fault
IsNoComparison options before after f.OutOfMemory = ⊤
IsNoComparison options before after fault = ⊥

-- the bytes are two such worlds, and this is the report of them
abbrev pub IsChangesOutput : ChangesOptions → SelectionValue → List ℕ → List ℕ → List ℕ → Kinds → Type 0
IsChangesOutput options selection first second text kinds =
    (before : WorldValue) × (after : WorldValue) × IsSide first before × IsSide second after
    × IsComparison options selection before after text kinds

-- all of both inputs are these bytes, and the writer gained the report, or a beginning of it
abbrev pub WritesChanges : ChangesOptions → SelectionValue → Option (List ℕ) → Option (List ℕ) → Option (List ℕ) → Option (List ℕ) → Kinds → Type 0
WritesChanges options selection first second old new kinds =
    (bytes : List ℕ) × (more : List ℕ) × AllRemained first bytes × AllRemained second more
    × ((text : List ℕ) × IsChangesOutput options selection bytes more text kinds × Appends old new text)

-- some request of the two worlds is selected
abbrev pub SelectsOneOf : SelectionValue → WorldValue → WorldValue → Type 0
SelectsOneOf selection before after = SelectsSome selection before ⊎ SelectsSome selection after

-- all of both inputs are such worlds, the writer gained their report, and it is told whether some request is selected
abbrev pub TellsChanges : ChangesOptions → SelectionValue → Option (List ℕ) → Option (List ℕ) → Option (List ℕ) → Option (List ℕ) → Comparison → Type 0
TellsChanges options selection first second old new compared =
    (before : WorldValue) × (after : WorldValue) × HasSide first before × HasSide second after
    × ((text : List ℕ) × IsComparison options selection before after text compared.kinds × Appends old new text)
    × (IsTrue compared.some ↔ SelectsOneOf selection before after)

abbrev pub BeginsChanges : ChangesOptions → SelectionValue → Option (List ℕ) → Option (List ℕ) → Option (List ℕ) → Option (List ℕ) → Type 0
BeginsChanges options selection first second old new =
    (bytes : List ℕ) × (more : List ℕ) × AllRemained first bytes × AllRemained second more
    × ((text : List ℕ) × (kinds : Kinds) × IsChangesOutput options selection bytes more text kinds × AppendsBeginning old new text)

-- the first input is a world whose requests can be told apart
abbrev pub HasBefore : Option (List ℕ) → Type 0
HasBefore first = (before : WorldValue) × HasSide first before

-- both are, and there is no report of them
abbrev pub AreNotCompared : ChangesOptions → Option (List ℕ) → Option (List ℕ) → RunFault → Type 0
AreNotCompared options first second fault =
    (before : WorldValue) × (after : WorldValue) × HasSide first before × HasSide second after × IsNoComparison options before after fault

-- the fault is one of the world before
abbrev pub IsOfBefore : ChangesFault → Type 0
IsOfBefore (changes.Run fault) = ⊥
IsOfBefore (changes.Twice side.Before twice) = ⊤
IsOfBefore (changes.Twice side.After twice) = ⊥
IsOfBefore (changes.Before fault) = ⊤

-- how a run ends without its report: after every fault but `Write` nothing was written
abbrev pub EndsChangesBy : ChangesOptions → SelectionValue → Option (List ℕ) → Option (List ℕ) → Option (List ℕ) → Option (List ℕ) → ChangesFault → Type 0
EndsChangesBy options selection first second old new (changes.Run f.Read) = new ≡ old
EndsChangesBy options selection first second old new (changes.Run (f.World fault)) = (new ≡ old) × HasBefore first × IsNoWorld second fault
EndsChangesBy options selection first second old new (changes.Run (f.Matrix fault)) = (new ≡ old) × AreNotCompared options first second (f.Matrix fault)
EndsChangesBy options selection first second old new (changes.Run f.Write) = BeginsChanges options selection first second old new
EndsChangesBy options selection first second old new (changes.Run f.NoSuchCell) = ⊥
EndsChangesBy options selection first second old new (changes.Run (f.Cut fault)) = (new ≡ old) × AreNotCompared options first second (f.Cut fault)
EndsChangesBy options selection first second old new (changes.Run f.OutOfMemory) = new ≡ old
EndsChangesBy options selection first second old new (changes.Twice side.Before twice) = (new ≡ old) × IsTwiceIn first twice
EndsChangesBy options selection first second old new (changes.Twice side.After twice) = (new ≡ old) × HasBefore first × IsTwiceIn second twice
EndsChangesBy options selection first second old new (changes.Before fault) = (new ≡ old) × IsNoWorld first fault
