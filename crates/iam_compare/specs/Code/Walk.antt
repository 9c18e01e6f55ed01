-- What the workers make of a tile, and of tiles that follow one another. The cells of BEFORE are counted behind those of AFTER.
use Rattle.std.specs.Prelude.{◌≡◌, ◌⊎◌, ℕ, ◌+◌, ◌<◌, ◌≤◌, List, [], ◌∷◌, ◌++◌, MatchOption, Option, Some, None, Bool, length, map, sum}
use Rattle.iam_decision.specs.declared.verdict.Verdict.{Verdict}
use Rattle.iam_matrix.specs.Engine.{EngineValue}
use Rattle.iam_world.specs.World.{WorldValue, world_cells}
use Rattle.iam_row.specs.Report.{CellTexts, IsCellTexts}
use Rattle.iam_row.specs.declared.changes.Change.{Change}
use Rattle.iam_row.specs.declared.quoted.Format.{Format}
use Rattle.iam_row.specs.declared.tail.Tail.{Tail}
use Rattle.iam_matrix.specs.Matrix.{AreEntriesFrom}
use Rattle.iam_matrix.specs.Code.Tiles.{Chain}
use Rattle.iam_changes.specs.Lists.{somes}
use Rattle.iam_changes.specs.Requests.{Has}
use Rattle.iam_changes.specs.Code.Found.{RequestsValue, reach}
use Rattle.iam_changes.specs.Change.{AskedValue, ChangeValue, Changes, IsRow, SaidValue, verdict_of}
use Rattle.iam_changes.specs.Code.Kept.{GatheredValue, no_kinds, pair_in, pair_of, part_row, with_kind}
use Rattle.iam_changes.specs.Code.Pieces.{PartValue}
use Rattle.iam_changes.specs.declared.change.Kinds.{Kinds}
use Rattle.iam_changes.specs.declared.pair.Pair.{Pair}
use Rattle.iam_compare.specs.declared.walk.Workers.{Workers}

-- ---- who works

-- how many cells both worlds have
abbrev pub all_cells : RequestsValue → ℕ
all_cells requests = world_cells requests.after + world_cells requests.before

-- so many cells stand before request n
abbrev pub reached : RequestsValue → ℕ → ℕ
reached requests n = reach (world_cells requests.after) (world_cells requests.before) requests.count n

-- what a crew is asked
abbrev pub asked_of : Workers → AskedValue
asked_of crew = record { selection = crew.pick_after.now.selection; all = crew.asked.all }

-- its parts are of the same worlds, and of one selection
pub record IsCrew (crew : Workers) : Type 0 where
  pub survey_before : crew.before.now ≡ crew.requests.now.before
  pub survey_after : crew.after.now ≡ crew.requests.now.after
  pub picker_before : crew.pick_before.now ≡ record { world = crew.requests.now.before; selection = crew.pick_after.now.selection }
  pub picker_after : crew.pick_after.now.world ≡ crew.requests.now.after

-- engines are of the worlds of its surveys
abbrev pub AreToolsOf : Workers → EngineValue → EngineValue → Type 0
AreToolsOf crew before after = (before.world ≡ crew.before.now) × (after.world ≡ crew.after.now)

-- the same of engines in a list
abbrev pub AreEnginesOf : Workers → List EngineValue → Type 0
AreEnginesOf crew engines = (before after : EngineValue) × (engines ≡ before ∷ after ∷ []) × AreToolsOf crew before after

-- its cut is one of the requests, and has this tile
abbrev pub IsTileOf : Workers → ℕ → Type 0
IsTileOf crew tile = IsCrew crew × (sum crew.cut.now ≡ crew.requests.now.count) × (tile < length crew.cut.now)

-- ---- rows

-- the row of a request of BEFORE, where AFTER does not have it; one that AFTER has too has its row there
abbrev pub IsLeftRow : AskedValue → WorldValue → WorldValue → CellTexts → Option ChangeValue → Type 0
IsLeftRow asked before after texts None = Has after texts ⊎ IsRow asked before after texts None
IsLeftRow asked before after texts (Some change) = ¬ Has after texts × IsRow asked before after texts (Some change)

-- the row of a cell of AFTER, or of one of BEFORE
abbrev pub IsRowAt : AskedValue → RequestsValue → ℕ → Option ChangeValue → Type 0
IsRowAt asked requests cell row =
    (texts : CellTexts)
    × ((IsCellTexts requests.after cell texts × IsRow asked requests.before requests.after texts row)
    ⊎ ((own : ℕ) × (cell ≡ world_cells requests.after + own) × IsCellTexts requests.before own texts
    × IsLeftRow asked requests.before requests.after texts row))

-- rows with their cells, which are counted from this one on
abbrev pub numbered : ℕ → List (Option ChangeValue) → List (ℕ × ChangeValue)
numbered from [] = []
numbered from (None ∷ rows) = numbered (from + 1) rows
numbered from (Some change ∷ rows) = (from, change) ∷ numbered (from + 1) rows

-- a row as it is gathered, and as it stands in a part
abbrev pub kept_row : Bool → ℕ × ChangeValue → ℕ × Pair
kept_row brief row = (row.0, pair_in brief row.1)

abbrev pub tail_row : Format → Bool → ℕ × ChangeValue → ℕ × Tail
tail_row format brief row = part_row format brief (kept_row brief row)

-- kinds, and those of changes
abbrev pub kinds_with : Kinds → List ChangeValue → Kinds
kinds_with kinds [] = kinds
kinds_with kinds (change ∷ changes) = kinds_with (with_kind kinds change.change) changes

-- ---- what is made

-- a row put behind others
abbrev pub with_row : Bool → ℕ → Option Verdict → Option Verdict → Change → GatheredValue → GatheredValue
with_row brief cell before after change gathered =
    record { rows = gathered.rows ++ (cell, pair_of brief before after) ∷ []; end = cell + 1; kinds = with_kind gathered.kinds change }

-- the row of a change was put, where there is one
abbrev pub AddsRow : Bool → ℕ → Option Verdict → Option Verdict → Option Change → GatheredValue → GatheredValue → Type 0
AddsRow brief cell before after None old new = new ≡ old
AddsRow brief cell before after (Some change) old new = new ≡ with_row brief cell before after change old

-- the row of what is said of a request was put, where it is a change; or none was
abbrev pub AddsSaid : Bool → Bool → ℕ → Option SaidValue → Option SaidValue → GatheredValue → GatheredValue → Type 0
AddsSaid all brief cell before after old new =
    (change : Option Change) × MatchOption change ((change : Change) → ¬ Changes all before after change) (Changes all before after)
    × AddsRow brief cell (verdict_of before) (verdict_of after) change old new

-- the rows of cells from one up to another were put behind others
pub record Gathers (asked : AskedValue) (requests : RequestsValue) (brief : Bool) (from to : ℕ) (old new : GatheredValue) : Type 0 where
  pub entries : List (Option ChangeValue)
  pub count : from + length entries ≡ to
  pub each : AreEntriesFrom (IsRowAt asked requests) from entries
  pub rows_are : new.rows ≡ old.rows ++ map (kept_row brief) (numbered from entries)
  pub kinds_are : new.kinds ≡ kinds_with old.kinds (somes entries)
  pub end_is : new.end ≤ to

-- a part has the rows of cells from one up to another
pub record IsPartOf (asked : AskedValue) (requests : RequestsValue) (format : Format) (brief : Bool) (from to : ℕ) (part : PartValue) : Type 0 where
  pub entries : List (Option ChangeValue)
  pub count : from + length entries ≡ to
  pub each : AreEntriesFrom (IsRowAt asked requests) from entries
  pub rows_are : part.rows ≡ map (tail_row format brief) (numbered from entries)
  pub kinds_are : part.kinds ≡ kinds_with no_kinds (somes entries)

-- parts of the tiles of a cut of the requests
abbrev pub AreParts : AskedValue → RequestsValue → Format → Bool → List ℕ → List PartValue → Type 0
AreParts asked requests format brief lengths parts =
    Chain (λ from n part. IsPartOf asked requests format brief (reached requests from) (reached requests (from + n)) part) 0 lengths parts
