-- The requests of two worlds. A request is known by its texts: those of the principal, the action and the resource. LOGIC 13.7.
use Rattle.std.specs.Prelude.{◌≡◌, ℕ, List, ◌++◌, Option, Some, None, length}
use Rattle.iam_world.specs.World.{WorldValue, world_cells}
use Rattle.iam_row.specs.Report.{AreEntriesFrom, CellTexts, IsCellTexts}
use Rattle.iam_changes.specs.Lists.{somes}

-- the world has the request with these texts
abbrev pub Has : WorldValue → CellTexts → Type 0
Has world texts = (cell : ℕ) × IsCellTexts world cell texts

-- one entry for each cell of a world, in order, as it has to be for the texts of its request
pub record AreOfCells {X : Type 0} (world : WorldValue) (Is : CellTexts → X → Type 0) (entries : List X) : Type 0 where
  pub count : length entries ≡ world_cells world
  pub each : AreEntriesFrom (λ cell entry. (texts : CellTexts) × IsCellTexts world cell texts × Is texts entry) 0 entries

-- the request, unless the world has it
abbrev pub IsUnlessHad : WorldValue → CellTexts → Option CellTexts → Type 0
IsUnlessHad world texts None = Has world texts
IsUnlessHad world texts (Some request) = (request ≡ texts) × ¬ Has world texts

-- the requests of two worlds: those of AFTER, then those that BEFORE alone has, each in the order of its world's cells
abbrev pub AreRequests : WorldValue → WorldValue → List CellTexts → Type 0
AreRequests before after requests =
    (firsts : List CellTexts) × (lasts : List (Option CellTexts)) × AreOfCells after (λ texts request. request ≡ texts) firsts
    × AreOfCells before (IsUnlessHad after) lasts × (requests ≡ firsts ++ somes lasts)

-- how many they are: so many cells are cut into tiles
abbrev pub IsCount : WorldValue → WorldValue → ℕ → Type 0
IsCount before after count = (requests : List CellTexts) × AreRequests before after requests × (count ≡ length requests)
