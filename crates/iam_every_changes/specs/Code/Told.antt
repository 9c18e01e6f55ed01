-- What is told of principals, as it is kept.
use Rattle.std.specs.Prelude.{◌<◌, [], ◌∷◌, ℕ, Bool, None, List, Option, length, map}
use Rattle.std.specs.List.{flat_map, list_any}
use Rattle.iam_row.specs.declared.changes.Change.{Change}
use Rattle.iam_every_changes.specs.Changes.{changed_of}
use Rattle.iam_every_changes.specs.Compared.{AreComparable, ComparedValue, WhoValue, both_at, compared_of, who_of}
use Rattle.iam_every_changes.specs.Made.{AreEveryChanges}
use Rattle.iam_every_changes.specs.Report.{ListedValue, change_in, row_at}
use Rattle.iam_every_changes.specs.declared.crew.Principals.{Principals}
use Rattle.iam_every_changes.specs.declared.looked.Changed.{Changed}
use Rattle.iam_every_changes.specs.declared.looked.Looked.{Looked}

-- this is told of the principal
abbrev pub IsLookedAt : ComparedValue → WhoValue → Looked → Type 0
IsLookedAt compared who looked = AreEveryChanges (both_at compared who) (map changed_of looked.rows.items) looked.some

-- a principal that neither world has
abbrev pub nobody : WhoValue
nobody = record { text = []; before = None; after = None }

-- this one of the principals may be worked: all can be compared
pub record IsTile (crew : Principals) (tile : ℕ) : Type 0 where
  pub inside : tile < length crew.whos.now
  pub comparable : AreComparable (compared_of crew.compared) (map who_of crew.whos.now)

-- the rows with the text of their principal
abbrev pub listed_at : WhoValue → Looked → ListedValue
listed_at who looked = record { rows = map (row_at who.text) (map changed_of looked.rows.items); some = looked.some }

-- those of each
abbrev pub lists_of : List WhoValue → List Looked → List ListedValue
lists_of [] all = []
lists_of (who ∷ whos) [] = []
lists_of (who ∷ whos) (looked ∷ all) = listed_at who looked ∷ lists_of whos all

-- the rows of all, as they are kept
abbrev pub kept_in : List Looked → List Changed
kept_in all = flat_map (λ looked. looked.rows.items) all

-- one of the rows is so
abbrev pub has_kept : (Option Change → Bool) → Looked → Bool
has_kept is looked = list_any (λ row. is (change_in row.verdicts)) looked.rows.items
