-- The requests of a world among those of another, and how the cells of two worlds are dealt out.
use Rattle.std.specs.Prelude.{◌≡◌, ℕ, ◌+◌, ◌-◌, ◌*◌, ◌/◌, ◌≤◌, List, Option, Some, None, Bool, Contains, IsTrue, if◌then◌else◌, length, nat_lt}
use Rattle.std.specs.List.{AllZip, slice_get}
use Rattle.iam_world.specs.World.{WorldValue, world_cells}
use Rattle.iam_row.specs.Report.{CellTexts}
use Rattle.iam_changes.specs.Requests.{AreOfCells, IsCount, IsUnlessHad}
use Rattle.iam_changes.specs.Lists.{somes}
use Rattle.iam_changes.specs.Twice.{axis_texts}
use Rattle.iam_changes.specs.declared.twice.Axis.TheVariants.{Principals, Actions, Resources}

-- the place of a text among others, or that it is none of them
abbrev pub IsNumberIn : List (List ℕ) → List ℕ → Option ℕ → Type 0
IsNumberIn others text None = ¬ Contains others text
IsNumberIn others text (Some number) = slice_get others number ≡ Some text

-- what a finder knows
pub record FinderValue : Type 0 where
  pub world : WorldValue
  pub other : WorldValue

-- the places in another world of a world's principals, actions and resources, and what may be true only where it has all resources,
-- and where it has all
pub record AreFoundIn (world other : WorldValue) (principals actions resources : List (Option ℕ)) (has_resources has_all : Bool) : Type 0 where
  pub of_principals : AllZip (IsNumberIn (axis_texts Principals other)) (axis_texts Principals world) principals
  pub of_actions : AllZip (IsNumberIn (axis_texts Actions other)) (axis_texts Actions world) actions
  pub of_resources : AllZip (IsNumberIn (axis_texts Resources other)) (axis_texts Resources world) resources
  pub resources_are : IsTrue has_resources → (r : ℕ) → ¬ (slice_get resources r ≡ Some None)
  pub all_are : IsTrue has_all → IsTrue has_resources × ((p : ℕ) → ¬ (slice_get principals p ≡ Some None)) × ((a : ℕ) → ¬ (slice_get actions a ≡ Some None))

-- so many requests of a world are none of another
abbrev pub IsLeftCount : WorldValue → WorldValue → ℕ → Type 0
IsLeftCount world other count =
    (lasts : List (Option CellTexts)) × AreOfCells world (IsUnlessHad other) lasts × (count ≡ length (somes lasts))

-- the requests of two worlds
pub record RequestsValue : Type 0 where
  pub before : WorldValue
  pub after : WorldValue
  pub count : ℕ

-- finders of each of two worlds in the other, and how many requests these have
pub record AreLinked (before after : WorldValue) (count : ℕ) (to_before to_after : FinderValue) : Type 0 where
  pub back : to_before ≡ record { world = after; other = before }
  pub forth : to_after ≡ record { world = before; other = after }
  pub count_is : IsCount before after count
  pub most : count ≤ world_cells after + world_cells before
  pub least : world_cells after ≤ count

-- how many of so many first cells, and of so many last ones behind them, stand before a request, of which there are so many: the last
-- ones are dealt out evenly among the requests behind the first ones
abbrev pub reach : ℕ → ℕ → ℕ → ℕ → ℕ
reach first last count n =
    if nat_lt n count then (if nat_lt first n then first + (n - first) * last / (count - first) else n) else first + last
