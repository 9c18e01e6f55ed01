-- The report of where the access of principals differs between two worlds, for all names. It names no worker. LOGIC 13.10.
use Rattle.std.specs.Prelude.{◌≡◌, ◌≤◌, ◌<◌, ℕ, Bool, true, false, List, Option, Some, None, is_none, length, map}
use Rattle.std.specs.List.{AllZip, flat_map, list_any}
use Rattle.iam_decision.specs.declared.verdict.Verdict.{Verdict}
use Rattle.iam_row.specs.Changes.{ChangeRow, changes_text, is_allowed, kind_by}
use Rattle.iam_row.specs.declared.changes.Change.{Change}
use Rattle.iam_row.specs.declared.changes.Change.TheVariants.{Gained, Lost, Differs}
use Rattle.iam_row.specs.declared.quoted.Format.{Format}
use Rattle.iam_every_changes.specs.Changes.{ChangedValue}
use Rattle.iam_every_changes.specs.Compared.{AreComparable, ComparedValue, WhoValue, both_at}
use Rattle.iam_every_changes.specs.Made.{AreEveryChanges}
use Rattle.iam_every_changes.specs.declared.looked.Verdicts.{Verdicts}
use Rattle.iam_every_changes.specs.declared.report.ChangesTold.{ChangesTold}

-- ---- the row of what is told of a principal
abbrev pub change_in : Option Verdicts → Option Change
change_in None = None
change_in (Some verdicts) = Some (kind_by (is_allowed verdicts.before) (is_allowed verdicts.after))

abbrev pub before_in : Option Verdicts → Option Verdict
before_in None = None
before_in (Some verdicts) = verdicts.before

abbrev pub after_in : Option Verdicts → Option Verdict
after_in None = None
after_in (Some verdicts) = verdicts.after

abbrev pub row_at : List ℕ → ChangedValue → ChangeRow
row_at principal row = record {
  texts = record { principal = principal; action = row.action; resource = row.resource };
  change = change_in row.verdicts;
  before = before_in row.verdicts;
  after = after_in row.verdicts;
}

-- ---- principals
-- the rows of a principal, and whether anything was looked at
pub record ListedValue : Type 0 where
  pub rows : List ChangeRow
  pub some : Bool

abbrev pub AreListed : ComparedValue → WhoValue → ListedValue → Type 0
AreListed compared who listed =
    (rows : List ChangedValue) × AreEveryChanges (both_at compared who) rows listed.some × (listed.rows ≡ map (row_at who.text) rows)

abbrev pub rows_in : List ListedValue → List ChangeRow
rows_in lists = flat_map (λ listed. listed.rows) lists

-- ---- what is told beside the report
abbrev pub is_gained : Option Change → Bool
is_gained None = false
is_gained (Some Gained) = true
is_gained (Some Lost) = false
is_gained (Some Differs) = false

abbrev pub is_lost : Option Change → Bool
is_lost None = false
is_lost (Some Gained) = false
is_lost (Some Lost) = true
is_lost (Some Differs) = false

-- one of the rows is so
abbrev pub has_row : (Option Change → Bool) → ListedValue → Bool
has_row is listed = list_any (λ row. is row.change) listed.rows

-- whether anything was looked at, which kinds of changes the report has, and whether it has a line that is not shown
abbrev pub told_of : List ListedValue → ChangesTold
told_of lists = record {
  some = list_any (λ listed. listed.some) lists;
  gained = list_any (has_row is_gained) lists;
  lost = list_any (has_row is_lost) lists;
  unshown = list_any (has_row is_none) lists;
}

-- ---- the report: the rows of these principals, at most 16,777,216 of them
pub record IsEveryChangesReport (format : Format) (brief : Bool) (compared : ComparedValue) (whos : List WhoValue) (text : List ℕ) (told : ChangesTold) : Type 0 where
  pub lists : List ListedValue
  pub are : AllZip (AreListed compared) whos lists
  pub few : length (rows_in lists) ≤ 16777216
  pub is : text ≡ changes_text format brief (rows_in lists)
  pub tells : told ≡ told_of lists

-- there would be more
abbrev pub IsTooLong : ComparedValue → List WhoValue → Type 0
IsTooLong compared whos = (lists : List ListedValue) × AllZip (AreListed compared) whos lists × (16777216 < length (rows_in lists))

-- there is one report, and none where it would be too long
abbrev pub OneEveryChangesReport : Type 0
OneEveryChangesReport =
    (format : Format) (brief : Bool) (compared : ComparedValue) (whos : List WhoValue) (one other : List ℕ) (told others : ChangesTold)
    → AreComparable compared whos → IsEveryChangesReport format brief compared whos one told
    → IsEveryChangesReport format brief compared whos other others → (one ≡ other) × (told ≡ others)

abbrev pub NoReportTooLong : Type 0
NoReportTooLong =
    (format : Format) (brief : Bool) (compared : ComparedValue) (whos : List WhoValue) (text : List ℕ) (told : ChangesTold)
    → AreComparable compared whos → IsEveryChangesReport format brief compared whos text told → ¬ IsTooLong compared whos
