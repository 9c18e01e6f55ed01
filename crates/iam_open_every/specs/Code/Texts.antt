-- The report as it is made: the rows of one principal after the other.
use Rattle.std.specs.Prelude.{◌≡◌, ◌<◌, ℕ, All, Bool, IsTrue, false, List, [], MatchBool, length, map}
use Rattle.std.specs.List.{flat_map, slice_get}
use Rattle.iam_every.specs.Code.Rows.{AreMatched}
use Rattle.iam_every.specs.Code.Texts.{text_if}
use Rattle.iam_every.specs.Every.{AreThere, EveryValue, every_of}
use Rattle.iam_open.specs.declared.asked.Word.{Word}
use Rattle.iam_open_every.specs.Report.{AreWanted, NamedRow, OfRows, has_unshown}
use Rattle.iam_open_every.specs.Row.{row_of}
use Rattle.iam_open_every.specs.declared.crew.Chosen.{Chosen}
use Rattle.iam_open_every.specs.declared.crew.Principals.{Principals}
use Rattle.iam_open_every.specs.declared.rows.Row.{Row}
use Rattle.iam_world.specs.World.{WorldValue}

-- rows with the text of their principal
abbrev pub named_rows : List ℕ → List Row → List NamedRow
named_rows principal rows = map (λ row. record { principal = principal; row = row }) (map row_of rows)

abbrev pub named_in : WorldValue → Chosen → List NamedRow
named_in world chosen = named_rows (text_if (slice_get world.principals chosen.principal)) chosen.rows

-- those of all that were chosen, one behind the other, and without the texts
abbrev pub all_rows : WorldValue → List Chosen → List NamedRow
all_rows world all = flat_map (λ listed. listed) (map (named_in world) all)

abbrev pub rows_in : List Chosen → List Row
rows_in all = flat_map (λ chosen. chosen.rows) all

-- the rows of principal p that are asked for, and what is told of all its rows
pub record IsChosen (brief : Bool) (every : EveryValue) (words : List Word) (p : ℕ) (chosen : Chosen) : Type 0 where
  pub known : chosen.principal < length every.world.principals
  pub wanted : AreWanted brief every words p (named_in every.world chosen)
  pub some : MatchBool chosen.some (OfRows brief every (λ rows. 0 < length rows) p) (OfRows brief every (λ rows. rows ≡ []) p)
  pub unshown : MatchBool chosen.unshown (OfRows brief every (λ rows. IsTrue (has_unshown rows)) p)
      (OfRows brief every (λ rows. has_unshown rows ≡ false) p)

-- this one of the principals may be worked: all are there, and what is said of others names resources that are there
pub record IsTile (crew : Principals) (tile : ℕ) : Type 0 where
  pub inside : tile < length crew.principals.now
  pub known : All (λ p. p < length crew.asked.world.now.principals) crew.principals.now
  pub there : AreThere (every_of crew.asked)
  pub matched : AreMatched crew.asked.world.now (every_of crew.asked).lines crew.matched.now
