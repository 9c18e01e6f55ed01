-- The report as it is made: the rows of one principal after the other, each row put together from its quoted texts and a tail.
use Rattle.std.specs.Prelude.{◌≡◌, ◌↔◌, ◌<◌, ℕ, All, Bool, IsTrue, true, false, List, [], ◌++◌, Option, Some, None, codes, decimal, length, map}
use Rattle.std.specs.List.{slice_get}
use Rattle.iam_decision.specs.declared.verdict.Decision.{Decision}
use Rattle.iam_decision.specs.declared.verdict.Verdict.{Verdict}
use Rattle.iam_decision.specs.Matched.{Selects}
use Rattle.iam_layers.specs.Cell.{principal_text}
use Rattle.iam_world.specs.World.{PrincipalValue, WorldValue}
use Rattle.iam_row.specs.Piece.{comma_before, quote_of, tail_of}
use Rattle.iam_row.specs.Report.{CellTexts}
use Rattle.iam_row.specs.declared.quoted.Format.{Format}
use Rattle.iam_row.specs.declared.quoted.Format.TheVariants.{Csv, Json}
use Rattle.iam_row.specs.declared.tail.Tail.{Tail}
use Rattle.iam_every.specs.Code.Rows.{AreMatched}
use Rattle.iam_every.specs.Every.{AreThere, EveryValue, RowValue, every_of, row_of}
use Rattle.iam_every.specs.Report.{IsWanted, NamedRow, has_unshown}
use Rattle.iam_every.specs.Rows.{AreRows}
use Rattle.iam_every.specs.declared.crew.Chosen.{Chosen}
use Rattle.iam_every.specs.declared.crew.Principals.{Principals}
use Rattle.iam_every.specs.declared.rows.Row.{Row}

-- ---- the texts of rows

-- what stands before the principal, and behind the resource, where a line is not shown
abbrev pub unshown_front : Format → Bool → List ℕ
unshown_front Csv brief = []
unshown_front Json true = codes ",\"decision\":\"notShown\",\"principal\":"
unshown_front Json false = codes ",\"decision\":\"notShown\",\"lacks\":[],\"principal\":"

abbrev pub unshown_back : Format → Bool → List ℕ
unshown_back Csv true = codes ",notShown\n"
unshown_back Csv false = codes ",notShown,,\n"
unshown_back Json true = codes "}"
unshown_back Json false = codes ",\"statements\":[]}"

abbrev pub unshown_tail : Format → Bool → Tail
unshown_tail format brief = record { front = unshown_front format brief; back = unshown_back format brief }

-- the tail of a row with this verdict, or of one that is not shown
abbrev pub tail_in : Format → Bool → Option Verdict → Tail
tail_in format brief None = unshown_tail format brief
tail_in format brief (Some verdict) = tail_of format brief verdict

-- the texts of a row, each as it stands in it
abbrev pub quoted_texts : Format → CellTexts → CellTexts
quoted_texts format texts =
    record { principal = quote_of format texts.principal; action = quote_of format texts.action; resource = quote_of format texts.resource }

-- a row of texts that stand so
abbrev pub quoted_row : Format → ℕ → CellTexts → Tail → List ℕ
quoted_row Csv cell texts tail =
    decimal cell ++ (codes "," ++ (texts.principal ++ (codes "," ++ (texts.action ++ (codes "," ++ (texts.resource ++ tail.back))))))
quoted_row Json cell texts tail =
    comma_before cell ++ (codes "{\"action\":" ++ (texts.action ++ (codes ",\"cell\":" ++ (decimal cell ++ (tail.front ++ (texts.principal
    ++ (codes ",\"resource\":" ++ (texts.resource ++ tail.back))))))))

-- rows with the text of their principal
abbrev pub named_rows : List ℕ → List Row → List NamedRow
named_rows principal rows = map (λ row. record { principal = principal; row = row_of row }) rows

-- ---- the rows of principals

-- the rows of principal p that are asked for
pub record IsChosen (every : EveryValue) (decisions : List Decision) (p : ℕ) (chosen : Chosen) : Type 0 where
  pub principal : chosen.principal ≡ p
  pub rows : List RowValue
  pub are : AreRows every p rows
  pub wanted : Selects (IsWanted decisions) rows (map row_of chosen.rows)
  pub some : IsTrue chosen.some ↔ (0 < length rows)
  pub unshown : chosen.unshown ≡ has_unshown rows

-- this one of the principals may be worked: all are there, and what is said of others names resources that are there
pub record IsTile (crew : Principals) (tile : ℕ) : Type 0 where
  pub inside : tile < length crew.principals.now
  pub known : All (λ p. p < length crew.asked.world.now.principals) crew.principals.now
  pub there : AreThere (every_of crew.asked)
  pub matched : AreMatched crew.asked.world.now (every_of crew.asked).lines crew.matched.now

-- the text of a principal, if it is there
abbrev pub text_if : Option PrincipalValue → List ℕ
text_if (Some principal) = principal_text principal
text_if None = []

-- the rows with the text of their principal
abbrev pub named_in : WorldValue → Chosen → List NamedRow
named_in world chosen = named_rows (text_if (slice_get world.principals chosen.principal)) chosen.rows
