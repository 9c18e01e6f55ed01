-- Statements that have rows do not tell resources apart that no row does.
use Rattle.std.proofs.Common.{ℕ, suc, List, [], ◌∷◌, ◌++◌, Option, map, refl, subst}
use Rattle.iam_element.specs.Reading.{ResourceElement}
use Rattle.iam_decision.specs.Code.Scan.{placed_value}
use Rattle.iam_decision.specs.Matched.{Placed}
use Rattle.iam_decision.specs.declared.scan.Standing.{Standing}
use Rattle.iam_world.specs.World.{WorldValue}
use Rattle.iam_columns.specs.Columns.{AllMatchBoth, AreColumns, MatchesBoth}
use Rattle.iam_columns.specs.declared.rows.Row.{Row}
use Rattle.iam_index.specs.Known.{AreAlike, TellNoneApart}
use Rattle.iam_index.specs.Rows.{AllHaveRows}

none_apart : (world : WorldValue) (rows : List Row) (statements : List Standing) (r other : ℕ) → AllHaveRows rows statements
    → AllMatchBoth world rows r other → TellNoneApart world (map placed_value statements) r other
none_apart world rows [] r other have both = tt
none_apart world rows (s ∷ statements) r other have both =
    let (n, (row, at, same)) = have 0 s refl in
    let M : Option ResourceElement → Type 0 = λ element. MatchesBoth world element r other in
    (subst M same (both n row at), none_apart world rows statements r other (λ i standing there. have (suc i) standing there) both)

apart_append : (world : WorldValue) (xs ys : List Placed) (r other : ℕ) → TellNoneApart world xs r other → TellNoneApart world ys r other
    → TellNoneApart world (xs ++ ys) r other
apart_append world [] ys r other first second = second
apart_append world (x ∷ xs) ys r other (one, first) second = (one, apart_append world xs ys r other first second)

-- so of those of an organisation and of a principal
pub alike : (world : WorldValue) (rows : List Row) (org own : List Standing) (numbers : List (Option ℕ)) → AreColumns world rows numbers
    → AllHaveRows rows org → AllHaveRows rows own → AreAlike world (map placed_value org ++ map placed_value own) numbers
alike world rows org own numbers columns first second r other n kept there =
    let column = columns r other n kept there in (
      column.differ,
      apart_append world (map placed_value org) (map placed_value own) r other (none_apart world rows org r other first column.both)
          (none_apart world rows own r other second column.both),
    )
