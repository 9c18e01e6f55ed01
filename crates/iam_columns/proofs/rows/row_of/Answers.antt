use Rattle.std.proofs.Common.{◌≡◌, Some, refl, subst}
use Rattle.iam_element.specs.Reading.{ResourceElement}
use Rattle.iam_columns.specs.Rows.{Tell, TellsMatch}
use Rattle.iam_columns.proofs.rows.row_of.Goals as goal

pub returns-in-Some : goal.returns-in-Some
returns-in-Some c =
    let T : ResourceElement → Type 0 = λ e. Tell (TellsMatch c.args.world.now (Some e)) c.in_ok-matches.matches.items in
    let same : c.in-Some.fixed ≡ c.args.element.now = rw c.in-Some.is at c.in_ok-fixed.ensures in
    (subst T same c.in_ok-matches.ensures, refl)
