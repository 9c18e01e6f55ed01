use Rattle.std.proofs.Common.{Option, ℕ, ◌<◌, IfSome, sym, subst}
use Rattle.std.proofs.lemmas.Result.{IfOk-weaker}
use Rattle.iam_world.specs.World.{world_cells}
use Rattle.iam_matrix.specs.Report.{IsFirstText}
use Rattle.iam_matrix.proofs.report.first_text.Goals as goal

pub csv_row_brief-requires : goal.csv_row_brief-requires
csv_row_brief-requires c =
    let P : Option ℕ → Type 0 = λ found. IfSome found (λ cell. cell < world_cells c.args.world.now) in subst P c.in-Some.is c.requires

pub returns-in-Some : goal.returns-in-Some
returns-in-Some c =
    let P : Option ℕ → Type 0 = λ found. IfSome found (λ cell. cell < world_cells c.args.world.now) in
    let at = c.one_triple.ensures.some c.args.world.now c.in-Some.cell (subst P c.in-Some.is c.requires) in
    IfOk-weaker c.csv_row_brief.result _ _
    (λ text is. let Q : Option ℕ → Type 0 = λ found. IsFirstText c.args.world.now found text.items in
    subst Q (sym c.in-Some.is) (at.0, at.1, at.2, at.3, is at.0 at.1 at.2 at.3))
    c.csv_row_brief.ensures
