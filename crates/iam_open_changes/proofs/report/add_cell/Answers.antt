use Rattle.std.proofs.Common.{List, subst, sym}
use Rattle.std.specs.Result.{OnOk}
use Rattle.iam_open_changes.specs.Code.Adds.{Adds}
use Rattle.iam_open_changes.specs.Code.Parts.{AreRowsAt}
use Rattle.iam_open_changes.specs.Rows.{RowValue}
use Rattle.iam_open_changes.specs.declared.report.Side.{Side}
use Rattle.iam_open_changes.proofs.report.add_cell.Goals as goal

pub returns-in-After : goal.returns-in-After
returns-in-After c =
    let cells = c.args.cells in
    subst
    (λ (side : Side).
    OnOk c.add_after.result ((entry : List RowValue) × AreRowsAt side cells.requests.now.before cells.requests.now.after c.args.at.cell entry
    × Adds cells.format cells.brief c.args.rows.now entry c.add_after.new.rows))
    (sym c.in-After.is) c.add_after.ensures

pub returns-in-Before : goal.returns-in-Before
returns-in-Before c =
    let cells = c.args.cells in
    subst
    (λ (side : Side).
    OnOk c.add_before.result ((entry : List RowValue) × AreRowsAt side cells.requests.now.before cells.requests.now.after c.args.at.cell entry
    × Adds cells.format cells.brief c.args.rows.now entry c.add_before.new.rows))
    (sym c.in-Before.is) c.add_before.ensures
