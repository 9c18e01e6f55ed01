use Rattle.std.proofs.Common.{◌≡◌, ℕ, ap, sym, subst, ◌∙◌}
use Rattle.iam_world.specs.World.{world_cells}
use Rattle.iam_changes.specs.Requests.{IsCount}
use Rattle.iam_changes.specs.Change.{AskedValue}
use Rattle.iam_changes.specs.Code.Kept.{kinds_in}
use Rattle.iam_changes.specs.Code.Pieces.{ArePiecesOf, ReportValue, lead_of, report_text, rows_in}
use Rattle.iam_changes.specs.Report.{IsChangesReport}
use Rattle.iam_compare.proofs.Reported.{reported}
use Rattle.iam_compare.proofs.report.changes_report.Goals as goal

pub returns-clause-ok : goal.returns-clause-ok
returns-clause-ok g c =
    let requests = c.args.requests.now in
    let format = c.args.format in
    let brief = c.args.brief in
    let asked : AskedValue = record { selection = c.args.selection.now; all = c.args.all } in
    let before = c.in_ok-before.before in
    let after = c.in_ok-after.after in
    let parts = c.in_ok-parts.parts.items in
    let counted = subst (IsCount requests.before requests.after) c.count-count.ensures.value c.count-count.ensures.is in
    let of_before = subst (λ w. ArePiecesOf w before) c.before-2.ensures c.in_ok-before.ensures.pieces in
    let of_after = subst (λ w. ArePiecesOf w after) c.after-2.ensures c.in_ok-after.ensures.pieces in
    let cells : c.cells-cells.result ≡ world_cells requests.after = c.cells-cells.ensures.value ∙ ap world_cells c.after.ensures in
    let report = reported c.one_triple.ensures.one asked requests format brief c.args.cut.now parts before after counted c.requires of_before of_after c.in_ok-before.ensures.format
    c.in_ok-after.ensures.format c.in_ok-parts.ensures in
    let value : ℕ → ReportValue = λ n. record {
      pieces = record { before = before; after = after; cells = n; lead = lead_of (rows_in parts) };
      brief = brief;
      rows = rows_in parts;
      kinds = kinds_in parts;
    } in
    let R : ReportValue → Type 0 = λ r. IsChangesReport format brief asked requests.before requests.after (report_text r) r.kinds in
    subst R (sym c.of.ensures) (subst (λ n. R (value n)) (sym cells) report)
