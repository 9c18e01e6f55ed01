use Rattle.std.proofs.Common.{false}
use Rattle.std.proofs.lemmas.Result.{IfOk-weaker}
use Rattle.iam_row.specs.Piece.{full_tail}
use Rattle.iam_row.specs.Report.{full_layout}
use Rattle.iam_report.proofs.Whole.{report_is}
use Rattle.iam_report.proofs.text.full_report.Goals as goal

pub returns : goal.returns
returns c =
    let world = c.args.world.now in
    let verdicts = c.args.verdicts.now in
    let quoted = c.in_ok-quoted.quoted in
    IfOk-weaker c.report.result _ _
    (λ text. report_is full_layout world c.args.format quoted false full_tail verdicts _ text.items (c.full_texts.ensures world quoted verdicts c.in_ok-quoted.ensures.texts c.requires)
    c.in_ok-quoted.ensures.format c.in_ok-tile.ensures)
    c.report.ensures
