use Rattle.std.proofs.Common.{true}
use Rattle.std.proofs.lemmas.Result.{IfOk-weaker}
use Rattle.iam_row.specs.Piece.{brief_tail}
use Rattle.iam_row.specs.Report.{brief_layout}
use Rattle.iam_report.proofs.Whole.{report_is}
use Rattle.iam_report.proofs.text.brief_report.Goals as goal

pub returns : goal.returns
returns c =
    let world = c.args.world.now in
    let decisions = c.args.decisions.now in
    let quoted = c.in_ok-quoted.quoted in
    IfOk-weaker c.report.result _ _
    (λ text. report_is brief_layout world c.args.format quoted true brief_tail decisions _ text.items (c.brief_texts.ensures world quoted decisions c.in_ok-quoted.ensures.texts c.requires)
    c.in_ok-quoted.ensures.format c.in_ok-tile.ensures)
    c.report.ensures
