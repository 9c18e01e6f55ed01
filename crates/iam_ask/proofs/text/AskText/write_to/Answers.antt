use Rattle.std.proofs.Common.{ap}
use Rattle.std.proofs.lemmas.Result.{MatchResult-from_err, on_err_weaker}
use Rattle.iam_report.proofs.Buffered.{end_fails, rows_fail}
use Rattle.iam_ask.proofs.Written.{all_tails, text_parts}
use Rattle.iam_ask.proofs.text.AskText.write_to.Goals as goal

pub returns-in_err-put_tiles-clause-err : goal.returns-in_err-put_tiles-clause-err
returns-in_err-put_tiles-clause-err g c =
    MatchResult-from_err _ _ _ c.from_residual-in_err-put_tiles.ensures.0
    (λ _. rows_fail _ _ _ _ _ _ _ _ _ c.requires (text_parts _ _ _ _ c.self.view_is (ap all_tails c.as_slice-tiles.ensures.value) c.opening.ensures)
    c.in_ok-put.ensures.ok c.in_err-put_tiles.ensures.err)

pub returns-clause-err : goal.returns-clause-err
returns-clause-err g c =
    on_err_weaker c.write_end.result
    (end_fails _ _ _ _ _ _ _ _ _ _ _ c.requires (text_parts _ _ _ _ c.self.view_is (ap all_tails c.as_slice-tiles.ensures.value) c.opening.ensures)
    c.in_ok-put.ensures.ok c.in_ok-put_tiles.ensures.ok)
    c.write_end.ensures.err
