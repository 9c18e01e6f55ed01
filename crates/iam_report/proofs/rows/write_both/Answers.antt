use Rattle.std.proofs.Common.{refl}
use Rattle.std.proofs.lemmas.Result.{MatchResult-from_err}
use Rattle.iam_report.proofs.Buffered.{written_second}
use Rattle.iam_report.proofs.rows.write_both.Goals as goal

pub returns-in_err-write_text-clause-err : goal.returns-in_err-write_text-clause-err
returns-in_err-write_text-clause-err g c =
    MatchResult-from_err _ _ _ c.from_residual-in_err-write_text.ensures.0
    (λ _. written_second _ _ _ c.args.kept.now.items c.args.kept.now.items c.text.result.now c.args.block.now refl c.text.ensures c.in_ok-write_kept.ensures.ok
    c.in_err-write_text.ensures.err)
