use Rattle.std.proofs.Common.{refl}
use Rattle.std.proofs.lemmas.Result.{on_err_weaker, on_ok_weaker}
use Rattle.iam_report.proofs.Buffered.{passes_written, written_second}
use Rattle.iam_report.proofs.output.put_behind.Goals as goal

pub returns-clause-err : goal.returns-clause-err
returns-clause-err g c =
    on_err_weaker c.write_text.result
    (written_second _ _ _ c.args.kept.now.items c.args.kept.now.items c.args.text.now c.args.text.now refl refl c.in_ok-write_kept.ensures.ok)
    c.write_text.ensures.err

pub returns-clause-ok : goal.returns-clause-ok
returns-clause-ok g c =
    on_ok_weaker c.write_text.result
    (passes_written _ _ _ c.args.kept.now.items c.args.kept.now.items c.args.text.now c.args.text.now c.clear.new.self.items refl refl c.clear.ensures.items
    c.in_ok-write_kept.ensures.ok)
    c.write_text.ensures.ok
