use Rattle.std.proofs.Common.{subst, sym}
use Rattle.std.proofs.lemmas.Result.{MatchResult-weaker}
use Rattle.iam_app.specs.AnyKeyChanges.{EndsTurnedChangesBy}
use Rattle.iam_app.specs.declared.changes_fault.ChangesFault.{ChangesFault}
use Rattle.iam_app.proofs.Compared.{not_of_before}
use Rattle.iam_app.proofs.TurnedChangesLemmas.{no_before, untold}
use Rattle.iam_app.proofs.any_key_changes.run_any_key_changes.Goals as goal

pub returns-in-Err-clause-fault : goal.returns-in-Err-clause-fault
returns-in-Err-clause-fault g c =
    let first = g.R.Read.remaining c.args.before.now in
    let second = g.S.Read.remaining c.args.after.now in
    let held = g.W.Write.contents c.args.writer.now in
    subst (λ (fault : ChangesFault). EndsTurnedChangesBy c.args.options first second held held fault) (sym c.of_before.ensures)
    (no_before c.args.options first second held c.in-Err.fault c.in-Err.ensures.fault)

pub returns-in-Err-told-clause-fault : goal.returns-in-Err-told-clause-fault
returns-in-Err-told-clause-fault g c =
    untold c.args.options (g.R.Read.remaining c.args.before.now) (g.S.Read.remaining c.args.after.now)
    (g.W.Write.contents c.args.writer.now) (g.W.Write.contents c.answer-told.new.writer)
    c.in-Ok.world c.in-Ok-read_side.world c.in-Err-told.fault
    c.in-Ok.ensures.ok c.in-Ok-read_side.ensures.ok c.in-Err-told.ensures.fault
