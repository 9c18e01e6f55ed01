use Rattle.std.proofs.Common.{subst, sym}
use Rattle.std.proofs.lemmas.Result.{MatchResult-weaker}
use Rattle.iam_app.specs.EveryChanges.{EndsNamesChangesBy}
use Rattle.iam_app.specs.declared.changes_fault.ChangesFault.{ChangesFault}
use Rattle.iam_app.specs.declared.every_changes_fault.EveryChangesFault.TheVariants as e
use Rattle.iam_app.proofs.ComparingLemmas.{apart_in, done, ends, no_before}
use Rattle.iam_app.proofs.every_changes.run_every_changes.Goals as goal

pub returns-in-Err-clause-fault : goal.returns-in-Err-clause-fault
returns-in-Err-clause-fault g c =
    let command = c.args.command.now in
    let first = g.R.Read.remaining c.args.before.now in
    let second = g.S.Read.remaining c.args.after.now in
    let file = g.F.Read.remaining c.args.file.now in
    let held = g.W.Write.contents c.args.writer.now in
    subst (λ (fault : ChangesFault). EndsNamesChangesBy command first second file held held (e.Changes fault)) (sym c.of_before.ensures)
    (no_before command first second file held c.in-Err.fault c.in-Err.ensures.fault)

pub tell-told-requires-clause-apart_before : goal.tell-told-requires-clause-apart_before
tell-told-requires-clause-apart_before g c κs within =
    apart_in (g.R.Read.remaining c.args.before.now) c.in-Ok.world c.in-Ok.ensures.ok

pub tell-told-requires-clause-apart_after : goal.tell-told-requires-clause-apart_after
tell-told-requires-clause-apart_after g c κs within =
    apart_in (g.S.Read.remaining c.args.after.now) c.in-Ok-read_side.world c.in-Ok-read_side.ensures.ok

pub returns-clause-done : goal.returns-clause-done
returns-clause-done g c =
    MatchResult-weaker c.tell-told.result c.tell-told.ensures.done
    (λ told is. done c.args.command.now (g.R.Read.remaining c.args.before.now) (g.S.Read.remaining c.args.after.now) (g.F.Read.remaining c.args.file.now)
    (g.W.Write.contents c.args.writer.now) (g.W.Write.contents c.tell-told.new.writer) c.in-Ok.world c.in-Ok-read_side.world told
    c.in-Ok.ensures.ok c.in-Ok-read_side.ensures.ok is)
    (λ _ _. tt)

pub returns-clause-fault : goal.returns-clause-fault
returns-clause-fault g c =
    MatchResult-weaker c.tell-told.result c.tell-told.ensures.fault (λ _ _. tt)
    (ends c.args.command.now (g.R.Read.remaining c.args.before.now) (g.S.Read.remaining c.args.after.now) (g.F.Read.remaining c.args.file.now)
    (g.W.Write.contents c.args.writer.now) (g.W.Write.contents c.tell-told.new.writer) c.in-Ok.world c.in-Ok-read_side.world
    c.in-Ok.ensures.ok c.in-Ok-read_side.ensures.ok)
