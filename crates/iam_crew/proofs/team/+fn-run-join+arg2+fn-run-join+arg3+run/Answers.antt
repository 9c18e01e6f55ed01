use Rattle.iam_crew.specs.Code.Worker.{IsDone}
use Rattle.iam_crew.specs.declared.worker.Done.{Done}
use Rattle.iam_crew.proofs.Both.{both_all}
use Rattle.iam_crew.proofs.team.+fn-run-join+arg2+fn-run-join+arg3+run.Goals as goal

pub returns-clause-done : goal.returns-clause-done
returns-clause-done g t c =
    let P : Done g.row.C-Output.Denot → Type 0 = IsDone c.args.shares.tiles c.args.lanes.now (g.C.Crew.offers c.args.crew.now) (g.C.Crew.gives c.args.crew.now) in
    both_all P _ _ c.both.result c.join-first.ensures.first.0 c.join-first.ensures.second.0 c.both.ensures
