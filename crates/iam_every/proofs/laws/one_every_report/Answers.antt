use Rattle.iam_every.proofs.OneRowsLemmas.{Given, no_report_too_long, one_every_report}
use Rattle.iam_every.proofs.laws.one_every_report.Goals as goal

pub returns-clause-one : goal.returns-clause-one
returns-clause-one c =
    let g : Given =
    record {
      request = c.one_request.ensures;
      verdict = c.one_verdict_at.ensures.request;
      kinds = c.one_list_of_kinds.ensures;
      actions = c.one_list_of_kinds_fold.ensures;
    } in
    one_every_report g

pub returns-clause-none : goal.returns-clause-none
returns-clause-none c =
    let g : Given =
    record {
      request = c.one_request.ensures;
      verdict = c.one_verdict_at.ensures.request;
      kinds = c.one_list_of_kinds.ensures;
      actions = c.one_list_of_kinds_fold.ensures;
    } in
    no_report_too_long g
