use Rattle.iam_every.proofs.OneRowsLemmas.{Given, one_list_of_rows}
use Rattle.iam_every.proofs.laws.one_list_of_rows.Goals as goal

pub returns : goal.returns
returns c =
    let g : Given =
    record {
      request = c.one_request.ensures;
      verdict = c.one_verdict_at.ensures.request;
      kinds = c.one_list_of_kinds.ensures;
      actions = c.one_list_of_kinds_fold.ensures;
    } in
    one_list_of_rows g
