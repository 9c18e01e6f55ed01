use Rattle.iam_every_changes.proofs.OneLemmas.{one_list_of_changes}
use Rattle.iam_every_changes.proofs.laws.one_list_of_changes.Goals as goal

pub returns : goal.returns
returns c = one_list_of_changes (record {
  request = c.one_request.ensures;
  verdict = c.one_verdict_at.ensures.request;
  kinds = c.one_list_of_kinds.ensures;
  actions = c.one_list_of_kinds_fold.ensures;
  groups = c.one_list_of_groups.ensures.actions;
})
