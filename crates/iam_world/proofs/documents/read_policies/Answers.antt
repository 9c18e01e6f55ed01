use Rattle.std.proofs.Common.{sym}
use Rattle.std.proofs.lemmas.Result.{IfOk-weaker}
use Rattle.serde_json.specs.View.{view}
use Rattle.iam_policy.specs.Reading.{Reads}
use Rattle.iam_world.proofs.DocumentLemmas.{each_one}
use Rattle.iam_world.proofs.Walks.{zip_map}
use Rattle.iam_world.proofs.documents.read_policies.Goals as goal

pub returns-clause-ok : goal.returns-clause-ok
returns-clause-ok c =
    IfOk-weaker c.read_each.result _ _ (λ policies zip. zip_map (Reads c.args.kind) view c.args.documents.now policies.items zip) c.read_each.ensures.ok

pub returns-clause-cleared : goal.returns-clause-cleared
returns-clause-cleared c = rw (sym (each_one view (record { kind = c.args.kind; place = c.args.place }) 0 c.args.documents.now)) c.read_each.ensures.cleared

pub returns-clause-fault : goal.returns-clause-fault
returns-clause-fault c = rw (sym (each_one view (record { kind = c.args.kind; place = c.args.place }) 0 c.args.documents.now)) c.read_each.ensures.fault
