use Rattle.std.proofs.Common.{sym}
use Rattle.std.specs.List.{AllZip}
use Rattle.std.proofs.lemmas.Result.{IfOk-weaker}
use Rattle.serde_json.specs.View.{view}
use Rattle.iam_policy.specs.Reading.{Reads}
use Rattle.iam_shape.specs.Lent.{policies_in}
use Rattle.iam_shape.specs.declared.path.Path.TheVariants.{Leaf}
use Rattle.iam_world.specs.WorldFault.{numbered}
use Rattle.iam_world.proofs.DocumentLemmas.{each_map}
use Rattle.iam_world.proofs.Walks.{zip_both}
use Rattle.iam_world.proofs.documents.read_levels.Goals as goal

pub returns-clause-ok : goal.returns-clause-ok
returns-clause-ok c =
    IfOk-weaker c.read_each.result _ _
    (λ levels zip. zip_both (AllZip (Reads c.args.at.kind)) (λ level. policies_in (view level)) (λ level. level.items) c.args.levels.values.now levels.items zip)
    c.read_each.ensures.ok

pub returns-clause-cleared : goal.returns-clause-cleared
returns-clause-cleared c =
    let at = c.args.at in
    rw (sym (each_map (λ j. numbered at.kind (Leaf at.list at.of at.name j) 0) (λ level. policies_in (view level)) 0 c.args.levels.values.now)) c.read_each.ensures.cleared

pub returns-clause-fault : goal.returns-clause-fault
returns-clause-fault c =
    let at = c.args.at in
    rw (sym (each_map (λ j. numbered at.kind (Leaf at.list at.of at.name j) 0) (λ level. policies_in (view level)) 0 c.args.levels.values.now)) c.read_each.ensures.fault
