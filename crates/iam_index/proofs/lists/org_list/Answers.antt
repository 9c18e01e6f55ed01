use Rattle.std.proofs.Common.{◌++◌, ◌∙◌, List, map, ap, sym, subst}
use Rattle.std.proofs.lemmas.Result.{IfOk-weaker}
use Rattle.iam_decision.specs.Applicable.{value_of}
use Rattle.iam_decision.specs.Code.Scan.{org_placed, placed_value}
use Rattle.iam_decision.specs.Matched.{Placed}
use Rattle.iam_decision.specs.declared.scan.Standing.{Standing}
use Rattle.iam_index.specs.Index.{AreListed}
use Rattle.iam_index.proofs.ListedLemmas.{no_resources_org}
use Rattle.iam_index.proofs.lists.org_list.Goals as goal

pub returns-then-resources-eq0-clause-listed : goal.returns-then-resources-eq0-clause-listed
returns-then-resources-eq0-clause-listed c =
    no_resources_org c.args.world.now c.args.p c.new-statements.result.items (sym c.resources.ensures ∙ c.if-resources-eq0.true)

pub returns-clause-listed : goal.returns-clause-listed
returns-clause-listed c =
    let world = c.args.world.now in
    let own = value_of c.applicable.result in
    let all =
    ap (map placed_value) c.as_slice.ensures.value ∙ c.in_ok-add_org.ensures
    ∙ ap (λ (old : List Standing). map placed_value old ++ org_placed own) c.new-statements.ensures.items in
    IfOk-weaker c.concerned.result _ _
    (λ listed is other a at.
    let P : List Placed → Type 0 = λ z. AreListed world z listed.items in
    subst P (all ∙ sym ((c.statements_are_kept.ensures.requesters world c.args.p other 0 a own at c.applicable.ensures.value).0)) is)
    c.concerned.ensures.listed
