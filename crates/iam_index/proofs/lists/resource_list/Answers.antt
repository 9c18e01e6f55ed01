use Rattle.std.proofs.Common.{◌++◌, ◌∙◌, List, map, ap, sym, subst}
use Rattle.std.proofs.lemmas.Result.{IfOk-weaker}
use Rattle.iam_decision.specs.Applicable.{value_of}
use Rattle.iam_decision.specs.Code.Scan.{resource_placed, placed_value}
use Rattle.iam_decision.specs.Matched.{Placed}
use Rattle.iam_decision.specs.declared.scan.Standing.{Standing}
use Rattle.iam_index.specs.Index.{AreListed}
use Rattle.iam_index.proofs.ListedLemmas.{no_principals}
use Rattle.iam_index.proofs.lists.resource_list.Goals as goal

pub returns-then-principals-eq0-clause-listed : goal.returns-then-principals-eq0-clause-listed
returns-then-principals-eq0-clause-listed c =
    no_principals c.args.world.now c.args.r c.new-statements.result.items (sym c.principals.ensures ∙ c.if-principals-eq0.true)

pub returns-clause-listed : goal.returns-clause-listed
returns-clause-listed c =
    let world = c.args.world.now in
    let own = value_of c.applicable.result in
    let all =
    ap (map placed_value) c.as_slice.ensures.value ∙ c.in_ok-add_resource.ensures
    ∙ ap (λ (old : List Standing). map placed_value old ++ resource_placed own) c.new-statements.ensures.items in
    IfOk-weaker c.concerned.result _ _
    (λ listed is other a at.
    let P : List Placed → Type 0 = λ z. AreListed world z listed.items in
    subst P (all ∙ sym (c.statements_are_kept.ensures.resources world other 0 c.args.r a own at c.applicable.ensures.value)) is)
    c.concerned.ensures.listed
