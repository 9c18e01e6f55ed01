use Rattle.std.proofs.Common.{◌≡◌, ◌∙◌, IsTrue, Some, subst}
use Rattle.std.proofs.lemmas.Option.{get_or_from_slice_get}
use Rattle.std.specs.List.{slice_get}
use Rattle.iam_decision.specs.declared.scan.Standing.{Standing}
use Rattle.iam_index.specs.Given.{IsFree}
use Rattle.iam_index.specs.Known.{KnownValue}
use Rattle.iam_index.proofs.known.Known.is_free.Goals as goal

pub returns-in-Some : goal.returns-in-Some
returns-in-Some c =
    let i = c.args.i in
    let inside = c.self.inside in
    let V : KnownValue → Type 0 = λ known. (standing : Standing) → slice_get known.statements i ≡ Some standing → IsTrue c.is_free.result
    → IsFree known.world standing.statement.now in
    subst V c.self.view_is
    (λ standing at yes.
    let here = c.in-Some.standing.now in
    let same = c.in-Some.ensures.lookup.1 ∙ get_or_from_slice_get inside.statements.now i standing here at in
    let F : Standing → Type 0 = λ s. IsFree inside.world.now s.statement.now in
    subst F same (c.is_free.ensures inside.world.now c.self.invariant.2 yes))
