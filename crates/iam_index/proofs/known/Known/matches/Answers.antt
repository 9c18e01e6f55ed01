use Rattle.std.proofs.Common.{◌≡◌, IfSome, Some, subst}
use Rattle.std.specs.List.{slice_get}
use Rattle.iam_decision.specs.declared.scan.Standing.{Standing}
use Rattle.iam_index.specs.Known.{KnownValue}
use Rattle.iam_columns.specs.Rows.{TellsMatch}
use Rattle.iam_index.proofs.known.Known.matches.Goals as goal

pub returns : goal.returns
returns c =
    let i = c.args.i in
    let inside = c.self.inside in
    let V : KnownValue → Type 0 = λ known. (standing : Standing) → slice_get known.statements i ≡ Some standing
    → IfSome c.matches.result (TellsMatch known.world standing.statement.now.resource c.args.r) in
    subst V c.self.view_is
    (λ standing at. c.matches.ensures inside.world.now standing.statement.now.resource c.self.invariant.0
    (c.row_at.ensures inside.statements.now inside.rows.now.rows.items standing at c.self.invariant.1))
