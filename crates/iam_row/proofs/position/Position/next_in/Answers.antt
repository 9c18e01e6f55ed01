use Rattle.std.proofs.Common.{sym, subst}
use Rattle.iam_row.specs.declared.position.Position.{Position}
use Rattle.iam_row.proofs.Cells.{IsAt, next_there}
use Rattle.iam_row.proofs.position.Position.next_in.Goals as goal

pub returns-clause-is : goal.returns-clause-is
returns-clause-is c more =
    let world = c.args.world.now in
    let P : Position → Type 0 = λ at. IsAt world at in
    subst P (sym c.next.ensures) (next_there world c.actions.result c.resources.result c.args.self c.actions.ensures c.resources.ensures c.requires.is more)
