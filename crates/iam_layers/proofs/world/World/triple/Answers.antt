use Rattle.std.proofs.Common.{length}
use Rattle.iam_layers.proofs.CellLemmas.{cell_parts}
use Rattle.iam_layers.proofs.world.World.triple.Goals as goal

pub returns-clause-is : goal.returns-clause-is
returns-clause-is c =
    let w = c.args.self.now in
    let parts = cell_parts (length w.principals) (length w.actions) (length w.resources) c.args.cell c.requires in
    rw (c.resources.ensures, c.actions.ensures, c.actions-2.ensures, c.resources-2.ensures)
    (record { principal = parts.0; action = parts.1; resource = parts.2; number = parts.3 })
