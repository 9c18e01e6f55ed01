use Rattle.std.proofs.Common.{◌≤◌, ◌+◌, ◌*◌, length, sym, arith}
use Rattle.iam_world.specs.World.{world_cells}
use Rattle.iam_layers.proofs.CellLemmas.{cell_below}
use Rattle.iam_layers.proofs.world.World.cell.Goals as goal

fits : (c : goal.After-resources) → (c.args.p * c.actions.result + c.args.a) * c.resources.result + c.args.r ≤ 16777216
fits c =
    let w = c.args.self.now in
    let below =
    cell_below (length w.principals) (length w.actions) (length w.resources) c.args.p c.args.a c.args.r c.requires.principal c.requires.action
    c.requires.resource in
    let cells : world_cells w ≤ 16777216 = rw (sym c.cells-cells.ensures.value) c.cells-cells.ensures.few in
    rw (c.actions.ensures, c.resources.ensures) (omega (arith, below, cells))

pub overflow_mul-result-2 : goal.overflow_mul-result-2
overflow_mul-result-2 c = omega (arith, fits c)

pub overflow_add-result-2 : goal.overflow_add-result-2
overflow_add-result-2 c = omega (arith, fits c)
