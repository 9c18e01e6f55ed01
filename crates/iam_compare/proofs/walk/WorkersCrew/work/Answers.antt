use Rattle.std.proofs.Common.{◌≡◌, ◌+◌, ℕ, IfOk, ap, subst, ◌∙◌, arith, slice_index}
use Rattle.iam_world.specs.World.{world_cells}
use Rattle.iam_matrix.specs.Cut.{start_of}
use Rattle.iam_compare.specs.Code.Walk.{IsPartOf, asked_of, reached}
use Rattle.iam_compare.proofs.Reaches.{counted_up}
use Rattle.iam_compare.proofs.walk.WorkersCrew.work.Goals as goal

pub part_of-requires-clause-order : goal.part_of-requires-clause-order
part_of-requires-clause-order c =
    let requests = c.args.self.now.requests.now in
    let tile = c.cells-tile.result in
    counted_up (world_cells requests.after) (world_cells requests.before) requests.count tile.from (tile.from + tile.count) c.reach-from.result c.reach-to.result c.reach-from.ensures.value
    c.reach-to.ensures.value (omega arith) c.reach-from.ensures.few

pub returns-clause-given : goal.returns-clause-given
returns-clause-given c =
    let crew = c.args.self.now in
    let requests = crew.requests.now in
    let tile = c.cells-tile.result in
    let start = start_of crew.cut.now c.args.tile in
    let count = slice_index crew.cut.now c.args.tile in
    let IsPart : ℕ → ℕ → Type 0 = λ from to. IfOk c.part_of.result (IsPartOf (asked_of crew) requests crew.asked.format crew.asked.brief from to) in
    let from : c.reach-from.result ≡ reached requests start = c.reach-from.ensures.value ∙ ap (reached requests) c.cells-tile.ensures.from in
    let to : c.reach-to.result ≡ reached requests (start + count) =
    c.reach-to.ensures.value ∙ ap (λ m. reached requests (m + tile.count)) c.cells-tile.ensures.from ∙ ap (λ n. reached requests (start + n)) c.cells-tile.ensures.count in
    subst (λ m. IsPart m (reached requests (start + count))) from (subst (IsPart c.reach-from.result) to c.part_of.ensures.part)
