use Rattle.std.proofs.Common.{ℕ, ◌≤◌, List, length, ap, ◌∙◌, arith}
use Rattle.iam_crew.specs.Bound.{bound_of}
use Rattle.iam_world.specs.World.{WorldValue, world_cells}
use Rattle.iam_matrix.specs.Code.Tiles.{AreNotAllowedBelow}
use Rattle.iam_matrix.proofs.Offers.{first_allowed}
use Rattle.iam_matrix.proofs.Tiles.{chain_all}
use Rattle.iam_matrix.proofs.search.first_asked.Goals as goal

pub returns : goal.returns
returns g c =
    let asked = g.A.Asks.asked c.args.asker.now in
    let world = c.args.index.now in
    let lengths = c.args.cut.now in
    let gathered = c.in_ok-gathered.ensures in
    let low = c.in_ok-gathered.gathered.low in
    let outputs = c.in_ok-gathered.gathered.outputs.items in
    let chained = chain_all (λ from n output. AreNotAllowedBelow asked world from n (bound_of low)) lengths outputs
    (gathered.count ∙ ap (λ (ls : List ℕ). length ls) c.lengths.ensures.value) gathered.given in
    let few : world_cells world ≤ 16777216 = omega (arith, c.cells-cells.ensures.value, c.cells-cells.ensures.few, ap (λ (w : WorldValue). world_cells w) c.world.ensures) in
    first_allowed asked world lengths outputs low c.requires.cut few chained gathered.low
