use Rattle.std.proofs.Common.{Option, subst}
use Rattle.iam_world.specs.World.{WorldValue}
use Rattle.iam_matrix.specs.Code.Tiles.{IsAllowedCell, IsFirstIn}
use Rattle.iam_matrix.proofs.Offers.{offered_more}
use Rattle.iam_matrix.proofs.search.SearchCrew.work.Goals as goal

pub returns-clause-offered : goal.returns-clause-offered
returns-clause-offered g c =
    let crew = c.args.self.now in
    let asked = g.A.Asks.asked crew.asker.now in
    let tile = c.cells-tile.result in
    let Q : Option _ → Type 0 = λ found. IsFirstIn asked c.args.engine.now.world tile.from tile.count found in
    let R : WorldValue → Type 0 = λ w. IsAllowedCell asked w c.in-Some.cell in
    offered_more (IsAllowedCell asked crew.index.now) c.args.bound.now.offers c.offer.new.self.offers c.in-Some.cell c.offer.ensures.offers c.requires.offered
    (subst R c.requires.tools (subst Q c.in-Some.is c.in_ok-cell.ensures.first).0)
