use Rattle.std.proofs.Common.{ℕ, List, All, sym, subst}
use Rattle.iam_matrix.specs.Code.Tiles.{IsAllowedCell}
use Rattle.iam_matrix.proofs.search.SearchCrew.skip.Goals as goal

pub returns-then-is_behind-clause-offered : goal.returns-then-is_behind-clause-offered
returns-then-is_behind-clause-offered g c =
    let crew = c.args.self.now in
    let P : List ℕ → Type 0 = λ os. All (IsAllowedCell (g.A.Asks.asked crew.asker.now) crew.index.now) os in
    subst P (sym c.look.ensures.offers) c.requires.offered

pub returns-else-is_behind-clause-offered : goal.returns-else-is_behind-clause-offered
returns-else-is_behind-clause-offered g c =
    let crew = c.args.self.now in
    let P : List ℕ → Type 0 = λ os. All (IsAllowedCell (g.A.Asks.asked crew.asker.now) crew.index.now) os in
    subst P (sym c.look.ensures.offers) c.requires.offered
