use Rattle.std.proofs.Common.{subst}
use Rattle.iam_world.specs.World.{WorldValue, world_cells}
use Rattle.iam_matrix.specs.Code.Tiles.{AreEntries}
use Rattle.iam_matrix.proofs.cells.all_entries.Goals as goal

pub returns-clause-ok : goal.returns-clause-ok
returns-clause-ok g c =
    let entries = c.in_ok-indexed_entries.field-0.items in
    let W : WorldValue → Type 0 = λ w. AreEntries (g.E.Entry.is w) 0 (world_cells w) entries in subst W c.in_ok-index.ensures c.in_ok-indexed_entries.ensures
