use Rattle.std.proofs.Common.{ℕ, Option, Some, None, subst, arith}
use Rattle.iam_world.specs.World.{WorldValue, world_cells}
use Rattle.iam_matrix.specs.Code.Tiles.{IsFirstIn}
use Rattle.iam_selection.specs.Selection.{IsFirstSelected, IsSelected, SelectionValue}
use Rattle.iam_selection.proofs.report.first_selected.Goals as goal

-- the cells that are selected are asked about
first_of_selected : (selection : SelectionValue) (world : WorldValue) (first : Option ℕ)
    → IsFirstIn (IsSelected selection world) world 0 (world_cells world) first → IsFirstSelected selection world first
first_of_selected selection world None none = λ cell below. none cell (omega arith) (omega arith)
first_of_selected selection world (Some found) (is, within, lower) = (is.below, is.asked, is.allowed, λ cell. lower cell (omega arith))

pub returns-clause-ok : goal.returns-clause-ok
returns-clause-ok g c =
    let world = c.args.world.now in
    let picker = c.in_ok-picker.picker in
    let found = c.in_ok-first_asked.field-0 in
    let I : WorldValue → Type 0 = λ w. IsFirstIn (IsSelected picker.selection picker.world) w 0 (world_cells w) found in
    let W : WorldValue → Type 0 = λ w. IsFirstIn (IsSelected picker.selection w) world 0 (world_cells world) found in
    let S : SelectionValue → Type 0 = λ s. IsFirstIn (IsSelected s world) world 0 (world_cells world) found in
    let first = subst S c.in_ok-picker.ensures.selection (subst W c.in_ok-picker.ensures.world (subst I c.in_ok-index.ensures c.in_ok-first_asked.ensures)) in
    first_of_selected c.args.selection.now world found first
