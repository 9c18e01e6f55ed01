use Rattle.std.proofs.Common.{◌<◌, length, sym, subst}
use Rattle.iam_layers.specs.Cell.{IsCell}
use Rattle.iam_selection.specs.Code.Listing.{IsActionMeant, IsPrincipalMeant, PickerValue}
use Rattle.iam_selection.specs.Selection.{IsSelected}
use Rattle.iam_selection.proofs.Flags.{flag_is, selected_meant}
use Rattle.iam_selection.proofs.picker.PickerAsks.asks_row.Goals as goal

pub returns-then-index : goal.returns-then-index
returns-then-index c off cell r is selected =
    let world = c.self.inside.world.now in
    let selection = c.self.inside.selection.now in
    let at = c.args.at in
    let C : PickerValue → Type 0 = λ v. IsCell v.world cell at.principal at.action r in
    let S : PickerValue → Type 0 = λ v. IsSelected v.selection v.world cell in
    let B : PickerValue → Type 0 = λ v. at.action < length v.world.actions in
    let back = sym c.self.view_is in
    let meant = selected_meant c.one_triple.ensures.one selection world cell at.principal at.action r (subst C back is) (subst S back selected) in
    let flag = flag_is (IsActionMeant selection world) (length world.actions) c.self.inside.actions.items at.action c.index-then-index.result.now c.self.invariant.1
    (subst B back c.requires.action) c.index-then-index.ensures in
    let on = flag.1 meant.action in
    let wrong : ⊥ = cc in wrong

pub returns-else-index : goal.returns-else-index
returns-else-index c off cell r is selected =
    let world = c.self.inside.world.now in
    let selection = c.self.inside.selection.now in
    let at = c.args.at in
    let C : PickerValue → Type 0 = λ v. IsCell v.world cell at.principal at.action r in
    let S : PickerValue → Type 0 = λ v. IsSelected v.selection v.world cell in
    let B : PickerValue → Type 0 = λ v. at.principal < length v.world.principals in
    let back = sym c.self.view_is in
    let meant = selected_meant c.one_triple.ensures.one selection world cell at.principal at.action r (subst C back is) (subst S back selected) in
    let flag = flag_is (IsPrincipalMeant selection world) (length world.principals) c.self.inside.principals.items at.principal c.index.result.now c.self.invariant.0
    (subst B back c.requires.principal) c.index.ensures in
    let on = flag.1 meant.principal in
    let wrong : ⊥ = cc in wrong
