use Rattle.std.proofs.Common.{IsTrue, length, sym, subst, ◌∙◌}
use Rattle.iam_layers.specs.Cell.{IsCell}
use Rattle.iam_selection.specs.Code.Listing.{IsActionMeant, IsPrincipalMeant, IsResourceMeant, PickerValue}
use Rattle.iam_selection.specs.Selection.{IsSelected}
use Rattle.iam_selection.proofs.Flags.{flag_is, meant_selected, selected_meant}
use Rattle.iam_selection.proofs.picker.PickerAsks.asks.Goals as goal
use Rattle.iam_selection.proofs.picker.PickerAsks.asks.Goals.{then-index, else-index}

pub returns-then-index-2 : goal.returns-then-index-2
returns-then-index-2 c =
    let world = c.self.inside.world.now in
    let selection = c.self.inside.selection.now in
    let at = c.args.at in
    let flag = c.index-then-index-2.result.now in
    let C : PickerValue → Type 0 = λ v. IsCell v.world at.cell at.principal at.action at.resource in
    let G : PickerValue → Type 0 = λ v. (IsTrue flag → IsSelected v.selection v.world at.cell) × (IsSelected v.selection v.world at.cell → IsTrue flag) in
    let is = subst C (sym c.self.view_is) c.requires in
    let principal = flag_is (IsPrincipalMeant selection world) (length world.principals) c.self.inside.principals.items at.principal c.index.result.now
    c.self.invariant.0 is.principal c.index.ensures in
    let resource = flag_is (IsResourceMeant selection world) (length world.resources) c.self.inside.resources.items at.resource flag c.self.invariant.2
    is.resource c.index-then-index-2.ensures in
    let on = c.if-index-2.true in
    let both : IsPrincipalMeant selection world at.principal × IsActionMeant selection world at.action = elim c.if-index.branch [
      | then-index w ↦
          let action = flag_is (IsActionMeant selection world) (length world.actions) c.self.inside.actions.items at.action w.index-then-index.result.now
          c.self.invariant.1 is.action w.index-then-index.ensures in
          (principal.0 w.if-index.true, action.0 (sym w.value-is ∙ on))
      | else-index w ↦ let off = w.value-is in let no = w.if-index.false in absurd (let wrong : ⊥ = cc in wrong)
    ] in
    subst G c.self.view_is (
      λ yes. meant_selected selection world at.cell at.principal at.action at.resource is (record { principal = both.0; action = both.1; resource = resource.0 yes }),
      λ selected. resource.1 (selected_meant c.one_triple.ensures.one selection world at.cell at.principal at.action at.resource is selected).resource,
    )

pub returns-else-index-2 : goal.returns-else-index-2
returns-else-index-2 c =
    let world = c.self.inside.world.now in
    let selection = c.self.inside.selection.now in
    let at = c.args.at in
    let value = c.if-index.value in
    let C : PickerValue → Type 0 = λ v. IsCell v.world at.cell at.principal at.action at.resource in
    let G : PickerValue → Type 0 = λ v. (IsTrue value → IsSelected v.selection v.world at.cell) × (IsSelected v.selection v.world at.cell → IsTrue value) in
    let is = subst C (sym c.self.view_is) c.requires in
    let principal = flag_is (IsPrincipalMeant selection world) (length world.principals) c.self.inside.principals.items at.principal c.index.result.now
    c.self.invariant.0 is.principal c.index.ensures in
    let off = c.if-index-2.false in
    subst G c.self.view_is (
      λ yes. absurd (let wrong : ⊥ = cc in wrong),
      λ selected. let meant = selected_meant c.one_triple.ensures.one selection world at.cell at.principal at.action at.resource is selected in
          elim c.if-index.branch [
            | then-index w ↦
                let action = flag_is (IsActionMeant selection world) (length world.actions) c.self.inside.actions.items at.action w.index-then-index.result.now
                c.self.invariant.1 is.action w.index-then-index.ensures in
                w.value-is ∙ action.1 meant.action
            | else-index w ↦ let no = w.if-index.false in let yes = principal.1 meant.principal in absurd (let wrong : ⊥ = cc in wrong)
          ],
    )
