use Rattle.std.proofs.Common.{◌↔◌, ◌∙◌, Bool, IsTrue, List, length, sym, subst}
use Rattle.std.specs.List.{list_any}
use Rattle.iam_selection.specs.Code.Listing.{IsActionMeant, IsPrincipalMeant, IsResourceMeant, PickerValue}
use Rattle.iam_selection.specs.Selection.{SelectsSome}
use Rattle.iam_selection.proofs.Flags.{AreMeant, flags_of_meant, meant_of_flags, selected_meant, some_selected}
use Rattle.iam_selection.proofs.picker.Picker.picks_some.Goals as goal

pub returns : goal.returns
returns c =
    let world = c.self.inside.world.now in
    let selection = c.self.inside.selection.now in
    let (principals, actions, resources) = c.self.invariant in
    let B : Bool → Type 0 = λ b. IsTrue b in
    let L : List Bool → Type 0 = λ flags. IsTrue (list_any (λ flag. flag) flags) in
    let G : PickerValue → Type 0 = λ v. IsTrue c.are_all.result ↔ SelectsSome v.selection v.world in
    subst G c.self.view_is (
      λ yes.
          let (one, two, three) = c.are_all.ensures.0 yes in
          let (p, p_below, p_meant) = meant_of_flags (IsPrincipalMeant selection world) (length world.principals) c.self.inside.principals.items principals
          (subst L c.as_slice.ensures.value (subst B c.has_some-principal.ensures one)) in
          let (a, a_below, a_meant) = meant_of_flags (IsActionMeant selection world) (length world.actions) c.self.inside.actions.items actions
          (subst L c.as_slice-2.ensures.value (subst B c.has_some-action.ensures two)) in
          let (r, r_below, r_meant) = meant_of_flags (IsResourceMeant selection world) (length world.resources) c.self.inside.resources.items resources
          (subst L c.as_slice-3.ensures.value (subst B c.has_some-resource.ensures three)) in
          some_selected selection world p a r p_below a_below r_below (record { principal = p_meant; action = a_meant; resource = r_meant }),
      λ (cell, (texts, (p, a, r, is, has), asks)).
          let meant : AreMeant selection world p a r =
          selected_meant c.one_triple.ensures.one selection world cell p a r is (texts, (p, a, r, is, has), asks) in
          let one = flags_of_meant (IsPrincipalMeant selection world) (length world.principals) c.self.inside.principals.items p principals is.principal meant.principal in
          let two = flags_of_meant (IsActionMeant selection world) (length world.actions) c.self.inside.actions.items a actions is.action meant.action in
          let three = flags_of_meant (IsResourceMeant selection world) (length world.resources) c.self.inside.resources.items r resources is.resource meant.resource in
          c.are_all.ensures.1 (
            subst B (sym c.has_some-principal.ensures) (subst L (sym c.as_slice.ensures.value) one),
            subst B (sym c.has_some-action.ensures) (subst L (sym c.as_slice-2.ensures.value) two),
            subst B (sym c.has_some-resource.ensures) (subst L (sym c.as_slice-3.ensures.value) three),
          ),
    )
