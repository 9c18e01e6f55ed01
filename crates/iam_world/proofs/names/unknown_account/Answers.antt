use Rattle.std.proofs.Common.{◌≡◌, ◌∙◌, List, map, not, option_map, refl, sym, ap, subst}
use Rattle.std.specs.List.{position_from}
use Rattle.iam_world.specs.Code.ViewFault.{FindsFirst}
use Rattle.iam_shape.specs.Texts.{has_text}
use Rattle.iam_shape.specs.Lent.{resource_of}
use Rattle.iam_shape.specs.LentWorld.{world_of}
use Rattle.iam_shape.specs.First.{with_paths}
use Rattle.iam_world.specs.WorldFault.{IsOfUnknownAccount, of_principal, of_resource}
use Rattle.iam_shape.specs.declared.path.Name.TheVariants.{Principals, Resources}
use Rattle.iam_shape.specs.declared.path.Path.TheVariants.{Item}
use Rattle.iam_shape.specs.declared.view.ResourceView.{ResourceView}
use Rattle.iam_world.proofs.Owners.{first_user, first_resource, in_users, in_resources}
use Rattle.iam_world.proofs.names.unknown_account.Goals as goal

pub returns-in-Some : goal.returns-in-Some
returns-in-Some c =
    let world = world_of c.args.world.now in
    let ids = c.args.world.now.accounts.ids in
    let known = c.args.world.now.accounts.known in
    let users = with_paths (Item Principals) 0 (map of_principal world.principals) in
    let found = ap (option_map (Item Principals)) (sym c.first_unknown_user.ensures) ∙ sym c.at.ensures ∙ c.in-Some.is in
    in_users world ids known c.in-Some.path
    (subst (FindsFirst (IsOfUnknownAccount world) users) found (first_user world ids known c.one_requester.ensures c.args.requesters.now c.requires))

pub returns-in-None : goal.returns-in-None
returns-in-None c =
    let world = world_of c.args.world.now in
    let ids = c.args.world.now.accounts.ids in
    let known = c.args.world.now.accounts.known in
    let users = with_paths (Item Principals) 0 (map of_principal world.principals) in
    let resources = with_paths (Item Resources) 0 (map of_resource world.resources) in
    let none = ap (option_map (Item Principals)) (sym c.first_unknown_user.ensures) ∙ sym c.at.ensures ∙ c.in-None.is in
    let owners : List ResourceView = c.args.world.now.resources.items in
    let test = λ (r : ResourceView). not (has_text ids r.account.now) in
    let last : option_map (Item Resources) (position_from test 0 owners) ≡ c.at-in-None.result =
    ap (λ (rs : List ResourceView). option_map (Item Resources) (position_from test 0 rs)) (sym c.as_slice.ensures.value)
    ∙ ap (option_map (Item Resources)) (sym c.first_unknown_owner.ensures) ∙ sym c.at-in-None.ensures in
    in_resources world ids known c.at-in-None.result
    (subst (FindsFirst (IsOfUnknownAccount world) users) none (first_user world ids known c.one_requester.ensures c.args.requesters.now c.requires))
    (subst (FindsFirst (IsOfUnknownAccount world) resources) last (first_resource world ids known resource_of owners refl))
