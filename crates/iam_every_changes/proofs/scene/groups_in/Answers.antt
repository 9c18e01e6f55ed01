use Rattle.std.proofs.Common.{◌≡◌, [], None, Some, codes, subst}
use Rattle.std.proofs.lemmas.Result.{IfOk-weaker}
use Rattle.iam_match.specs.Request.{access_of}
use Rattle.iam_decision.specs.Applicable.{value_of}
use Rattle.iam_every.specs.Groups.{groups_of}
use Rattle.iam_every.specs.OwnGroups.{AreOwnGroups, AreOwnGroupsAt}
use Rattle.iam_every.proofs.NamesLemmas.{one_some}
use Rattle.iam_every_changes.specs.Code.Scenes.{AreGroupsIn, IsSceneOf}
use Rattle.iam_every_changes.specs.States.{state_of}
use Rattle.iam_every_changes.specs.declared.scene.Scene.{Scene}
use Rattle.iam_every_changes.proofs.OptionLemmas.{of_some, some_at}
use Rattle.iam_every_changes.proofs.scene.groups_in.Goals as goal

pub returns : goal.returns
returns c =
    let world = c.args.state.asked.world.now in
    let p = c.in-Some-Some.p in
    let scene = c.in-Some-Some.scene in
    let access = access_of c.unnamed_access-access.result in
    let (its, is, of) = of_some c.args.state.principal p (c.args.scene.now ≡ None)
    (λ q. (it : Scene) × (c.args.scene.now ≡ Some it) × IsSceneOf world q c.args.unnamed it) c.in-Some-Some.is-0 c.requires.scene in
    let own : IsSceneOf world p c.args.unnamed scene =
    subst (IsSceneOf world p c.args.unnamed) (one_some c.args.scene.now its scene is c.in-Some-Some.is-1) of in
    IfOk-weaker c.text_groups.result (λ groups. AreOwnGroups (value_of scene.applicable) access c.args.action.now (groups_of groups.items))
    (λ groups. AreGroupsIn (state_of c.args.state) c.args.unnamed c.args.action.now (groups_of groups.items))
    (λ groups are. some_at c.args.state.principal p (groups_of groups.items ≡ [])
    (λ q. AreOwnGroupsAt world q c.args.unnamed c.args.action.now (groups_of groups.items)) c.in-Some-Some.is-0 (record {
      text = codes "*";
      applicable = value_of scene.applicable;
      access = access;
      asks = c.unnamed_access-access.ensures c.args.action.now (value_of scene.applicable) own.policies;
      are = are;
    })) c.text_groups.ensures.own
