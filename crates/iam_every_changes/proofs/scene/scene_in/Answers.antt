use Rattle.std.proofs.Common.{◌≡◌, Option, None, Some, option_map, ap, refl, subst}
use Rattle.iam_context.specs.Context.{ContextValue}
use Rattle.iam_layers.specs.Unnamed.{AreUnnamedKeys}
use Rattle.iam_every_changes.specs.Code.Scenes.{IsSceneOf}
use Rattle.iam_every_changes.specs.declared.scene.Scene.{Scene}
use Rattle.iam_every.proofs.NamesLemmas.{one_some}
use Rattle.iam_every_changes.proofs.OptionLemmas.{of_some, some_at}
use Rattle.iam_every_changes.proofs.scene.scene_in.Goals as goal

pub returns : goal.returns
returns c =
    let world = c.args.state.asked.world.now in
    let p = c.in-Some-Some.p in
    let keys : Option ContextValue = option_map (λ derived. derived.items) c.args.keys.now in
    let scene : Scene = record { applicable = c.unnamed_applicable-applicable.result; context = c.in_ok-context.context } in
    let found : Option Scene = Some scene in
    let (derived, is, of) = of_some c.args.state.principal p (keys ≡ None)
    (λ q. (it : ContextValue) × (keys ≡ Some it) × AreUnnamedKeys world q c.args.unnamed it) c.in-Some-Some.is-0 c.requires.keys in
    let own : derived ≡ c.in-Some-Some.keys.items =
    one_some keys derived c.in-Some-Some.keys.items is (ap (option_map (λ d. d.items)) c.in-Some-Some.is-1) in
    some_at c.args.state.principal p (found ≡ None) (λ q. (it : Scene) × (found ≡ Some it) × IsSceneOf world q c.args.unnamed it)
    c.in-Some-Some.is-0 (
      scene,
      refl,
      record {
        policies = c.unnamed_applicable-applicable.ensures.value;
        numbered = c.unnamed_applicable-applicable.ensures.numbered;
        derived = c.in-Some-Some.keys.items;
        keys = subst (AreUnnamedKeys world p c.args.unnamed) own of;
        within = c.in_ok-context.ensures;
      },
    )
