use Rattle.std.proofs.Common.{◌≡◌, Option, None, Some, refl, subst}
use Rattle.iam_decision.specs.Applicable.{value_of}
use Rattle.iam_decision.specs.declared.verdict.Verdict.{Verdict}
use Rattle.iam_layers.specs.Unnamed.{IsUnnamedVerdict}
use Rattle.iam_every.proofs.NamesLemmas.{one_some}
use Rattle.iam_every_changes.specs.Code.Scenes.{IsSceneOf}
use Rattle.iam_every_changes.specs.declared.scene.Scene.{Scene}
use Rattle.iam_every_changes.proofs.OptionLemmas.{of_some, some_at}
use Rattle.iam_every_changes.proofs.scene.verdict_in.Goals as goal

pub returns : goal.returns
returns c =
    let world = c.args.state.asked.world.now in
    let p = c.in-Some-Some.p in
    let scene = c.in-Some-Some.scene in
    let answer : Option Verdict = Some c.in_ok-verdict.verdict in
    let (its, is, of) = of_some c.args.state.principal p (c.args.scene.now ≡ None)
    (λ q. (it : Scene) × (c.args.scene.now ≡ Some it) × IsSceneOf world q c.args.unnamed it) c.in-Some-Some.is-0 c.requires.scene in
    let own : IsSceneOf world p c.args.unnamed scene =
    subst (IsSceneOf world p c.args.unnamed) (one_some c.args.scene.now its scene is c.in-Some-Some.is-1) of in
    some_at c.args.state.principal p (answer ≡ None)
    (λ q. (verdict : Verdict) × (answer ≡ Some verdict) × IsUnnamedVerdict world q c.args.unnamed c.args.action.now c.args.text.now verdict)
    c.in-Some-Some.is-0 (
      c.in_ok-verdict.verdict,
      refl,
      c.in_ok-verdict.ensures world p c.args.unnamed c.args.text.now
          (c.unnamed_access-access.ensures c.args.action.now (value_of scene.applicable) own.policies),
    )
