use Rattle.std.proofs.Common.{ℕ, List, codes, map, subst, sym}
use Rattle.iam_match.specs.Request.{access_of}
use Rattle.iam_decision.specs.Applicable.{value_of}
use Rattle.iam_decision.specs.Code.Scan.{placed_value}
use Rattle.iam_decision.specs.Matched.{Selects, placed}
use Rattle.iam_layers.specs.Unnamed.{IsUnnamedAccess}
use Rattle.iam_layers.specs.declared.unnamed.Unnamed.{Unnamed}
use Rattle.iam_every.specs.Code.Picked.{IsEligible}
use Rattle.iam_every.specs.Code.Told.{IsScene}
use Rattle.iam_every.specs.Every.{every_of}
use Rattle.iam_every.specs.declared.scene.Scene.{Scene}
use Rattle.iam_every.proofs.NamesLemmas.{text_of}
use Rattle.iam_every.proofs.SceneLemmas.{about_map}
use Rattle.iam_every.proofs.told.told_with.Goals as goal

pub told_in-requires-clause-scene : goal.told_in-requires-clause-scene
told_in-requires-clause-scene c =
    let given = c.args.given in
    let world = given.asked.world.now in
    let p = given.p in
    let unnamed = c.args.unnamed in
    let a = value_of c.unnamed_applicable-applicable.result in
    let access = access_of c.unnamed_access-access.result in
    let scene : Scene = record { access = c.unnamed_access-access.result; frame = c.frame.result; eligible = c.as_slice.result } in
    let asks : (action : List ℕ) → IsUnnamedAccess world p unnamed action access.resource a access = λ action.
    let h = c.unnamed_access-access.ensures action a c.unnamed_applicable-applicable.ensures.value in
    subst (λ (t : List ℕ). IsUnnamedAccess world p unnamed action t a access) (sym (text_of world p unnamed action (codes "*") a access h)) h in
    let is : IsScene world p unnamed scene = record {
      applicable = a;
      asks = asks;
      frame = c.frame.ensures;
      eligible = subst (λ items. Selects (IsEligible access) (placed a) (map placed_value items)) (sym c.as_slice.ensures.value) c.in_ok-eligible.ensures;
    } in
    about_map (every_of given.asked) c.args.about _ (λ u. IsScene world p u scene) (λ u same. subst (λ (x : Unnamed). IsScene world p x scene) (sym same) is)
    c.requires.unnamed
