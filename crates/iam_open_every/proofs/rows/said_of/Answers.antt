use Rattle.std.proofs.Common.{◌≡◌, ◌∙◌, MatchOption, None, Option, Some, ap, refl, string_bytes, subst, sym}
use Rattle.std.specs.Arc.{arc_value}
use Rattle.iam_every.specs.Every.{every_of}
use Rattle.iam_layers.specs.declared.unnamed.Unnamed.{Unnamed}
use Rattle.iam_open_every.specs.Said.{AreSaidOf}
use Rattle.iam_open_every.specs.Spots.{IsTextSpot, IsUnshownSpot}
use Rattle.iam_open_every.specs.declared.said.Said.{Said}
use Rattle.iam_open_every.proofs.RowLemmas.{said_at, says_there}
use Rattle.iam_open_every.proofs.rows.said_of.Goals as goal

pub returns-in_ok-said_on-in-Some : goal.returns-in_ok-said_on-in-Some
returns-in_ok-said_on-in-Some c =
    let every = every_of c.args.given.asked in
    let p = c.args.given.p in
    let text = string_bytes (arc_value c.args.spot.now.text) in
    let unnamed = c.in-Some.unnamed in
    let is_text : IsTextSpot every text unnamed =
    subst (λ (o : Option Unnamed). MatchOption o (IsUnshownSpot every p text) (IsTextSpot every text)) c.in-Some.is c.requires.spot in
    let said = c.in_ok-said_on-in-Some.field-0 in
    let scene = c.scene_of-scene.result in
    let of = c.scene_of-scene.ensures in
    let is =
    said_at c.args.brief every p c.args.action.now text unnamed scene.world.now scene.p scene.target _ said of.world of.principal of.target
    (c.as_str.ensures.value ∙ ap string_bytes c.deref.ensures) (says_there every text unnamed c.requires.given.there is_text.says)
    c.in_ok-said_on-in-Some.ensures in
    subst (λ (o : Option Unnamed). MatchOption o (Some said ≡ None)
    (λ u. (it : Said) × (Some said ≡ Some it) × AreSaidOf c.args.brief every.world p u c.args.action.now text it)) (sym c.in-Some.is) (said, refl, is)
