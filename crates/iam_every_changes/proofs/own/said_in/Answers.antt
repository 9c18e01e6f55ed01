use Rattle.std.proofs.Common.{◌∙◌, inl, inr, ℕ, List, None, Some, ap, refl, subst, sym}
use Rattle.std.specs.Option.{option_copied}
use Rattle.iam_world.specs.World.{ResourceValue}
use Rattle.iam_asked.specs.Code.Found.{IsPlaceOf}
use Rattle.iam_asked.specs.Texts.{resource_texts}
use Rattle.iam_every.specs.Every.{IsNamed, LineValue}
use Rattle.iam_every.proofs.LineLemmas.{line_there}
use Rattle.iam_asked.proofs.BeforeLemmas.{image_at}
use Rattle.iam_every_changes.proofs.JoinLemmas.{at_image}
use Rattle.iam_every_changes.proofs.own.said_in.Goals as goal

pub returns-in-Some-clause-some : goal.returns-in-Some-clause-some
returns-in-Some-clause-some c =
    let world = c.args.asked.world.now in
    let text = c.args.text.now in
    let place = c.in-Some.place.now in
    let (line, first) = c.in_ok-k.ensures in
    let has : IsPlaceOf (resource_texts world) text (Some place) =
    subst (IsPlaceOf (resource_texts world) text) (sym c.get.ensures.value ∙ ap option_copied c.in-Some.is) (c.requires text) in
    let (resource, at, is) = at_image (λ (x : ResourceValue). x.arn) world.resources place.first text has.0.0 in
    (c.in_ok-k.k, line, first, inl (place.first, (resource, at, is), refl))

pub returns-in-None-clause-some : goal.returns-in-None-clause-some
returns-in-None-clause-some c =
    let world = c.args.asked.world.now in
    let text = c.args.text.now in
    let k = c.in_ok-k.k in
    let (line, first) = c.in_ok-k.ensures in
    let nowhere : IsPlaceOf (resource_texts world) text None =
    subst (IsPlaceOf (resource_texts world) text) (sym c.get.ensures.value ∙ ap option_copied c.in-None.is) (c.requires text) in
    let never : ¬ IsNamed world text = λ (r, (resource, at, is)).
    nowhere r (image_at (λ (x : ResourceValue). x.arn) world.resources r resource at ∙ ap (λ (t : List ℕ). Some t) is) in
    let same = line_there c.args.asked.lines.now k c.index-asked-k.result line first.at in
    (k, line, first, inr (never, ap (λ (x : LineValue). x.unnamed) same))
