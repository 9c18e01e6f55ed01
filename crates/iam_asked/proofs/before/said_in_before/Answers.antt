use Rattle.std.proofs.Common.{◌∙◌, None, Some, ap, refl, subst, sym}
use Rattle.std.specs.Option.{option_copied}
use Rattle.iam_asked.specs.Before.{IsSaidBefore, IsUnsaidBefore}
use Rattle.iam_asked.specs.Code.Found.{IsPlaceOf}
use Rattle.iam_asked.specs.TextLines.{like_resource, said_value}
use Rattle.iam_asked.specs.Texts.{resource_texts}
use Rattle.iam_asked.specs.declared.text_fault.TextFault.TheVariants as t
use Rattle.iam_asked.specs.declared.texts.SaidOf.{SaidOf}
use Rattle.iam_asked.proofs.BeforeLemmas.{resource_at}
use Rattle.iam_asked.proofs.before.said_in_before.Goals as goal

pub returns-in-Some-clause-ok : goal.returns-in-Some-clause-ok
returns-in-Some-clause-ok c =
    let before = c.args.before.now in
    let after = c.args.after.now in
    let text = c.resource_text.result.now in
    let place = c.in-Some.place.now in
    let at = resource_at after c.in-Like.n text c.resource_text.ensures in
    let has : IsPlaceOf (resource_texts before) text (Some place) =
    subst (IsPlaceOf (resource_texts before) text) (sym c.get.ensures.value ∙ ap option_copied c.in-Some.is) (c.requires.places text) in
    subst (λ (said : SaidOf). IsSaidBefore before after (said_value said) (like_resource place.first)) (sym c.in-Like.is) (text, place.first, at, has.0, refl)

pub returns-in-None-clause-fault : goal.returns-in-None-clause-fault
returns-in-None-clause-fault c = λ _.
    let before = c.args.before.now in
    let after = c.args.after.now in
    let text = c.resource_text.result.now in
    let at = resource_at after c.in-Like.n text c.resource_text.ensures in
    let nowhere : IsPlaceOf (resource_texts before) text None =
    subst (IsPlaceOf (resource_texts before) text) (sym c.get.ensures.value ∙ ap option_copied c.in-None.is) (c.requires.places text) in
    subst (λ (said : SaidOf). IsUnsaidBefore before after (said_value said) t.NoResource) (sym c.in-Like.is) (refl, (text, at, nowhere))
