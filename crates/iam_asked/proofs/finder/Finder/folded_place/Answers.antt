use Rattle.std.proofs.Common.{◌≡◌, ◌∙◌, ap, map, subst, sym}
use Rattle.std.specs.HashMap.{get_by_text}
use Rattle.iam_world.specs.World.{WorldValue}
use Rattle.iam_asked.specs.Code.Found.{IsPlaceOf}
use Rattle.iam_asked.specs.Texts.{folded}
use Rattle.iam_asked.proofs.finder.Finder.folded_place.Goals as goal

pub returns : goal.returns
returns c =
    let text = folded c.args.text.now in
    let map_is : c.copied.result ≡ get_by_text c.self.inside.folded text =
    c.copied.ensures ∙ c.get.ensures.value ∙ ap (λ t. get_by_text c.self.inside.folded t) (c.as_str.ensures.value ∙ c.in_ok-folded.ensures) in
    subst (IsPlaceOf (map folded c.args.self.now.actions) text) (sym map_is)
    (subst (λ (w : WorldValue). IsPlaceOf (map folded w.actions) text (get_by_text c.self.inside.folded text)) c.self.view_is (c.self.invariant.folds_are text))
