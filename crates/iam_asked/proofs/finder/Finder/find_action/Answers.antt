use Rattle.std.proofs.Common.{inl, inr, Some, None, map, subst, sym}
use Rattle.iam_world.specs.World.{WorldValue}
use Rattle.iam_asked.specs.Code.Found.{IsPlaceOf}
use Rattle.iam_asked.specs.Texts.{IsActionAt, folded}
use Rattle.iam_asked.proofs.finder.Finder.find_action.Goals as goal

pub returns-in-Some-clause-ok : goal.returns-in-Some-clause-ok
returns-in-Some-clause-ok c =
    let text = c.args.text.now in
    let world = c.self.inside.world.now in
    let place : IsPlaceOf world.actions text (Some c.in-Some.place.now) =
    subst (IsPlaceOf world.actions text) (sym c.in-Some.ensures.value) (c.self.invariant.actions_are text) in
    subst (λ (w : WorldValue). IsActionAt w.actions text c.in-Some.place.now.first) c.self.view_is (inl place.0)

pub returns-in-Some-2-clause-ok : goal.returns-in-Some-2-clause-ok
returns-in-Some-2-clause-ok c =
    let text = c.args.text.now in
    let world = c.self.inside.world.now in
    let none : IsPlaceOf world.actions text None = subst (IsPlaceOf world.actions text) (sym c.in_default.ensures.value) (c.self.invariant.actions_are text) in
    let actions = c.args.self.now.actions in
    let place : IsPlaceOf (map folded actions) (folded text) (Some c.in-Some-2.place) =
    subst (IsPlaceOf (map folded actions) (folded text)) c.in-Some-2.is c.in_ok-place.ensures in
    inr (subst (λ (w : WorldValue). IsPlaceOf w.actions text None) c.self.view_is none, place.0)
