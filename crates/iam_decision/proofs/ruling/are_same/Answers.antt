use Rattle.std.proofs.Common.{◌≡◌, ◌∙◌, ap, rules}
use Rattle.std.proofs.lemmas.Bool.Decides.{Decides-and}
use Rattle.std.proofs.lemmas.Slice.Eq.{slice_eq-Decides}
use Rattle.std.specs.Bool.{Decides}
use Rattle.iam_match.specs.declared.principal.Grant.{Grant}
use Rattle.iam_match.specs.contracts.principal.GrantPartialEq.TheImpl as grant
use Rattle.iam_policy.specs.declared.effect.Effect.{Effect}
use Rattle.iam_policy.specs.contracts.effect.EffectPartialEq.TheImpl as effect
use Rattle.iam_decision.specs.declared.living.Matched.{Matched}
use Rattle.iam_decision.specs.declared.place.Place.{Place}
use Rattle.iam_decision.specs.contracts.living.MatchedPartialEq.TheImpl as the_impl
use Rattle.iam_decision.specs.contracts.place.PlacePartialEq.TheImpl as place
use Rattle.iam_decision.proofs.ruling.are_same.Goals as goal

places : (a b : Place) → Decides (place.eq-value.it a b) (a ≡ b)
places a b = search rules

effects : (a b : Effect) → Decides (effect.eq-value.it a b) (a ≡ b)
effects a b = search rules

grants : (a b : Grant) → Decides (grant.eq-value.it a b) (a ≡ b)
grants a b = search rules

abbrev matched : Place → Effect → Grant → Matched
matched place effect grant = record { place = place; effect = effect; grant = grant }

decides : (a b : Matched) → Decides (the_impl.eq-value.it a b) (a ≡ b)
decides a b =
    let parts =
    Decides-and (place.eq-value.it a.place b.place) _ (places a.place b.place)
    (Decides-and (effect.eq-value.it a.effect b.effect) (grant.eq-value.it a.grant b.grant) (effects a.effect b.effect) (grants a.grant b.grant)) in (
      λ yes.
          let (one, (two, three)) = parts.0 yes in
          ap (λ p. matched p a.effect a.grant) one ∙ ap (λ e. matched b.place e a.grant) two ∙ ap (matched b.place b.effect) three,
      λ same. parts.1 (ap (λ (m : Matched). m.place) same, (ap (λ (m : Matched). m.effect) same, ap (λ (m : Matched). m.grant) same)),
    )

pub returns : goal.returns
returns c = (slice_eq-Decides decides c.args.ones.now c.args.others.now c.eq.result c.eq.ensures).0
