use Rattle.std.proofs.Common.{◌∷◌, [], ◌++◌, List, map, ◌∙◌, ap}
use Rattle.std.proofs.lemmas.List.{map-append}
use Rattle.iam_element.specs.Reading.{ActionElement}
use Rattle.iam_policy.specs.declared.effect.Effect.{Effect}
use Rattle.iam_match.specs.declared.principal.Grant.{Grant}
use Rattle.iam_match.specs.Principal.{grant_of}
use Rattle.iam_decision.specs.Living.{LivingValue, living_value}
use Rattle.iam_decision.proofs.living.push_living.Goals as goal

pub returns : goal.returns
returns c =
    let statement = c.args.standing.statement.now in
    let made : Effect → Grant → ActionElement → List LivingValue = λ e g a.
    map living_value c.args.living.now.items ++ (record { matched = record { place = c.args.standing.place; effect = e; grant = g }; action = a } ∷ []) in
    ap (map living_value) c.in_ok-push.ensures.items
    ∙ map-append living_value c.args.living.now.items _
    ∙ ap (λ e. made e c.grant_kind.result c.action.result.now) c.effect.ensures
    ∙ ap (λ g. made statement.effect g c.action.result.now) c.grant_kind.ensures
    ∙ ap (λ a. made statement.effect (grant_of statement.principal c.args.requester.now) a) c.action.ensures
