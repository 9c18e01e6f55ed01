use Rattle.std.proofs.Common.{◌++◌, ◌∙◌, All, inr, string_bytes, List, ap, map, subst, sym}
use Rattle.std.proofs.lemmas.List.{map-append}
use Rattle.std.proofs.lemmas.List.Elements.{All-append}
use Rattle.iam_glob.specs.Signs.{signs_in}
use Rattle.iam_glob.specs.declared.sign.Sign.{Sign}
use Rattle.iam_kinds.specs.Answers.{IsAnswerFold}
use Rattle.iam_kinds.specs.Shown.{AreKindsFold}
use Rattle.iam_kinds.specs.declared.kinds.Kinds.TheVariants.{NotShown, Shown}
use Rattle.iam_decision.specs.Applicable.{ApplicableValue, IsNumbered, value_of}
use Rattle.iam_every.specs.Made.{AreShownFold}
use Rattle.iam_every.specs.Names.{action_question}
use Rattle.iam_every.specs.OwnActions.{AreOwnActionGroups}
use Rattle.iam_every.proofs.MadeLemmas.{all_utf8, spelled}
use Rattle.iam_every_changes.specs.Changes.{AreBothActionGroups}
use Rattle.iam_every_changes.specs.States.{both_of}
use Rattle.iam_every_changes.proofs.actions.kinds_of.Goals as goal

pub action_groups-requires : goal.action_groups-requires
action_groups-requires c =
    let ps = c.in_ok-policies.policies.items in
    let ms = c.in_ok-more.more.items in
    subst (λ l. All IsNumbered (map value_of l)) (sym (c.as_slice.ensures.value ∙ c.in_ok-append.ensures.items))
    (subst (All IsNumbered) (sym (map-append value_of ps ms))
    (All-append IsNumbered (map value_of ps) (map value_of ms) c.in_ok-policies.ensures.numbered c.in_ok-more.ensures.numbered))

pub returns-in-Shown : goal.returns-in-Shown
returns-in-Shown c =
    let ps = c.in_ok-policies.policies.items in
    let ms = c.in_ok-more.more.items in
    let groups = map (λ g. map signs_in g.items) c.in_ok-groups.groups.items in
    let are : AreOwnActionGroups (map value_of ps ++ map value_of ms) groups =
    subst (λ (l : List ApplicableValue). AreOwnActionGroups l groups)
    (ap (map value_of) (c.as_slice.ensures.value ∙ c.in_ok-append.ensures.items) ∙ map-append value_of ps ms) c.in_ok-groups.ensures.own in
    let own : AreBothActionGroups (both_of c.args.both) groups =
    (map value_of ps, map value_of ms, c.in_ok-policies.ensures.own, c.in_ok-more.ensures.own, are) in
    let question = action_question groups c.args.pattern.now in
    let answer : IsAnswerFold question (Shown c.in-Shown.actions) =
    subst (IsAnswerFold question) c.in-Shown.is
    (subst (λ (p : List Sign). IsAnswerFold (action_question groups p) c.in_ok-actions.field-0) c.signs.ensures
    (subst (λ l. IsAnswerFold (action_question (map (λ g. map signs_in g.items) l) (signs_in c.signs.result)) c.in_ok-actions.field-0) c.as_slice-2.ensures.value
    c.in_ok-actions.ensures)) in
    let shown : AreShownFold question (map string_bytes c.in-Shown.actions.items) = record {
      utf8 = all_utf8 c.in-Shown.actions.items;
      kinds = subst (AreKindsFold question) (spelled c.in-Shown.actions.items) answer.0;
      all = answer.1;
    } in
    inr (c.args.pattern.now, c.requires.pattern, record { groups = groups; own = own; shown = shown })

pub returns : goal.returns
returns c =
    let ps = c.in_ok-policies.policies.items in
    let ms = c.in_ok-more.more.items in
    let groups = map (λ g. map signs_in g.items) c.in_ok-groups.groups.items in
    let are : AreOwnActionGroups (map value_of ps ++ map value_of ms) groups =
    subst (λ (l : List ApplicableValue). AreOwnActionGroups l groups)
    (ap (map value_of) (c.as_slice.ensures.value ∙ c.in_ok-append.ensures.items) ∙ map-append value_of ps ms) c.in_ok-groups.ensures.own in
    let own : AreBothActionGroups (both_of c.args.both) groups =
    (map value_of ps, map value_of ms, c.in_ok-policies.ensures.own, c.in_ok-more.ensures.own, are) in
    let question = action_question groups c.args.pattern.now in
    let answer : IsAnswerFold question NotShown =
    subst (IsAnswerFold question) c.in-NotShown.is
    (subst (λ (p : List Sign). IsAnswerFold (action_question groups p) c.in_ok-actions.field-0) c.signs.ensures
    (subst (λ l. IsAnswerFold (action_question (map (λ g. map signs_in g.items) l) (signs_in c.signs.result)) c.in_ok-actions.field-0) c.as_slice-2.ensures.value
    c.in_ok-actions.ensures)) in
    record { pattern = c.args.pattern.now; is = c.requires.pattern; groups = groups; own = own; passes = answer }
