use Rattle.std.proofs.Common.{All, inr, string_bytes, List, map, subst, sym}
use Rattle.iam_glob.specs.Signs.{signs_in}
use Rattle.iam_glob.specs.declared.sign.Sign.{Sign}
use Rattle.iam_kinds.specs.Answers.{IsAnswerFold}
use Rattle.iam_kinds.specs.Shown.{AreKindsFold}
use Rattle.iam_kinds.specs.declared.kinds.Kinds.TheVariants.{NotShown, Shown}
use Rattle.iam_decision.specs.Applicable.{value_of}
use Rattle.iam_layers.specs.Unnamed.{IsThere}
use Rattle.iam_layers.specs.declared.unnamed.Unnamed.{Unnamed}
use Rattle.iam_every.specs.Code.Meant.{CoverAll}
use Rattle.iam_every.specs.Every.{AreOwnActionGroupsAt, every_of}
use Rattle.iam_every.specs.Made.{AreShownFold}
use Rattle.iam_every.specs.Names.{AreActionGroups, action_question}
use Rattle.iam_every.specs.OwnActions.{AreOwnActionGroups, AreOwnPolicies}
use Rattle.iam_every.proofs.MadeLemmas.{all_utf8, spelled}
use Rattle.iam_every.proofs.MeantLemmas.{actions_pass, all_there, are_actions}
use Rattle.iam_every.proofs.meant.kinds_of.Goals as goal

pub policies_of-requires-clause-there : goal.policies_of-requires-clause-there
policies_of-requires-clause-there c =
    let every = every_of c.args.asked in
    subst (All (IsThere every.world)) (sym c.as_slice.ensures.value) (all_there every c.in_ok-said.said.items c.requires.there c.in_ok-said.ensures)

pub returns-in-Shown-clause-alike : goal.returns-in-Shown-clause-alike
returns-in-Shown-clause-alike c =
    let every = every_of c.args.asked in
    let applicables = map value_of c.in_ok-policies.policies.items in
    let groups = map (λ g. map signs_in g.items) c.in_ok-groups.groups.items in
    let cover : CoverAll every.world c.args.p c.in_ok-said.said.items applicables =
    subst (λ (l : List Unnamed). CoverAll every.world c.args.p l applicables) c.as_slice.ensures.value c.in_ok-policies.ensures.cover in
    let are : AreActionGroups applicables groups =
    subst (λ l. AreActionGroups (map value_of l) groups) c.as_slice-2.ensures.value c.in_ok-groups.ensures.groups in
    let answer : IsAnswerFold (action_question groups c.args.pattern.now) (Shown c.in-Shown.actions) =
    subst (IsAnswerFold (action_question groups c.args.pattern.now)) c.in-Shown.is
    (subst (λ (p : List Sign). IsAnswerFold (action_question groups p) c.in_ok-actions.field-0) c.signs.ensures
    (subst (λ l. IsAnswerFold (action_question (map (λ g. map signs_in g.items) l) (signs_in c.signs.result)) c.in_ok-actions.field-0) c.as_slice-3.ensures.value
    c.in_ok-actions.ensures)) in
    are_actions every c.args.p c.args.pattern.now c.in_ok-said.said.items applicables groups c.in-Shown.actions.items c.requires.pattern c.in_ok-said.ensures cover are answer.0

pub returns-in-Shown-clause-asked : goal.returns-in-Shown-clause-asked
returns-in-Shown-clause-asked c =
    let every = every_of c.args.asked in
    let applicables = map value_of c.in_ok-policies.policies.items in
    let groups = map (λ g. map signs_in g.items) c.in_ok-groups.groups.items in
    let apply : AreOwnPolicies every.world c.args.p c.in_ok-said.said.items applicables =
    subst (λ (l : List Unnamed). AreOwnPolicies every.world c.args.p l applicables) c.as_slice.ensures.value c.in_ok-policies.ensures.own in
    let own : AreOwnActionGroupsAt every c.args.p groups = record {
      said = c.in_ok-said.said.items;
      are_said = c.in_ok-said.ensures;
      applicables = applicables;
      apply = apply;
      are = subst (λ l. AreOwnActionGroups (map value_of l) groups) c.as_slice-2.ensures.value c.in_ok-groups.ensures.own;
    } in
    let answer : IsAnswerFold (action_question groups c.args.pattern.now) (Shown c.in-Shown.actions) =
    subst (IsAnswerFold (action_question groups c.args.pattern.now)) c.in-Shown.is
    (subst (λ (p : List Sign). IsAnswerFold (action_question groups p) c.in_ok-actions.field-0) c.signs.ensures
    (subst (λ l. IsAnswerFold (action_question (map (λ g. map signs_in g.items) l) (signs_in c.signs.result)) c.in_ok-actions.field-0) c.as_slice-3.ensures.value
    c.in_ok-actions.ensures)) in
    let question = action_question groups c.args.pattern.now in
    let shown : AreShownFold question (map string_bytes c.in-Shown.actions.items) = record {
      utf8 = all_utf8 c.in-Shown.actions.items;
      kinds = subst (AreKindsFold question) (spelled c.in-Shown.actions.items) answer.0;
      all = answer.1;
    } in
    inr (c.args.pattern.now, c.requires.pattern, record { groups = groups; own = own; shown = shown })

pub returns-clause-alike : goal.returns-clause-alike
returns-clause-alike c =
    let every = every_of c.args.asked in
    let applicables = map value_of c.in_ok-policies.policies.items in
    let groups = map (λ g. map signs_in g.items) c.in_ok-groups.groups.items in
    let apply : AreOwnPolicies every.world c.args.p c.in_ok-said.said.items applicables =
    subst (λ (l : List Unnamed). AreOwnPolicies every.world c.args.p l applicables) c.as_slice.ensures.value c.in_ok-policies.ensures.own in
    let own : AreOwnActionGroupsAt every c.args.p groups = record {
      said = c.in_ok-said.said.items;
      are_said = c.in_ok-said.ensures;
      applicables = applicables;
      apply = apply;
      are = subst (λ l. AreOwnActionGroups (map value_of l) groups) c.as_slice-2.ensures.value c.in_ok-groups.ensures.own;
    } in
    let answer : IsAnswerFold (action_question groups c.args.pattern.now) NotShown =
    subst (IsAnswerFold (action_question groups c.args.pattern.now)) c.in-NotShown.is
    (subst (λ (p : List Sign). IsAnswerFold (action_question groups p) c.in_ok-actions.field-0) c.signs.ensures
    (subst (λ l. IsAnswerFold (action_question (map (λ g. map signs_in g.items) l) (signs_in c.signs.result)) c.in_ok-actions.field-0) c.as_slice-3.ensures.value
    c.in_ok-actions.ensures)) in
    actions_pass every c.args.p c.args.pattern.now groups c.requires.pattern own answer

pub returns-clause-asked : goal.returns-clause-asked
returns-clause-asked c =
    let every = every_of c.args.asked in
    let applicables = map value_of c.in_ok-policies.policies.items in
    let groups = map (λ g. map signs_in g.items) c.in_ok-groups.groups.items in
    let apply : AreOwnPolicies every.world c.args.p c.in_ok-said.said.items applicables =
    subst (λ (l : List Unnamed). AreOwnPolicies every.world c.args.p l applicables) c.as_slice.ensures.value c.in_ok-policies.ensures.own in
    let own : AreOwnActionGroupsAt every c.args.p groups = record {
      said = c.in_ok-said.said.items;
      are_said = c.in_ok-said.ensures;
      applicables = applicables;
      apply = apply;
      are = subst (λ l. AreOwnActionGroups (map value_of l) groups) c.as_slice-2.ensures.value c.in_ok-groups.ensures.own;
    } in
    let answer : IsAnswerFold (action_question groups c.args.pattern.now) NotShown =
    subst (IsAnswerFold (action_question groups c.args.pattern.now)) c.in-NotShown.is
    (subst (λ (p : List Sign). IsAnswerFold (action_question groups p) c.in_ok-actions.field-0) c.signs.ensures
    (subst (λ l. IsAnswerFold (action_question (map (λ g. map signs_in g.items) l) (signs_in c.signs.result)) c.in_ok-actions.field-0) c.as_slice-3.ensures.value
    c.in_ok-actions.ensures)) in
    actions_pass every c.args.p c.args.pattern.now groups c.requires.pattern own answer
