use Rattle.std.proofs.Common.{[], List, map, subst, sym, take}
use Rattle.std.proofs.lemmas.List.{take_all}
use Rattle.std.proofs.lemmas.List.Elements.{All-contains}
use Rattle.std.proofs.lemmas.Result.{IfOk-weaker}
use Rattle.std.specs.List.{flat_map}
use Rattle.iam_element.specs.Reading.{ActionElement}
use Rattle.iam_decision.specs.Applicable.{IsNumbered, value_of}
use Rattle.iam_glob.specs.Signs.{signs_in}
use Rattle.iam_every.specs.Elements.{elements_in}
use Rattle.iam_every.specs.Names.{AreActionGroups}
use Rattle.iam_every.specs.OwnActions.{AreOwnActionGroups, elements_of}
use Rattle.iam_every.specs.OwnGroups.{AreFirsts}
use Rattle.iam_every.proofs.ActionLemmas.{own_action_groups}
use Rattle.iam_every.proofs.ListLemmas.{flat_more, mapped}
use Rattle.iam_every.proofs.actions.action_groups.Goals as goal

pub add_policies-requires-clause-numbered : goal.add_policies-requires-clause-numbered
add_policies-requires-clause-numbered c =
    let item = c.applicable-item.result in
    All-contains IsNumbered (map value_of c.args.applicables.now) (value_of item) c.requires
    (mapped value_of item c.args.applicables.now (c.loop-applicable.applicable-index, c.loop-applicable-test.true, sym c.applicable-item.is))

pub loop-applicable-init : goal.loop-applicable-init
loop-applicable-init c = record {
  firsts = c.new-elements.ensures.listed;
  prints = c.new-elements.ensures.prints;
}

pub loop-applicable-preserved : goal.loop-applicable-preserved
loop-applicable-preserved c =
    let all = c.args.applicables.now in
    let i = c.loop-applicable.applicable-index in
    let item = c.applicable-item.result in
    record {
      firsts = subst (λ (l : List ActionElement). AreFirsts [] l (elements_in c.add_policies.new.self))
          (flat_more elements_of value_of all i item c.loop-applicable-test.true c.applicable-item.is)
          (c.in_ok-add_policies.ensures.adds (flat_map elements_of (map value_of (take i all))) c.loop-applicable.invariant.firsts);
      prints = c.in_ok-add_policies.ensures.prints;
    }

firsts : (c : goal.After-drop-elements-3) → AreFirsts [] (flat_map elements_of (map value_of c.args.applicables.now)) (elements_in c.loop-applicable.elements)
firsts c =
    subst (λ l. AreFirsts [] (flat_map elements_of (map value_of l)) (elements_in c.loop-applicable.elements))
    (take_all c.loop-applicable.applicable-index c.args.applicables.now c.loop-applicable-test.false) c.loop-applicable.invariant.firsts

pub returns-clause-own : goal.returns-clause-own
returns-clause-own c =
    IfOk-weaker c.groups.result _ (λ groups. AreOwnActionGroups (map value_of c.args.applicables.now) (map (λ g. map signs_in g.items) groups.items))
    (λ groups is. (elements_in c.loop-applicable.elements, firsts c, is)) c.groups.ensures

pub returns-clause-groups : goal.returns-clause-groups
returns-clause-groups c =
    let applicables = map value_of c.args.applicables.now in
    IfOk-weaker c.groups.result _ (λ groups. AreActionGroups applicables (map (λ g. map signs_in g.items) groups.items))
    (λ groups is. own_action_groups applicables (map (λ g. map signs_in g.items) groups.items) (elements_in c.loop-applicable.elements, firsts c, is))
    c.groups.ensures
