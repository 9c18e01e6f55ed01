use Rattle.std.proofs.Common.{◌≡◌, ◌∷◌, [], ◌++◌, List, map, take, true, sym, ap, ◌∙◌, subst}
use Rattle.std.proofs.lemmas.List.{map-append}
use Rattle.iam_decision.specs.Code.Scan.{placed_value}
use Rattle.iam_decision.specs.Matched.{Placed}
use Rattle.iam_every.specs.Groups.{groups_of, signs_of}
use Rattle.iam_every.specs.OwnGroups.{AreNegatedGroups, HasElement, patterns_in}
use Rattle.iam_every.proofs.SideLemmas.{negated_more, negated_skip, placed_more}
use Rattle.iam_every.proofs.groups.negated_groups.Goals as goal
use Rattle.iam_every.proofs.groups.negated_groups.Goals.{then-has_element+in_ok-add_texts+in_ok-push, else-has_element}

pub loop-standing-preserved : goal.loop-standing-preserved
loop-standing-preserved c =
    let context = c.args.context.now in
    let statements = c.args.statements.now in
    let i = c.loop-standing.standing-index in
    let x = c.standing-item.result in
    let s : Placed = placed_value x in
    let before = map placed_value (take i statements) in
    let groups = groups_of c.loop-standing.groups.items in
    let step = placed_more statements i x c.loop-standing-test.true c.standing-item.is in
    let told = c.has_element.ensures x.place in
    subst (λ (z : List Placed). AreNegatedGroups context z (groups_of c.if-has_element.groups.items)) (sym step)
    (elim c.if-has_element.branch [
      | then-has_element+in_ok-add_texts+in_ok-push w ↦
          let group = map signs_of w.add_texts.new.patterns.items in
          let made : group ≡ patterns_in context s.statement.resource =
          w.in_ok-add_texts.ensures
          ∙ ap (λ (items : List _). map signs_of items ++ patterns_in context s.statement.resource) w.new-group.ensures.items in
          let now : groups_of c.if-has_element.groups.items ≡ groups ++ (group ∷ []) =
          ap (λ v. groups_of v.items) w.groups-is ∙ ap (λ items. groups_of items) w.in_ok-push.ensures.items
          ∙ map-append (λ g. map signs_of g.items) c.loop-standing.groups.items _ in
          subst (AreNegatedGroups context (before ++ (s ∷ []))) (sym now)
          (negated_more context before s groups group c.loop-standing.invariant (told.0 w.if-has_element.true) made)
      | else-has_element w ↦
          let none : ¬ HasElement true s = λ has. let yes = told.1 has in let no = w.if-has_element.false in let wrong : ⊥ = cc in wrong in
          subst (AreNegatedGroups context (before ++ (s ∷ []))) (ap (λ v. groups_of v.items) (sym w.groups-is))
          (negated_skip context before s groups c.loop-standing.invariant none)
    ])
