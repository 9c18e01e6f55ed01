use Rattle.std.proofs.Common.{◌≡◌, ◌+◌, ◌++◌, ◌∷◌, [], ◌∙◌, List, ap, map, subst, take}
use Rattle.std.proofs.lemmas.List.{take_all}
use Rattle.iam_element.specs.Reading.{ActionElement}
use Rattle.iam_decision.specs.Code.Scan.{placed_value}
use Rattle.iam_decision.specs.Applicable.{value_of}
use Rattle.iam_decision.specs.Matched.{Placed, placed}
use Rattle.iam_every.specs.Elements.{Adds, elements_in}
use Rattle.iam_every.proofs.ElementLemmas.{adds_more}
use Rattle.iam_every.proofs.ListLemmas.{map_more}
use Rattle.iam_every.proofs.actions.Elements.add_policies.Goals as goal

pub loop-standing-preserved : goal.loop-standing-preserved
loop-standing-preserved c =
    let all = c.as_slice-standing-items.result.now in
    let i = c.loop-standing.standing-index in
    let element : ActionElement = c.action.result.now in
    let action : Placed → ActionElement = λ s. s.statement.action in
    let so_far = map action (map placed_value (take i all)) in
    let more : so_far ++ element ∷ [] ≡ map action (map placed_value (take (i + 1) all)) =
    ap (λ (e : ActionElement). so_far ++ e ∷ []) c.action.ensures
    ∙ map_more action placed_value all i c.standing-item.result c.loop-standing-test.true c.standing-item.is in
    record {
      adds = subst (λ (l : List ActionElement). Adds (elements_in c.args.self.now) l (elements_in c.add.new.self)) more
          (adds_more (elements_in c.args.self.now) so_far (elements_in c.loop-standing.self) (element ∷ []) (elements_in c.add.new.self)
          c.loop-standing.invariant.adds c.in_ok-add.ensures.adds);
      prints = c.in_ok-add.ensures.prints;
    }

pub returns-clause-adds : goal.returns-clause-adds
returns-clause-adds c =
    let a = value_of c.args.applicable.now in
    let all = c.as_slice-standing-items.result.now in
    let whole : map placed_value all ≡ placed a =
    ap (map placed_value) c.as_slice-standing-items.ensures.value ∙ c.in_ok-statements.ensures in
    subst (λ (l : List Placed). Adds (elements_in c.args.self.now) (map (λ s. s.statement.action) l) (elements_in c.loop-standing.self))
    (ap (map placed_value) (take_all c.loop-standing.standing-index all c.loop-standing-test.false) ∙ whole) c.loop-standing.invariant.adds
