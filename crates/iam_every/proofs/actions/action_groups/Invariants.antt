use Rattle.std.proofs.Common.{[], map, take}
use Rattle.std.specs.List.{flat_map}
use Rattle.iam_decision.specs.Applicable.{value_of}
use Rattle.iam_every.specs.Elements.{HasPrints, elements_in}
use Rattle.iam_every.specs.OwnActions.{elements_of}
use Rattle.iam_every.specs.OwnGroups.{AreFirsts}
use Rattle.iam_every.proofs.actions.action_groups.Given as goal

abbrev pub invariant-loop-applicable : goal.invariant-loop-applicable
invariant-loop-applicable l = record {
  firsts : AreFirsts [] (flat_map elements_of (map value_of (take l.applicable-index l.applicables))) (elements_in l.elements);
  prints : HasPrints l.elements;
}
