use Rattle.std.proofs.Common.{map, take}
use Rattle.iam_decision.specs.Code.Scan.{placed_value}
use Rattle.iam_every.specs.Elements.{Adds, HasPrints, elements_in}
use Rattle.iam_every.proofs.actions.Elements.add_policies.Given as goal

abbrev pub invariant-loop-standing : goal.invariant-loop-standing
invariant-loop-standing l = record {
  adds : Adds (elements_in l.fn.self) (map (λ s. s.statement.action) (map placed_value (take l.standing-index l.standing-items))) (elements_in l.self);
  prints : HasPrints l.self;
}
