use Rattle.std.proofs.Common.{drop, map, take}
use Rattle.std.specs.List.{AllByRecursion, AllZip}
use Rattle.serde_json.specs.View.{view}
use Rattle.iam_condition.specs.Code.Reading.{IsFine}
use Rattle.iam_condition.specs.Condition.{ReadsValue}
use Rattle.iam_condition.proofs.reading.read_values.Given as goal

-- the values so far are read, and those that are left are fine
abbrev pub invariant-loop-value : goal.invariant-loop-value
invariant-loop-value l = record {
  so_far : AllZip (ReadsValue l.version l.base) (map view (take l.value-index l.values)) l.read.items;
  fine : AllByRecursion (IsFine l.version l.base) (map view (drop l.value-index l.values));
}
