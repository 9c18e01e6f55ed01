use Rattle.std.proofs.Common.{drop, map, take}
use Rattle.std.specs.List.{AllByRecursion, AllZip}
use Rattle.iam_condition.specs.Code.Reading.{IsFineGiven, given_of}
use Rattle.iam_condition.specs.Condition.{ReadsEntry}
use Rattle.iam_condition.proofs.reading.read_keys.Given as goal

-- the keys so far are read, and those that are left are fine
abbrev pub invariant-loop-key : goal.invariant-loop-key
invariant-loop-key l = record {
  so_far : AllZip (ReadsEntry l.version) (map given_of (take l.key-index l.keys)) l.entries.items;
  fine : AllByRecursion (IsFineGiven l.version) (map given_of (drop l.key-index l.keys));
}
