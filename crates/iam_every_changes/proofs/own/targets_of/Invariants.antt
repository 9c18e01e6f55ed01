use Rattle.std.proofs.Common.{map, take}
use Rattle.std.specs.List.{AllZip}
use Rattle.iam_every_changes.specs.Code.Given.{target_of}
use Rattle.iam_every_changes.specs.Made.{IsTarget}
use Rattle.iam_every_changes.specs.States.{both_of}
use Rattle.iam_every_changes.proofs.own.targets_of.Given as goal

abbrev pub invariant-loop-text : goal.invariant-loop-text
invariant-loop-text l =
    AllZip (IsTarget (both_of l.both)) (map (λ text. text.now) (take l.text-index l.texts)) (map target_of l.targets.items)
