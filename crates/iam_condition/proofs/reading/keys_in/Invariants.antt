use Rattle.std.proofs.Common.{◌≡◌, ◌++◌, map}
use Rattle.std.specs.List.{flat_map}
use Rattle.serde_json.specs.View.{members_view, view}
use Rattle.iam_condition.specs.Code.Reading.{given_of}
use Rattle.iam_condition.specs.Condition.{given_under, member_list, members_of}
use Rattle.iam_condition.proofs.reading.keys_in.Given as goal

-- the keys so far, and those that are left
abbrev pub invariant-loop-name : goal.invariant-loop-name
invariant-loop-name l =
    flat_map given_under (members_of (view l.condition))
    ≡ map given_of l.keys.items ++ flat_map given_under (member_list (members_view l.name-iterator))
