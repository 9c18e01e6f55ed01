use Rattle.std.proofs.Common.{◌≡◌, ◌++◌, map}
use Rattle.serde_json.specs.View.{members_view, view}
use Rattle.iam_condition.specs.Code.Reading.{given_of}
use Rattle.iam_condition.specs.Code.Walks.{given}
use Rattle.iam_condition.specs.Condition.{member_list, members_of}
use Rattle.iam_condition.proofs.reading.add_under.Given as goal

-- the keys so far, and those that are left
abbrev pub invariant-loop-name : goal.invariant-loop-name
invariant-loop-name l =
    map given_of l.initial.keys.items ++ map (given l.operator) (members_of (view l.under))
    ≡ map given_of l.keys.items ++ map (given l.operator) (member_list (members_view l.name-iterator))
