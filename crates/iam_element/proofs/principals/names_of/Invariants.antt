use Rattle.std.proofs.Common.{◌≡◌, ◌++◌, drop}
use Rattle.std.specs.List.{flat_map}
use Rattle.serde_json.specs.View.{view}
use Rattle.iam_element.specs.Principal.{principal_kinds}
use Rattle.iam_element.specs.Reading.{names_under}
use Rattle.iam_element.proofs.principals.names_of.Given as goal

-- the names so far, and those of the types that are left
abbrev pub invariant-loop-kind : goal.invariant-loop-kind
invariant-loop-kind l =
    flat_map (names_under (view l.element)) principal_kinds
    ≡ l.names.items ++ flat_map (names_under (view l.element)) (drop l.kind-index principal_kinds)
