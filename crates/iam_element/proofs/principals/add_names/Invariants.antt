use Rattle.std.proofs.Common.{◌≡◌, ◌++◌, map, drop}
use Rattle.std.specs.List.{filter_map}
use Rattle.serde_json.specs.Find.{as_str}
use Rattle.serde_json.specs.View.{view}
use Rattle.iam_element.specs.Reading.{typed}
use Rattle.iam_element.proofs.principals.add_names.Given as goal

-- the names so far, and those of what is left
abbrev pub invariant-loop-value : goal.invariant-loop-value
invariant-loop-value l =
    l.initial.names.items ++ typed l.kind (filter_map as_str (map view l.values))
    ≡ l.names.items ++ typed l.kind (filter_map as_str (map view (drop l.value-index l.values)))
