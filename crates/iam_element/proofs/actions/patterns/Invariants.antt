use Rattle.std.proofs.Common.{◌≡◌, ◌++◌, map, drop}
use Rattle.std.specs.List.{filter_map}
use Rattle.serde_json.specs.Find.{as_str}
use Rattle.serde_json.specs.View.{view}
use Rattle.iam_element.specs.Reading.{pattern_of}
use Rattle.iam_element.proofs.actions.patterns.Given as goal

-- the patterns so far, and those of what is left
abbrev pub invariant-loop-value : goal.invariant-loop-value
invariant-loop-value l =
    map pattern_of (filter_map as_str (map view l.values))
    ≡ l.globs.items ++ map pattern_of (filter_map as_str (map view (drop l.value-index l.values)))
