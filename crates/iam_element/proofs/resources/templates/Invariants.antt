use Rattle.std.proofs.Common.{map, take, true}
use Rattle.std.specs.List.{AllZip, filter_map}
use Rattle.serde_json.specs.Find.{as_str}
use Rattle.serde_json.specs.View.{view}
use Rattle.iam_text.specs.Draft.{IsDraftIn}
use Rattle.iam_element.proofs.resources.templates.Given as goal

-- the templates of the texts so far
abbrev pub invariant-loop-value : goal.invariant-loop-value
invariant-loop-value l = AllZip (IsDraftIn l.version true) (filter_map as_str (take l.value-index (map view l.values))) l.templates.items
