use Rattle.std.proofs.Common.{◌≡◌, map, take, drop}
use Rattle.std.specs.List.{AllZip}
use Rattle.serde_json.specs.View.{view}
use Rattle.iam_shape.specs.Shape.{each, first_bad}
use Rattle.iam_shape.proofs.shape.walk_list.Given as goal

-- what is left decides, and what was found is said by what was walked
abbrev pub invariant-loop-i : goal.invariant-loop-i
invariant-loop-i g l = record {
  left : first_bad (each g.P.Part.checks 0 (map view l.values)) ≡ first_bad (each g.P.Part.checks l.i (map view (drop l.i l.values)));
  said : AllZip g.P.Part.says (map view (take l.i l.values)) l.found.items;
}
