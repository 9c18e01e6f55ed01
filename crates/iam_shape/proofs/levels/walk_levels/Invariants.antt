use Rattle.std.proofs.Common.{◌≡◌, map, drop}
use Rattle.serde_json.specs.View.{view}
use Rattle.iam_shape.specs.Shape.{each, first_bad}
use Rattle.iam_shape.specs.Code.Walk.{level_checks}
use Rattle.iam_shape.proofs.levels.walk_levels.Given as goal

-- what is left decides
abbrev pub invariant-loop-j : goal.invariant-loop-j
invariant-loop-j l =
    first_bad (each (level_checks l.list l.i l.name) 0 (map view l.levels))
    ≡ first_bad (each (level_checks l.list l.i l.name) l.j (map view (drop l.j l.levels)))
