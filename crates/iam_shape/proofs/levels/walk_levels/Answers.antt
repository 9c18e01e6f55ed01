use Rattle.std.proofs.Common.{◌≡◌, None, map, arith}
use Rattle.std.proofs.lemmas.Grind.{common_steps}
use Rattle.serde_json.specs.View.{view}
use Rattle.iam_shape.specs.Shape.{each, first_bad}
use Rattle.iam_shape.specs.Code.Walk.{level_checks}
use Rattle.iam_shape.proofs.LevelLists.{all_levels}
use Rattle.iam_shape.proofs.levels.walk_levels.Goals as goal

pub returns : goal.returns
returns c =
    let clear : first_bad (each (level_checks c.args.list c.args.i c.args.name) 0 (map view c.args.levels.now)) ≡ None = grind (arith, common_steps) in
    (clear, all_levels view c.args.list c.args.i c.args.name 0 c.args.levels.now clear)
