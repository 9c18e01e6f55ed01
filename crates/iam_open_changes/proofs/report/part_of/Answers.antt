use Rattle.std.proofs.Common.{◌≡◌, ◌∙◌, ◌+◌, ◌*◌, ◌/◌, ◌<◌, ℕ, List, [], ap, arith, length, subst}
use Rattle.std.proofs.Math.Nat.{add-mul, lt-div-mul-add}
use Rattle.std.specs.List.{flat_map}
use Rattle.iam_open_changes.specs.Code.Adds.{kinds_with, no_kinds}
use Rattle.iam_open_changes.specs.Code.Parts.{IsPart, from_of, to_of, world_at}
use Rattle.iam_open_changes.specs.declared.rows.Part.{Part}
use Rattle.iam_open_changes.proofs.PartLemmas.{all_parts, part_none, text_of}
use Rattle.iam_open_changes.proofs.report.part_of.Goals as goal
use Rattle.iam_world.specs.World.{world_cells}

pub returns : goal.returns
returns g c =
    let before = c.args.requests.now.before in
    let after = c.args.requests.now.after in
    let side = c.args.side in
    let format = c.args.format in
    let brief = c.args.brief in
    let world = world_at side before after in
    let outputs : List Part = c.in_ok-gathered.gathered.outputs.items in
    let cells = c.cells-cells.result in
    let each = cells / 4096 + 1 in
    let cells_are : cells ≡ world_cells world = c.cells-cells.ensures.value ∙ ap world_cells c.world_at.ensures in
    let some : 0 < each = omega arith in
    let beyond : cells < cells / each * each + each = lt-div-mul-add some in
    let tiles : (cells / each + 1) * each ≡ cells / each * each + each = omega (arith, add-mul (cells / each) 1 each) in
    let F : ℕ → Type 0 = λ n. IsPart format brief side before after 0 n [] no_kinds in
    let start : 0 ≡ from_of world each 0 = omega arith in
    let all = all_parts format brief side before after each 0 outputs [] no_kinds (subst F start (part_none format brief side before after 0)) (
    λ i part at.
    let place : i ≡ 0 + i = omega arith in
    subst (λ n. IsPart format brief side before after (from_of world each n) (to_of world each n) (text_of part) part.kinds) place
    (c.in_ok-gathered.ensures.given i part at)
    ) in
    let count : 0 + length outputs ≡ cells / each + 1 = omega (arith, c.in_ok-gathered.ensures.count) in
    let end : from_of world each (0 + length outputs) ≡ world_cells world = ap (from_of world each) count ∙ omega (arith, tiles, beyond, cells_are) in
    subst (λ n. IsPart format brief side before after 0 n (flat_map text_of outputs) (kinds_with no_kinds outputs)) end all
