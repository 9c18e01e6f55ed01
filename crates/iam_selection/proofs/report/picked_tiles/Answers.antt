use Rattle.std.proofs.Common.{ℕ, List, length, ap, ◌∙◌}
use Rattle.iam_matrix.proofs.Tiles.{chain_all}
use Rattle.iam_selection.specs.Code.Listing.{AreFound}
use Rattle.iam_selection.proofs.report.picked_tiles.Goals as goal

pub returns : goal.returns
returns g c =
    let gathered = c.in_ok-gathered.ensures in
    chain_all (λ from n output. AreFound c.args.format c.args.brief c.args.picker.now.selection c.args.index.now from n output) c.args.cut.now
    c.in_ok-gathered.gathered.outputs.items (gathered.count ∙ ap (λ (ls : List ℕ). length ls) c.lengths.ensures.value) gathered.given
