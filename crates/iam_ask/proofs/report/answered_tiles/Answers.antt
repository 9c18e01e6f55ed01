use Rattle.std.proofs.Common.{ℕ, List, length, ap, ◌∙◌}
use Rattle.iam_matrix.proofs.Tiles.{chain_all}
use Rattle.iam_ask.specs.Code.Rows.{AreTailsOf}
use Rattle.iam_ask.proofs.report.answered_tiles.Goals as goal

pub returns : goal.returns
returns g c =
    let gathered = c.in_ok-gathered.ensures in
    chain_all (λ from n output. AreTailsOf c.args.format c.args.brief c.args.requests.now from n output) c.args.cut.now
    c.in_ok-gathered.gathered.outputs.items (gathered.count ∙ ap (λ (ls : List ℕ). length ls) c.lengths.ensures.value) gathered.given
