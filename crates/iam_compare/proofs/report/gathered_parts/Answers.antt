use Rattle.std.proofs.Common.{◌+◌, ℕ, List, length, ap, ◌∙◌}
use Rattle.iam_matrix.proofs.Tiles.{chain_all}
use Rattle.iam_compare.specs.Code.Walk.{IsPartOf, asked_of, reached}
use Rattle.iam_compare.proofs.report.gathered_parts.Goals as goal

pub returns : goal.returns
returns g c =
    let crew = c.args.crew.now in
    let requests = crew.requests.now in
    let gathered = c.in_ok-gathered.ensures in
    chain_all (λ from n part. IsPartOf (asked_of crew) requests crew.asked.format crew.asked.brief (reached requests from) (reached requests (from + n)) part) crew.cut.now
    c.in_ok-gathered.gathered.outputs.items (gathered.count ∙ ap (λ (ls : List ℕ). length ls) c.lengths.ensures.value) gathered.given
