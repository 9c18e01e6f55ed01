use Rattle.std.proofs.Common.{ℕ, List, length, ap, ◌∙◌, subst}
use Rattle.iam_world.specs.World.{WorldValue}
use Rattle.iam_matrix.specs.Code.Tiles.{AreTailsOf, Chain}
use Rattle.iam_matrix.proofs.Tiles.{chain_all}
use Rattle.iam_matrix.proofs.report.indexed_tiles.Goals as goal

pub returns : goal.returns
returns g c =
    let asked = c.args.asked in
    let lengths = c.args.cut.now in
    let gathered = c.in_ok-gathered.ensures in
    let outputs = c.in_ok-gathered.gathered.outputs.items in
    let chained = chain_all (λ from n output. AreTailsOf asked.format asked.brief c.survey_of-survey.result from n output) lengths outputs
    (gathered.count ∙ ap (λ (ls : List ℕ). length ls) c.lengths.ensures.value) gathered.given in
    let W : WorldValue → Type 0 = λ w. Chain (AreTailsOf asked.format asked.brief w) 0 lengths outputs in subst W c.survey_of-survey.ensures chained
