use Rattle.std.proofs.Common.{rules}
use Rattle.std.proofs.lemmas.Grind.{put_two}
use Rattle.iam_row.specs.Words.{marked}
use Rattle.iam_row.specs.Words.{layer_word}
use Rattle.iam_row.proofs.Rendered.{all_marked}
use Rattle.iam_row.proofs.words.LayersDisplay.fmt.Goals as goal

pub returns-clause-writes : goal.returns-clause-writes
unfolding marked
returns-clause-writes g c plain same =
    let all = c.args.self.now in
    let whole = all_marked layer_word all.mark.now all.between.now c.in-Some.first.now c.layer_word-word.result.now c.in-Some.rest.now all.layers.now c.loop-layer.layer-index c.layer_word-word.ensures c.in-Some.ensures.cases.0 c.loop-layer-test.false in
    put_two _ _ _ _ _ _ _ (c.in_ok-write.ensures.writes plain same) (c.loop-layer.invariant (search rules)) whole
