use Rattle.std.proofs.Common.{rules, refl}
use Rattle.std.proofs.lemmas.Grind.{put_two}
use Rattle.iam_row.specs.Words.{marked}
use Rattle.iam_row.specs.Words.{place_text}
use Rattle.iam_row.proofs.Rendered.{all_marked}
use Rattle.iam_row.proofs.words.PlacesDisplay.fmt.Goals as goal

pub returns-clause-writes : goal.returns-clause-writes
unfolding marked
returns-clause-writes g c plain same =
    let all = c.args.self.now in
    let whole = all_marked place_text all.mark.now all.between.now c.in-Some.first.now (place_text c.in-Some.first.now) c.in-Some.rest.now all.places.now c.loop-place.place-index refl c.in-Some.ensures.cases.0 c.loop-place-test.false in
    put_two _ _ _ _ _ _ _ (c.in_ok-write.ensures.writes plain same) (c.loop-place.invariant (search rules)) whole
