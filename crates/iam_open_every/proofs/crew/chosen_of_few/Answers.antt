use Rattle.iam_every.specs.Every.{every_of}
use Rattle.iam_every.proofs.ReportLemmas.{zipped}
use Rattle.iam_open_every.specs.Code.Texts.{IsChosen}
use Rattle.iam_open_every.proofs.crew.chosen_of_few.Goals as goal

pub returns : goal.returns
returns g c =
    zipped (IsChosen c.args.brief (every_of c.args.asked) c.args.words.now) c.args.principals.now c.in_ok-gathered.gathered.outputs.items
    c.in_ok-gathered.ensures.count c.in_ok-gathered.ensures.given
