use Rattle.iam_every_changes.specs.Code.Told.{IsLookedAt}
use Rattle.iam_every_changes.specs.Compared.{compared_of}
use Rattle.iam_every_changes.proofs.ReportLemmas.{zipped}
use Rattle.iam_every_changes.proofs.crew.looked_at_few.Goals as goal

pub returns : goal.returns
returns g c =
    zipped (IsLookedAt (compared_of c.args.compared)) c.args.whos.now c.in_ok-gathered.gathered.outputs.items c.in_ok-gathered.ensures.count
    (λ i looked who at there. c.in_ok-gathered.ensures.given i looked at who there)
