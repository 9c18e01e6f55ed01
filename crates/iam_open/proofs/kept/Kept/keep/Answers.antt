use Rattle.iam_open.proofs.kept.Kept.keep.Goals as goal

pub returns : goal.returns
returns c = λ world kept is. c.put.ensures world kept is
