use Rattle.iam_app.proofs.selected.asked_report.Goals as goal

pub returns-in-Matrix-clause-some : goal.returns-in-Matrix-clause-some
returns-in-Matrix-clause-some g c = rw c.in-Matrix.is c.matrix.ensures.some

pub returns-in-First-clause-some : goal.returns-in-First-clause-some
returns-in-First-clause-some g c = rw c.in-First.is c.first.ensures.some
