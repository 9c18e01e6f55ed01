use Rattle.std.proofs.Common.{arith}
use Rattle.iam_every_changes.proofs.ReportLemmas.{kept_within}
use Rattle.iam_every_changes.proofs.report.are_few.Goals as goal

pub returns-then-count-gt-ROWS : goal.returns-then-count-gt-ROWS
returns-then-count-gt-ROWS c =
    let fits = kept_within c.args.all.now c.loop-looked.looked-index c.looked-item.result c.loop-looked-test.true c.looked-item.is in
    let long = c.len-count.ensures in
    (λ wrong. let no : ⊥ = cc in absurd no, λ few. absurd (omega (arith, fits, long, few, c.loop-looked.invariant.count, c.if-count-gt-ROWS.true)))
