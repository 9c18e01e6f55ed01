use Rattle.std.proofs.Common.{List, ap, arith, length}
use Rattle.iam_every.specs.declared.rows.Row.{Row}
use Rattle.iam_every.proofs.ReportLemmas.{count_within}
use Rattle.iam_every.proofs.report.are_few.Goals as goal

pub returns-then-count-gt-ROWS : goal.returns-then-count-gt-ROWS
returns-then-count-gt-ROWS c =
    let fits = count_within c.args.all.now c.loop-chosen.chosen-index c.chosen-item.result c.loop-chosen-test.true c.chosen-item.is in
    let long = ap (λ (rows : List Row). length rows) c.as_slice.ensures in
    (λ wrong. let no : ⊥ = cc in absurd no, λ few. absurd (omega (arith, fits, long, few, c.loop-chosen.invariant.count, c.if-count-gt-ROWS.true)))
