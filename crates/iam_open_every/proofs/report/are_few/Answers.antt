use Rattle.std.proofs.Common.{List, ap, arith, length}
use Rattle.std.proofs.lemmas.List.Folds.{length-flat_map-take}
use Rattle.iam_open_every.specs.declared.crew.Chosen.{Chosen}
use Rattle.iam_open_every.specs.declared.rows.Row.{Row}
use Rattle.iam_open_every.proofs.report.are_few.Goals as goal

pub returns-then-count-gt-ROWS : goal.returns-then-count-gt-ROWS
returns-then-count-gt-ROWS c =
    let chosen = c.chosen-item.result in
    let fits = length-flat_map-take (λ (x : Chosen). x.rows) c.args.all.now c.loop-chosen.chosen-index chosen c.loop-chosen-test.true in
    let here = ap (λ (x : Chosen). length x.rows) c.chosen-item.is in
    let long = ap (λ (rows : List Row). length rows) c.as_slice.ensures in
    (λ wrong. let no : ⊥ = cc in absurd no, λ few. absurd (omega (arith, fits, here, long, few, c.loop-chosen.invariant.count, c.if-count-gt-ROWS.true)))
