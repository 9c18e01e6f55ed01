use Rattle.std.proofs.Common.{Option, subst, sym}
use Rattle.iam_open_changes.specs.Code.Texts.{texts_of}
use Rattle.iam_open_changes.specs.Report.{IsAt}
use Rattle.iam_open_changes.specs.declared.numbers.Numbers.{Numbers}
use Rattle.iam_open_changes.proofs.CellsLemmas.{found_at, there_of}
use Rattle.iam_row.specs.Report.{IsCellTexts}
use Rattle.iam_open_changes.proofs.report.found_in.Goals as goal

pub returns : goal.returns
returns c =
    let other = c.args.finder.now.other in
    let texts = texts_of c.args.texts in
    let cell : IsCellTexts c.args.finder.now.world c.args.at.cell texts = (c.args.at.principal, c.args.at.action, c.args.at.resource, c.requires.cell, c.requires.texts) in
    let is : IsAt other texts c.numbers_of.result =
    subst (λ (x : Option Numbers). IsAt other texts x) (sym c.numbers_of.ensures) (found_at other texts c.find.result (c.find.ensures texts cell)) in
    record { at = is; there = there_of other c.numbers_of.result texts is }
