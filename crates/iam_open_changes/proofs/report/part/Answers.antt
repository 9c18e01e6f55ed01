use Rattle.std.proofs.Common.{arith, string_bytes, subst, sym}
use Rattle.iam_open_changes.specs.Code.Parts.{IsPart}
use Rattle.iam_open_changes.proofs.PartLemmas.{part_more}
use Rattle.iam_open_changes.proofs.report.part.Goals as goal

pub loop-at-preserved : goal.loop-at-preserved
loop-at-preserved c =
    let (low, high, is, part) = c.loop-at.invariant in
    let (entry, are, adds) = c.in_ok-add_cell.ensures in
    let cells = c.args.cells in
    let before = cells.requests.now.before in
    let after = cells.requests.now.after in
    let cell = c.loop-at.at.cell in
    let next = c.next_in-at.ensures.cell in
    let new = c.add_cell.new.rows in
    let joined =
    part_more cells.format cells.brief cells.side before after c.args.from cell entry c.loop-at.rows new part are adds in (
      omega (arith, low, next),
      omega (arith, c.loop-at-test.true, next),
      λ inside. c.next_in-at.ensures.is (omega (arith, inside, next)),
      subst (λ n. IsPart cells.format cells.brief cells.side before after c.args.from n (string_bytes new.text) new.kinds) (sym next) joined,
    )
