use Rattle.std.proofs.Common.{arith, string_bytes, subst, sym}
use Rattle.iam_open.specs.Asked.{asked_of}
use Rattle.iam_open.specs.Code.Parts.{IsPart}
use Rattle.iam_open.proofs.PartLemmas.{part_more}
use Rattle.iam_open.proofs.report.part.Goals as goal

pub loop-at-preserved : goal.loop-at-preserved
loop-at-preserved c =
    let so_far = c.loop-at.invariant in
    let (told, is_told, made) = c.in_ok-put_told.ensures.told in
    let format = c.args.cells.quoted.now.format in
    let brief = c.args.cells.brief in
    let asked = asked_of c.args.cells.asked in
    let world = c.args.cells.world.now in
    let next = c.next_in-at.ensures.cell in
    record {
      low = omega (arith, so_far.low, next);
      high = omega (arith, c.loop-at-test.true, next);
      there = λ inside. c.next_in-at.ensures.is (omega (arith, inside, next));
      kept = c.in_ok-put_told.ensures.kept;
      part = subst (λ n. IsPart format brief asked world c.args.from n (string_bytes c.put_told.new.text)) (sym next)
          (part_more format brief asked world c.args.from c.loop-at.at.cell (string_bytes c.loop-at.text) (string_bytes c.put_told.new.text) told so_far.part
          is_told made);
    }
