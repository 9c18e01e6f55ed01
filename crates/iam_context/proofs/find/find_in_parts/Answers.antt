use Rattle.std.proofs.Common.{◌∙◌, ap, option_map, sym}
use Rattle.iam_context.proofs.Finding.{found_here, found_next}
use Rattle.iam_context.proofs.find.find_in_parts.Goals as goal

pub returns-in-Some : goal.returns-in-Some
returns-in-Some c =
    sym (c.loop-part.invariant ∙ found_here (λ part. part.now.items) c.args.parts.now c.loop-part.part-index c.part-item.result c.args.key.now c.in-Some.values.now
    c.loop-part-test.true c.part-item.is c.in-Some.ensures)

pub loop-part-preserved : goal.loop-part-preserved
loop-part-preserved c =
    c.loop-part.invariant ∙ found_next (λ part. part.now.items) c.args.parts.now c.loop-part.part-index c.part-item.result c.args.key.now
    c.loop-part-test.true c.part-item.is
    (ap (λ o. option_map (λ values. values.now) o) (sym c.in_default.is) ∙ c.find_in_part.ensures)
