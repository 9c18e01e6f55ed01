use Rattle.std.proofs.Common.{arith, subst, sym}
use Rattle.iam_open.specs.Asked.{asked_of}
use Rattle.iam_open.specs.Code.Parts.{AreNeverBelow}
use Rattle.iam_open.proofs.FirstLemmas.{never_more, none_here}
use Rattle.iam_open.proofs.first.first_in.Goals as goal

pub loop-at-preserved : goal.loop-at-preserved
loop-at-preserved c =
    let so_far = c.loop-at.invariant in
    let asked = asked_of c.args.asked in
    let world = c.args.world.now in
    let cell = c.loop-at.at.cell in
    let next = c.next_in-at.ensures in
    let here = none_here asked world cell c.in_ok-found.field-0 (λ one. c.in_default.not-Some one) c.in_ok-found.ensures in
    let more = never_more asked world c.args.from c.args.to cell here so_far.never in
    record {
      least = omega (arith, so_far.least, next.cell);
      there = λ inside. next.is (omega (arith, inside, next.cell));
      never = subst (λ n. AreNeverBelow asked world c.args.from c.args.to n) (sym next.cell) more;
    }
