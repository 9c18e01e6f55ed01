use Rattle.std.proofs.lemmas.Result.{err_from_is_err_and}
use Rattle.iam_shape.specs.declared.path.Name.TheVariants.{Context}
use Rattle.iam_shape.specs.declared.path.Path.TheVariants.{Field}
use Rattle.iam_world_context.proofs.PartLemmas.{clean_next, part_here, part_later}
use Rattle.iam_world_context.proofs.contexts.check_parts.Goals as goal

pub returns-in_err-check_part-clause-fault : goal.returns-in_err-check_part-clause-fault
returns-in_err-check_part-clause-fault c =
    let p = err_from_is_err_and c.from_residual.result c.from_residual.ensures.1 in
    rw (p.1, p.2)
    (
    λ other keys has.
    c.loop-i.invariant.first keys has c.in_err-check_part.field-0.0
    (part_here (λ part. part.items) keys (λ i. Field c.args.list i Context) c.args.parts.now c.loop-i.i c.index-parts-i.result c.in_err-check_part.field-0.0
    c.loop-i-test.true c.index-parts-i.is (c.in_err-check_part.ensures.fault other keys has))
    )

pub loop-i-preserved : goal.loop-i-preserved
loop-i-preserved c =
    let parts = c.args.parts.now in
    let i = c.loop-i.i in
    let part = c.index-parts-i.result in
    record {
      clean = λ keys has.
          clean_next (λ part. part.items) keys parts i part c.loop-i-test.true c.index-parts-i.is (c.loop-i.invariant.clean keys has)
          (c.in_ok-check_part.ensures.clean keys has);
      first = λ keys has fault later.
          c.loop-i.invariant.first keys has fault
          (part_later (λ part. part.items) keys (λ i. Field c.args.list i Context) parts i part c.loop-i-test.true c.index-parts-i.is
          (c.in_ok-check_part.ensures.clean keys has) fault later);
    }
