use Rattle.std.proofs.Common.{◌∙◌, ◌++◌, subst, take}
use Rattle.std.proofs.KnownBytes.{Consumes-trans}
use Rattle.std.proofs.lemmas.Result.{err_from_is_err_and}
use Rattle.iam_asked.specs.File.{IsFileFault}
use Rattle.iam_asked.proofs.Cutting.{of_consumed}
use Rattle.iam_asked.proofs.read.read_requests.Goals as goal

pub returns-in_err-add_block-clause-fault : goal.returns-in_err-add_block-clause-fault
returns-in_err-add_block-clause-fault g c =
    let (bytes, lost, has, world) = c.loop.invariant in
    let block = take c.in-Ok.count c.read.new.buf in
    let fault = c.in_err-add_block.field-0.0 in
    let p = err_from_is_err_and c.from_residual-in_err-add_block.result c.from_residual-in_err-add_block.ensures.1 in
    rw (p.1, p.2)
    (
    of_consumed (g.R.Read.remaining c.args.reader.now) (g.R.Read.remaining c.read.new.self) (bytes ++ block) (λ all. IsFileFault c.args.world.now all fault)
    (Consumes-trans _ _ _ _ _ lost c.in-Ok.ensures.bytes.0)
    (λ more. subst (λ w. IsFileFault w ((bytes ++ block) ++ more) fault) world (c.in_err-add_block.ensures.fault bytes more has))
    )

pub loop-preserved : goal.loop-preserved
loop-preserved g c =
    let (bytes, lost, has, world) = c.loop.invariant in (
      bytes ++ take c.in-Ok.count c.read.new.buf,
      Consumes-trans _ _ _ _ _ lost c.in-Ok.ensures.bytes.0,
      c.in_ok-add_block.ensures.ok bytes has,
      c.in_ok-add_block.ensures.world ∙ world,
    )
